use Rattle.std.proofs.Common.{[], ap, ◌∙◌, arith}
use Rattle.byteorder.specs.Endian.{big_number}
use Rattle.byteorder.specs.Numbers.{big_number-reads_back}
use Rattle.tup_table.proofs.finishing.place_bytes.Goals as goal

pub returns-clause-says : goal.returns-clause-says
returns-clause-says c = ap (big_number 8) c.write_u64.ensures ∙ big_number-reads_back 8 c.args.place [] (omega (arith, c.ranges.place))
