use Rattle.std.proofs.Common.{sym}
use Rattle.std.specs.Option.{option_copied}
use Rattle.tup_scan_diff.proofs.Indexed.{beside_so}
use Rattle.tup_scan_diff.proofs.index.Index.name_beside.Goals as goal

pub returns-in-Some : goal.returns-in-Some
returns-in-Some c = beside_so c.args.self.now c.args.path.now c.in-Some.last.now (option_copied c.beside.result) (sym c.in-Some.ensures) c.beside.ensures
