use Rattle.std.specs.Str.{chars}
use Rattle.tup_glob.proofs.Spelled.{read_is_spelled}
use Rattle.tup_glob.proofs.glob.Glob.read.Goals as goal

pub returns-clause-spelled : goal.returns-clause-spelled
returns-clause-spelled c = read_is_spelled (chars c.args.pattern.now)

pub returns-in_err-symbols-clause-spelled : goal.returns-in_err-symbols-clause-spelled
returns-in_err-symbols-clause-spelled c = read_is_spelled (chars c.args.pattern.now)
