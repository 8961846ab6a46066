use Rattle.std.proofs.Common.{take}
use Rattle.tup_flags.specs.Answer.{IsGrown}
use Rattle.tup_flags.specs.Shown.{further}
use Rattle.tup_flags.proofs.shown.add_further.Given as goal

-- the answer went on with some of the files
abbrev pub invariant-loop-path : goal.invariant-loop-path
invariant-loop-path l = IsGrown l.fn.answer l.answer (further l.dir l.side (take l.path-index l.paths))
