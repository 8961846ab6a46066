use Rattle.std.proofs.Common.{◌≡◌, drop}
use Rattle.std.specs.List.{fold}
use Rattle.tup_proc_runner.specs.Told.{told_in, told_of, with_line}
use Rattle.tup_proc_runner.proofs.stage.Stage.ended.Given as goal

abbrev pub invariant-loop-line : goal.invariant-loop-line
invariant-loop-line g l = fold with_line (told_of l.ended) (drop l.line-index l.lines) ≡ told_in l.lines
