use Rattle.std.proofs.Common.{◌≡◌, ◌≤◌, ◌+◌, drop, length, take}
use Rattle.std.specs.Fmt.{HasWritten, IsPlainFormatter}
use Rattle.tup_path.specs.Show.{show}
use Rattle.tup_path.proofs.show.PathDisplay.fmt.Given as goal

abbrev pub invariant-loop-name : goal.invariant-loop-name
invariant-loop-name g l =
    (IsPlainFormatter l.fn.f → HasWritten g.W.Write.write_str_gives l.fn.f (show (take (l.name-index + 1) l.fn.self)) l.f) × (l.rest ≡ drop 1 l.fn.self) × (1 ≤ length l.fn.self)
