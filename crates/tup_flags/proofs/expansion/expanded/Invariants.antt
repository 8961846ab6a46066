use Rattle.std.proofs.Common.{◌≡◌, length}
use denote.Text.{Utf8}
use denote.Shadow.{shadow}
use Rattle.tup_flags.specs.Expansion.{expand, with_rest}
use Rattle.tup_flags.proofs.expansion.expanded.Given as goal

abbrev pub invariant-marks : goal.invariant-marks
invariant-marks l = (expand l.parts l.fn.text ≡ with_rest l.parts l.answer l.rest) × shadow (Utf8 l.rest)

abbrev pub decreases-marks : goal.decreases-marks
decreases-marks l = length l.rest
