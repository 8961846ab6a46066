use Rattle.std.proofs.Common.{◌≡◌, false, List, Some}
use Rattle.std.specs.Prelude.{drop}
use Rattle.std.specs.Option.{IfSome}
use Rattle.tup_path.specs.Name.{Names}
use Rattle.tup_stamp.specs.declared.Stamp.{Stamp}
use Rattle.tup_clean.specs.Clean.{is_good}
use Rattle.tup_core.specs.Run.{IsRun, end_of}
use Rattle.tup_core.specs.Step.{opening}
use Rattle.tup_update.proofs.FirstBad.{IsReading}
use Rattle.tup_update.proofs.ended.first_bad.Given as goal

abbrev pub invariant-loop-event : goal.invariant-loop-event
invariant-loop-event l =
    let plan = l.fn.plan in
    let history = l.fn.history in
    ((files : List (Names × Stamp)) → IsRun plan (opening plan files) history → IsReading plan (end_of plan (opening plan files) history) (drop l.event-index history) l.claimed l.first)
    × IfSome l.first (λ bad. is_good (Some bad.verdict.now) ≡ false)
