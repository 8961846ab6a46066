use Rattle.std.proofs.Common.{inl, inr, subst}
use Rattle.tup_top.specs.Lines.{last_line}
use Rattle.tup_top.specs.declared.status.Status.{Status}
use Rattle.tup_large.specs.Shown.{Gives}
use Rattle.tup_large.proofs.show.show.Goals as goal

pub returns-in-Ok : goal.returns-in-Ok
returns-in-Ok g c = inl (c.live-ends.result.0, c.live-ends.result.1, c.live-ends.ensures c.args.folders c.in-Ok.ensures.made, c.ended.ensures)

pub returns-in-Err : goal.returns-in-Err
returns-in-Err g c =
    inr (c.in-Err.why, c.in-Err.ensures.refused, subst (λ (status : Status). Gives (last_line status) status c.alone.result.lines c.alone.result.status) c.refusal.ensures c.alone.ensures)
