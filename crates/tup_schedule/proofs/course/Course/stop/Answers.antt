use Rattle.std.proofs.Common.{refl, sym, ◌∙◌}
use Rattle.std.proofs.lemmas.Bool.{true≢false}
use Rattle.tup_schedule.proofs.Views.{going_at}
use Rattle.tup_schedule.proofs.course.Course.stop.Goals as goal

pub returns-then-is_stopped_at : goal.returns-then-is_stopped_at
returns-then-is_stopped_at c =
    let is = c.is_stopped_at.ensures.0 c.if-is_stopped_at.true in
    record { none = λ _. refl; one = λ goes. absurd (goes is) }

pub end_by-requires-clause-one : goal.end_by-requires-clause-one
end_by-requires-clause-one c = going_at c.args.self.now c.args.seat (λ is. true≢false (sym (c.is_stopped_at.ensures.1 is) ∙ c.if-is_stopped_at.false))

pub returns : goal.returns
returns c = record { none = λ is. absurd (true≢false (sym (c.is_stopped_at.ensures.1 is) ∙ c.if-is_stopped_at.false)); one = λ _. c.end_by.ensures }
