use Rattle.std.proofs.Common.{◌≡◌, ◌<◌, List, length, refl, sym, ap, ◌∙◌, subst}
use Rattle.std.specs.Prelude.{slice_get}
use Rattle.std.proofs.lemmas.Option.{slice_get_read, slice_get_within}
use Rattle.tup_rule.specs.declared.rule.Rule.{Rule}
use Rattle.tup_core.specs.declared.plan.Plan.{Plan}
use Rattle.tup_core_rows.proofs.Seats.{rule_here, good_may}
use Rattle.tup_core_rows.proofs.desk.Desk.end_well.Goals as goal

pub finish_well-requires-clause-end : goal.finish_well-requires-clause-end
finish_well-requires-clause-end c =
    let course = c.args.self.now.course in
    let same : course.plan.rules ≡ c.as_slice.result.now = ap (λ (p : Plan). p.rules) c.args.self.now.of_plan ∙ sym c.as_slice.ensures in
    let within : c.args.number < length c.as_slice.result.now = subst (λ (l : List Rule). c.args.number < length l) same (slice_get_within course.plan.rules c.args.number c.requires.it.it.rule (rule_here course c.args.seat c.args.number c.requires)) in
    good_may course c.args.seat c.args.number c.index-as_slice-number.result c.in_ok-stamped.field-0 c.good_end-end.result c.requires
    (ap (λ (l : List Rule). slice_get l c.args.number) same ∙ slice_get_read c.as_slice.result.now (length c.as_slice.result.now) c.args.number c.index-as_slice-number.result refl within c.index-as_slice-number.is)
    (c.in_ok-stamped.ensures ∙ c.as_slice-outputs.ensures ∙ sym (ap (λ (r : Rule). r.outputs) c.index-as_slice-number.is)) c.good_end-end.ensures
