use Rattle.std.proofs.Common.{◌<◌, List, length, sym, ◌∙◌, subst}
use Rattle.std.proofs.lemmas.Bool.{false≢true}
use Rattle.tup_rule.specs.declared.rule.Rule.{Rule}
use Rattle.tup_core.proofs.StepLaws.{IsAsking, rule_got, rule_within, unrefused_here, on_each_err, seat_runs, ask_yes, ask_no}
use Rattle.tup_core.proofs.machine.Core.may_ask.Goals as goal

pub bounds-as_slice-running : goal.bounds-as_slice-running
bounds-as_slice-running c =
    subst (λ (l : List Rule). c.in-Some.running.now.rule < length l) (sym c.as_slice.ensures) (rule_within c.args.plan.now c.args.self.now c.args.seat c.in-Some.running.now c.requires.core c.in-Some.ensures.0)

pub told-requires : goal.told-requires
told-requires c =
    let within = rule_within c.args.plan.now c.args.self.now c.args.seat c.in-Some.running.now c.requires.core c.in-Some.ensures.0 in
    let placed = rule_got c.args.plan.now.rules c.as_slice.result.now c.in-Some.running.now.rule c.index-as_slice-running.result c.as_slice.ensures within c.index-as_slice-running.is in
    c.requires.seen c.in-Some.running.now c.index-as_slice-running.result c.in-Yes.path
    (seat_runs c.args.plan.now c.args.self.now c.args.seat c.in-Some.running.now c.index-as_slice-running.result c.requires.core c.in-Some.ensures.0 placed)
    (sym (c.in_ok-path.ensures.ok c.requires.core.generated (λ inputs here. c.requires.core.inputs c.in-Some.running.now.rule c.index-as_slice-running.result inputs placed here)) ∙ c.in-Yes.is)

pub returns-in-Yes-clause-ok : goal.returns-in-Yes-clause-ok
returns-in-Yes-clause-ok c =
    let within = rule_within c.args.plan.now c.args.self.now c.args.seat c.in-Some.running.now c.requires.core c.in-Some.ensures.0 in
    let placed = rule_got c.args.plan.now.rules c.as_slice.result.now c.in-Some.running.now.rule c.index-as_slice-running.result c.as_slice.ensures within c.index-as_slice-running.is in
    let asking : IsAsking c.args.plan.now c.args.self.now c.args.seat c.in-Some.running.now c.index-as_slice-running.result = record { here = c.in-Some.ensures.0; going = c.in-Some.ensures.1; placed = placed } in
    ask_yes c.args.plan.now c.args.self.now c.args.seat c.in-Some.running.now c.index-as_slice-running.result c.in-Yes.path c.args.text.now c.args.answer c.same_answer.result c.requires.core asking
    (sym (c.in_ok-path.ensures.ok c.requires.core.generated (λ inputs here. c.requires.core.inputs c.in-Some.running.now.rule c.index-as_slice-running.result inputs placed here)) ∙ c.in-Yes.is)
    (λ up. sym c.told.ensures ∙ c.same_answer.ensures.0 up, λ same. c.same_answer.ensures.1 (c.told.ensures ∙ same))

pub returns-clause-ok : goal.returns-clause-ok
returns-clause-ok c =
    let within = rule_within c.args.plan.now c.args.self.now c.args.seat c.in-Some.running.now c.requires.core c.in-Some.ensures.0 in
    let placed = rule_got c.args.plan.now.rules c.as_slice.result.now c.in-Some.running.now.rule c.index-as_slice-running.result c.as_slice.ensures within c.index-as_slice-running.is in
    let asking : IsAsking c.args.plan.now c.args.self.now c.args.seat c.in-Some.running.now c.index-as_slice-running.result = record { here = c.in-Some.ensures.0; going = c.in-Some.ensures.1; placed = placed } in (
      λ e. absurd (false≢true e),
      λ can. absurd (ask_no c.args.plan.now c.args.self.now c.args.seat c.in-Some.running.now c.index-as_slice-running.result _ c.args.text.now c.args.answer asking
          (sym (c.in_ok-path.ensures.ok c.requires.core.generated (λ inputs here. c.requires.core.inputs c.in-Some.running.now.rule c.index-as_slice-running.result inputs placed here)) ∙ c.in-No.is) can),
    )

pub returns-in_err-path-clause-asks : goal.returns-in_err-path-clause-asks
returns-in_err-path-clause-asks c =
    on_each_err c.from_residual.result (unrefused_here c.args.self.now.seats.items c.args.seat c.in-Some.running.now c.in-Some.ensures.0 c.in-Some.ensures.1)
