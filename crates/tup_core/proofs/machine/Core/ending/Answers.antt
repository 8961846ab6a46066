use Rattle.std.proofs.Common.{◌<◌, List, length, sym, ◌∙◌, subst, refl}
use Rattle.std.proofs.lemmas.Bool.{true≢false}
use Rattle.tup_path.specs.Name.{Names}
use Rattle.tup_stamp.specs.declared.Stamp.{Stamp}
use Rattle.tup_rule.specs.declared.rule.Rule.{Rule}
use Rattle.tup_core.specs.Step.{FitsEnd}
use Rattle.tup_core.proofs.StepLaws.{seat_got, rule_got, rule_within, seat_runs, not_so}
use Rattle.tup_core.proofs.machine.Core.ending.Goals as goal

pub bounds-as_slice-running : goal.bounds-as_slice-running
bounds-as_slice-running c =
    let here = seat_got c.args.self.now.seats.items c.deref.result.now c.args.seat c.in-Some-Some.field-0.now c.in-Some-Some.running c.deref.ensures.value c.in-Some-Some.ensures.lookup.0 c.in-Some-Some.ensures.lookup.1 c.in-Some-Some.field-0-is in
    subst (λ (l : List Rule). c.in-Some-Some.running.rule < length l) (sym c.as_slice.ensures) (rule_within c.args.plan.now c.args.self.now c.args.seat c.in-Some-Some.running c.requires here)

pub returns-then-may_end : goal.returns-then-may_end
returns-then-may_end c =
    let here = seat_got c.args.self.now.seats.items c.deref.result.now c.args.seat c.in-Some-Some.field-0.now c.in-Some-Some.running c.deref.ensures.value c.in-Some-Some.ensures.lookup.0 c.in-Some-Some.ensures.lookup.1 c.in-Some-Some.field-0-is in
    let within = rule_within c.args.plan.now c.args.self.now c.args.seat c.in-Some-Some.running c.requires here in
    let placed = rule_got c.args.plan.now.rules c.as_slice.result.now c.in-Some-Some.running.rule c.index-as_slice-running.result c.as_slice.ensures within c.index-as_slice-running.is in
    record {
      running = c.in-Some-Some.running;
      rule = c.index-as_slice-running.result;
      runs = seat_runs c.args.plan.now c.args.self.now c.args.seat c.in-Some-Some.running c.index-as_slice-running.result c.requires here placed;
      fits =
          subst (λ (l : List (Names × Stamp)). FitsEnd c.index-as_slice-running.result c.in-Some-Some.running.denied c.args.verdict.now l) c.as_slice-2.ensures (c.may_end.ensures.0 c.if-may_end.true);
      here = refl;
    }

pub returns-else-may_end : goal.returns-else-may_end
returns-else-may_end c =
    let here = seat_got c.args.self.now.seats.items c.deref.result.now c.args.seat c.in-Some-Some.field-0.now c.in-Some-Some.running c.deref.ensures.value c.in-Some-Some.ensures.lookup.0 c.in-Some-Some.ensures.lookup.1 c.in-Some-Some.field-0-is in
    let within = rule_within c.args.plan.now c.args.self.now c.args.seat c.in-Some-Some.running c.requires here in
    let placed = rule_got c.args.plan.now.rules c.as_slice.result.now c.in-Some-Some.running.rule c.index-as_slice-running.result c.as_slice.ensures within c.index-as_slice-running.is in
    not_so c.args.plan.now c.args.self.now c.args.seat c.args.verdict.now c.args.writes.now c.in-Some-Some.running c.index-as_slice-running.result here placed
    (λ fits. true≢false (sym (c.may_end.ensures.1 (subst (λ (l : List (Names × Stamp)). FitsEnd c.index-as_slice-running.result c.in-Some-Some.running.denied c.args.verdict.now l) (sym c.as_slice-2.ensures) fits)) ∙ c.if-may_end.false))
