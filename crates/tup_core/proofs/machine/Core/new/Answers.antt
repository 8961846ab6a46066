use Rattle.std.proofs.Common.{Bool, List, Option, None, length, replicate, false, ◌∙◌, ap, subst, sym, refl}
use Rattle.std.specs.FinMap as finite
use Rattle.tup_rule.specs.declared.rule.Rule.{Rule}
use Rattle.tup_access.specs.Inputs.{AreInputsOfAll}
use Rattle.tup_access.specs.declared.verdict.Verdict.{Verdict}
use Rattle.tup_core.specs.Links.{IsReachOf}
use Rattle.tup_core.specs.Waiting.{flag, IsWaiting}
use Rattle.tup_core.proofs.Entries.{stamps_of_entries}
use Rattle.tup_core.proofs.MachineLaws.{IsOpening, reach_of, opened_core, opened_state}
use Rattle.tup_core.proofs.machine.Core.new.Goals as goal

pub new-requires-clause-reach : goal.new-requires-clause-reach
new-requires-clause-reach c =
    subst (λ (r : List Rule). IsReachOf r c.deref-2.result.now c.as_slice.result.now) (sym c.as_slice-rules.ensures)
    (subst (λ (l : List Bool). IsReachOf c.args.plan.now.rules l c.as_slice.result.now) (sym c.deref-2.ensures.value)
    (subst (IsReachOf c.args.plan.now.rules c.in_ok-pending.pending.items) (sym c.as_slice.ensures) (reach_of c.args.plan.now c.in_ok-pending.pending.items c.requires.range c.in_ok-pending.ensures.flags)))

made : (c : goal.In_ok-nothing-2) → IsOpening c.args.plan.now (finite.entries c.args.files.now) (record {
  generated = c.of.result;
  inputs = c.in_ok-inputs_of_all.field-0;
  waiting = c.in_ok-new.field-0;
  pending = c.in_ok-pending.pending;
  claimed = c.in_ok-lowered.field-0;
  seats = c.in_ok-nothing.field-0;
  files = c.in_ok-new-2.field-0;
  bad = c.in_ok-nothing-2.field-0;
  stopped = None;
})
made c = record {
  long = c.in_ok-pending.ensures.length;
  pending = c.in_ok-pending.ensures.flags;
  waiting =
      subst (λ (r : List Rule). IsWaiting r (flag c.in_ok-pending.pending.items) c.in_ok-pending.pending.items c.in_ok-new.field-0) c.as_slice-rules.ensures
      (subst (λ (l : List Bool). IsWaiting c.as_slice-rules.result.now (flag l) l c.in_ok-new.field-0) c.deref-2.ensures.value c.in_ok-new.ensures);
  claimed = c.in_ok-lowered.ensures ∙ ap (λ (r : List Rule). replicate (length r) false) c.as_slice-rules.ensures;
  seats = c.in_ok-nothing.ensures;
  bad = c.in_ok-nothing-2.ensures ∙ ap (λ (r : List Rule). replicate (length r) (let none : Option Verdict = None in none)) c.as_slice-rules.ensures;
  generated = c.of.ensures c.args.plan.now.rules;
  inputs = subst (λ (r : List Rule). AreInputsOfAll r c.in_ok-inputs_of_all.field-0.items) c.as_slice-rules.ensures c.in_ok-inputs_of_all.ensures;
  files_in = λ path. c.in_ok-new-2.ensures.stamps path ∙ sym (stamps_of_entries c.args.files.now path);
  room = c.in_ok-new-2.ensures.room;
  going = refl;
}

pub returns-clause-core : goal.returns-clause-core
returns-clause-core c = opened_core c.args.plan.now (finite.entries c.args.files.now) _ (made c)

pub returns-clause-state : goal.returns-clause-state
returns-clause-state c = opened_state c.args.plan.now (finite.entries c.args.files.now) _ (made c)
