-- What a board ran that was made once its graph was up to date.
use Rattle.std.proofs.Common.{◌≡◌, inl, inr, ⊎_elim, ℕ, ◌<◌, Bool, true, false, cond, is_some, List, [], ◌∷◌, ◌++◌, map, Option, None, Some, IsTrue, All, refl, sym, ap, subst, ◌∙◌, arith}
use Rattle.std.specs.FinMap as finite
use Rattle.std.specs.Cmp.{nat_cmp_total}
use Rattle.std.specs.Ordering.{is_eq}
use Rattle.std.specs.Prelude.{Contains, slice_get, slice_index_or}
use Rattle.std.proofs.lemmas.Cmp.{tied_itself}
use Rattle.std.proofs.lemmas.Bool.{false≢true, true≢false}
use Rattle.std.proofs.lemmas.List.Elements.{All-nil}
use Rattle.std.proofs.lemmas.Option.{none-some, same_Some, slice_get-get_or, slice_get_cases}
use Rattle.tup_site.specs.World.{World}
use Rattle.tup_site.specs.declared.site.Site.{Ghosts as Site}
use Rattle.tup_rule.specs.Producer.{DeclaredProducer}
use Rattle.tup_rule.specs.Rule.{name_of}
use Rattle.tup_rule.specs.declared.rule.Rule.{Rule}
use Rattle.tup_rule.specs.declared.rule.RuleName.{RuleName}
use Rattle.tup_runner.specs.Next.{Next}
use Rattle.tup_runner.specs.declared.runner.Runner.{Ghosts as Runner}
use Rattle.tup_access.specs.declared.verdict.Verdict.{Verdict}
use Rattle.tup_record.specs.declared.run.RunRecord.{RunRecord}
use Rattle.tup_graph.specs.Graph.{GraphState, is_flagged}
use Rattle.tup_graph.specs.Transactions.{finished}
use Rattle.tup_law_graph.specs.Linking.{HaveOwnNames}
use Rattle.tup_law_graph.proofs.Named.{linked_names}
use Rattle.tup_core.specs.Laws.{BadIsLast, ClaimsInOrder, IsClaimed}
use Rattle.tup_core.specs.Run.{IsRun, claims, end_of, seat_of}
use Rattle.tup_core.specs.Sound.{IsAcyclic}
use Rattle.tup_core.specs.Step.{State, after, is_reached}
use Rattle.tup_core.specs.declared.event.CoreEvent.{CoreEvent}
use Rattle.tup_core.specs.declared.plan.Plan.{Plan}
use Rattle.tup_core.proofs.AllClaimed.{IsSpent, spent_after, spent_opening}
use Rattle.tup_core.proofs.ClaimedOnce.{claim_waits, claimed_once}
use Rattle.tup_core.proofs.Orderly.{IsOrderly, orderly_after, orderly_opening}
use Rattle.tup_board.specs.Board.{BoardState, course_of, first_graph, plan_of, start, state}
use Rattle.tup_board.specs.Calls.{commands}
use Rattle.tup_board.specs.Come.{HasCome}
use Rattle.tup_board.specs.Images.{IsImageOver}
use Rattle.tup_board.specs.Sound.{IsSound}
use Rattle.tup_law_site.proofs.Stores.{in_bytes}
use Rattle.tup_promise.specs.Kept.{AsksFor}
use Rattle.tup_promise.proofs.Asked.{one_asked}
use Rattle.tup_promise.specs.Needed.{AreInOrder, FlagsWhatWasDue, HasName, IsDue, IsDueName, NamesAllDue, OnlyWhatIsNeeded, RunsAll, RunsWhatIsNeeded}
use Rattle.tup_promise.specs.Prepared.{IsPrepared}
use Rattle.tup_promise.specs.Ran.{command_of}
use Rattle.tup_promise.specs.declared.stop.Stop.{Stop}
use Rattle.tup_ends.proofs.Names.{AreNames, are_names, claimed_there, contains_at, last_name, name_at, number_of, one_place}

-- ---- the rules that the sources of a world ask for

-- no two of them have one name
asked_names : (w : World) (rules : List Rule) → AsksFor w rules → HaveOwnNames rules
asked_names w rules (g, mine, (readings, outcome, linked)) = linked_names readings rules linked

one_number : (rules : List Rule) → HaveOwnNames rules → (number other : ℕ) (name : RuleName) → HasName rules number name → HasName rules other name → number ≡ other
one_number rules own number other name (rule, here, named) (same, there, called) = own number other rule same here there (named ∙ sym called)

-- so a name is that of one of the rules that are asked for
pub asked_number : (w : World) (rules : List Rule) → AsksFor w rules → (number other : ℕ) (name : RuleName) → HasName rules number name → HasName rules other name → number ≡ other
asked_number w rules asks = one_number rules (asked_names w rules asks)

one_name : (rules : List Rule) (number : ℕ) (name other : RuleName) → HasName rules number name → HasName rules number other → name ≡ other
one_name rules number name other (rule, here, named) (same, there, called) = sym named ∙ ap name_of (same_Some rule same (sym here ∙ there)) ∙ called

-- what ran nothing ran no more than was due
pub none_runs : (next : Next) (keep_going : Bool) (jobs : ℕ) (w : World) (stopped : Option Stop) → RunsAll next keep_going jobs w [] stopped → RunsWhatIsNeeded next keep_going jobs w [] stopped
none_runs next keep_going jobs w stopped all = record {
  once = λ one other name here there. absurd (none-some name here);
  due = All-nil (IsDueName w);
  in_order = λ rules at other sooner later rule name asks here produces called stands before. absurd (none-some name before);
  all = all;
}

-- a rule that ended isn't flagged any more
flag_gone : (g : GraphState) (number : ℕ) (run : RunRecord) → is_flagged (finished g number run) number ≡ false
flag_gone g number run =
    ap is_some (finite.get-remove nat_cmp_total g.flags number number) ∙ ap (λ (b : Bool). is_some (cond b None (finite.get g.flags number))) (ap is_eq (tied_itself nat_cmp_total number))

-- in a run each rule of the reach that isn't pending any more was claimed
spent_run : (plan : Plan) (events : List CoreEvent) (state : State) → IsOrderly plan state → IsSpent plan state → IsRun plan state events → IsSpent plan (end_of plan state events)
spent_run plan [] state orderly spent run = spent
spent_run plan (event ∷ events) state orderly spent (enabled, run) =
    spent_run plan events (after plan state event) (orderly_after plan state event orderly enabled) (spent_after plan state event orderly spent enabled) run

-- ---- the claims of a board, and the names of what it ran
module _ {S R : Type 0} (site : Site S) (runner : Runner R) (b : BoardState S) (sound : IsSound site runner b) (ran : List RuleName) (same : map command_of ran ≡ commands (plan_of b) b.history) where
  abbrev plan : Plan
  plan = plan_of b

  abbrev numbers : List ℕ
  numbers = claims b.history

  reached_at : (place number : ℕ) → IsClaimed b.history place number → is_reached plan number ≡ true
  reached_at place number here = claim_waits plan b.history (start b) sound.run place number here

  rule_at : (number : ℕ) → is_reached plan number ≡ true → (rule : Rule) × (slice_get plan.rules number ≡ Some rule)
  rule_at number reached = ⊎_elim (λ there. (there.0, there.2)) (λ past. absurd (let less = sound.opening.plan.in_range number reached in omega (arith, less, past.0))) (slice_get_cases plan.rules number).1

  named : AreNames plan.rules numbers ran
  named = are_names plan.rules numbers ran (λ place number here. rule_at number (reached_at place number here)) same

  pub stands_last : BadIsLast → (seat at : ℕ) (verdict : Verdict) (name : RuleName) → All (λ event. seat_of event ≡ seat) b.history → plan.keep_going ≡ false → (state b).bad at ≡ Some verdict → HasName plan.rules at name
      → (front : List RuleName) × (ran ≡ front ++ name ∷ [])
  stands_last bad_is_last seat at verdict name own off bad called =
      let last = bad_is_last plan (course_of b).files b.history seat sound.run own off at verdict bad in
      let found = last_name plan.rules last.0 at ran (subst (λ (list : List ℕ). AreNames plan.rules list ran) last.1 named) in
      (found.0, found.2 ∙ ap (λ (n : RuleName). found.0 ++ n ∷ []) (one_name plan.rules at found.1 name found.3 called))

  -- a claimed rule is among those that were run
  pub among_ran : (at : ℕ) (name : RuleName) → (state b).claimed at ≡ true → HasName plan.rules at name → Contains ran name
  among_ran at name claimed called =
      ⊎_elim (λ before. absurd (false≢true before))
      (λ there.
      let found = name_at plan.rules numbers ran named there.0 at there.1 in
      contains_at ran there.0 name (found.1 ∙ ap Some (one_name plan.rules at found.0 name found.2 called)))
      (claimed_there plan b.history (start b) at sound.run claimed)

  module _ (next : Next) (first : World) (since : ℕ) (prepared : IsPrepared site next first since b.opening.graph b.opening.site) where
    abbrev fg : GraphState
    fg = first_graph b

    pub asked : AsksFor first plan.rules
    asked = subst (AsksFor first) (sym sound.opening.plan.rules) prepared.rules

    own_names : HaveOwnNames plan.rules
    own_names = asked_names first plan.rules asked

    due_at : (number : ℕ) → is_reached plan number ≡ true → IsDue first plan.rules number
    due_at number reached =
        subst (λ (rules : List Rule). IsDue first rules number) (sym sound.opening.plan.rules) ((prepared.due number).0 (sym (sound.opening.plan.reach number) ∙ reached))

    pub reached_due : (number : ℕ) → IsDue first plan.rules number → is_reached plan number ≡ true
    reached_due number due = sound.opening.plan.reach number ∙ (prepared.due number).1 (subst (λ (rules : List Rule). IsDue first rules number) sound.opening.plan.rules due)

    -- ---- what was run
    once : (one other : ℕ) (name : RuleName) → slice_get ran one ≡ Some name → slice_get ran other ≡ Some name → one ≡ other
    once one other name here there =
        let mine = number_of plan.rules numbers ran named one name here in
        let theirs = number_of plan.rules numbers ran named other name there in
        let number_is : theirs.0 ≡ mine.0 = one_number plan.rules own_names theirs.0 mine.0 name theirs.2 mine.2 in
        one_place numbers (claimed_once plan b.history (start b) sound.run) one other mine.0 mine.1 (theirs.1 ∙ ap Some number_is)

    due_name : (place : ℕ) (name : RuleName) → slice_get ran place ≡ Some name → IsDueName first name
    due_name place name here =
        let found = number_of plan.rules numbers ran named place name here in
        record { rules = plan.rules; asked = asked; at = found.0; named = found.2; due = due_at found.0 (reached_at place found.0 found.1) }

    all_due : All (IsDueName first) ran
    all_due = λ k d less. due_name k (slice_index_or ran k d) (slice_get-get_or ran k d less)

    abbrev InOrderOf : List Rule → Type 0
    InOrderOf rules = (at other sooner later : ℕ) (rule : Rule) (name : RuleName) → slice_get rules at ≡ Some rule → DeclaredProducer rules rule other → HasName rules other name
        → slice_get ran later ≡ Some (name_of rule) → slice_get ran sooner ≡ Some name → sooner < later

    in_order_here : ClaimsInOrder → InOrderOf plan.rules
    in_order_here in_order at other sooner later rule name here produces called stands before =
        let one = number_of plan.rules numbers ran named later (name_of rule) stands in
        let two = number_of plan.rules numbers ran named sooner name before in
        let at_is : one.0 ≡ at = one_number plan.rules own_names one.0 at (name_of rule) one.2 (rule, here, refl) in
        let other_is : two.0 ≡ other = one_number plan.rules own_names two.0 other name two.2 called in
        in_order plan (course_of b).files b.history sound.run sooner later at other rule (one.1 ∙ ap Some at_is) here produces (two.1 ∙ ap Some other_is)

    in_order_all : ClaimsInOrder → AreInOrder first ran
    in_order_all in_order rules at other sooner later rule name asks here produces called stands before =
        subst InOrderOf (one_asked first plan.rules rules asked asks) (in_order_here in_order) at other sooner later rule name here produces called stands before

    -- ---- what is flagged at the end
    flagged_before : (g : GraphState) (number : ℕ) (rule : Rule) → HasCome b g number rule → is_flagged g number ≡ true → is_flagged fg number ≡ true
    flagged_before g number rule (inl has) on = sym has.flag ∙ on
    flagged_before g number rule (inr (inl (claimed, has))) on = sym has.flag ∙ on
    flagged_before g number rule (inr (inr (run, ends, has))) on = absurd (true≢false (sym on ∙ has.flag ∙ flag_gone fg number run))

    flagged_due : (g : GraphState) → IsImageOver b (site.world b.opening.site) (site.world b.site) g → (number : ℕ) → is_flagged g number ≡ true → IsDue first g.rules number
    flagged_due g image number on = subst (λ (rules : List Rule). IsDue first rules number) (sym image.come.beside.rules) ((prepared.due number).0 (by (slice_get plan.rules number) refl))
      where
        by : (found : Option Rule) → slice_get plan.rules number ≡ found → is_flagged fg number ≡ true
        by (Some rule) here = flagged_before g number rule (image.come.each number rule here) on
        by None none = sym (image.come.beside.flags number none) ∙ on

    flagged_now : IsTrue site.tells → FlagsWhatWasDue first (site.world b.site)
    flagged_now tells =
        let image = sound.now tells in
        (image.0, in_bytes image.0 (site.world b.site).store image.1.store, flagged_due image.0 image.1)

    pub only_needed : ClaimsInOrder → IsTrue site.tells → (keep_going : Bool) (jobs : ℕ) (stopped : Option Stop) → RunsAll next keep_going jobs first ran stopped → OnlyWhatIsNeeded next keep_going jobs first (site.world b.site) ran stopped
    only_needed in_order tells keep_going jobs stopped all = record {
      runs = record { once = once; due = all_due; in_order = in_order_all in_order; all = all };
      flagged = flagged_now tells;
    }

    -- ---- all that was due
    all_ran : ((number : ℕ) → (state b).pending number ≡ false) → (at : ℕ) (name : RuleName) → IsDue first plan.rules at → HasName plan.rules at name → Contains ran name
    all_ran done at name due called =
        among_ran at name
        ((spent_run plan b.history (start b) (orderly_opening plan (course_of b).files) (spent_opening plan (course_of b).files) sound.run).claimed at (reached_due at due) (done at)) called

    pub names_all : (IsAcyclic plan.rules → (number : ℕ) → (state b).pending number ≡ false) → NamesAllDue first ran
    names_all done rules at name asks =
        subst (λ (list : List Rule). IsDue first list at → HasName list at name → Contains ran name) (one_asked first plan.rules rules asked asks)
        (all_ran (done asked.2.2.order) at name)
