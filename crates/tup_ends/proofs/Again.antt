-- What is due again: in a kept graph, over a tree that is as it was seen but for the outputs of flagged rules, whatever is reached is flagged.
use Rattle.std.proofs.Common.{◌≡◌, inl, inr, ℕ, zero, suc, Bool, true, false, List, map, None, Some, Contains, refl, sym, ap, subst, ◌∙◌}
use Rattle.std.specs.Prelude.{cond, is_some}
use Rattle.std.specs.FinMap as finite
use Rattle.std.proofs.lemmas.Bool.{false_from_ne_true, true≢false}
use Rattle.std.proofs.lemmas.List.Elements.{All-contains}
use Rattle.std.proofs.lemmas.Option.{none-some, same_Some}
use Rattle.tup_path.specs.Name.{Names, Content}
use Rattle.tup_path.specs.Tree.{Tree}
use Rattle.tup_site.specs.World.{World}
use Rattle.tup_stamp.specs.declared.Stamp.{Stamp}
use Rattle.tup_rule.specs.Rule.{among, writes}
use Rattle.tup_rule.specs.declared.rule.Rule.{Rule}
use Rattle.tup_runner.specs.Next.{Next}
use Rattle.tup_access.specs.Judge.{judge}
use Rattle.tup_access.proofs.Outputs.{judge-LeavesOutputs}
use Rattle.tup_record.specs.declared.owned.OwnedState.TheVariants.{Written}
use Rattle.tup_record.specs.declared.run.RunRecord.{RunRecord}
use Rattle.tup_graph.specs.declared.owned.Owned.{Owned}
use Rattle.tup_graph.specs.Graph.{GraphState, is_flagged, is_owned, source}
use Rattle.tup_graph.specs.Kept.{HasSeenStamps, IsGraphIn, IsKept, IsRuleAt, IsUnflagged}
use Rattle.tup_graph.specs.Reach.{IsChanged, IsReachRoot, IsReached, ReachedOver, source_in, stamp_in}
use Rattle.tup_graph.proofs.Keeping.{has_run, names_of, wrote_output}
use Rattle.tup_law_graph.specs.Linking.{HaveOwnNames}
use Rattle.tup_law_graph.proofs.Named.{linked_names}
use Rattle.tup_law_graph.proofs.Turning.{none_asked_turned}
use Rattle.tup_law_site.proofs.Stores.{one_in_bytes}
use Rattle.tup_law_board.proofs.Runs.{stamp_written}
use Rattle.tup_law_phases.specs.Language.{tupfiles}
use Rattle.tup_law_phases.proofs.Tupfiles.{is_language}
use Rattle.tup_promise.specs.Needed.{IsDue}

-- ---- a kept graph
module _ (next : Next) (known : List Content) (g : GraphState) (kept : IsKept next tupfiles known g) where
  own_names : HaveOwnNames g.rules
  own_names = linked_names (finite.entries g.readings) g.rules ((is_language.1 (finite.entries g.readings) g.rules).0 kept.linked)

  one_number : (number other : ℕ) (rule : Rule) → IsRuleAt g number rule → IsRuleAt g other rule → number ≡ other
  one_number number other rule here there = own_names number other rule rule here there refl

  -- a path has one maker
  pub one_maker : (number other : ℕ) (rule another : Rule) (path : Names) → IsRuleAt g number rule → writes rule path ≡ true → IsRuleAt g other another → writes another path ≡ true → number ≡ other
  one_maker number other rule another path here mine there theirs =
      let ours = kept.owners.made number rule path here mine in
      let others = kept.owners.made other another path there theirs in
      let one : ours.0 ≡ others.0 = same_Some ours.0 others.0 (sym ours.1 ∙ others.1) in
      same_Some number other (sym ours.2 ∙ ap (λ (o : Owned). o.maker) one ∙ others.2)

  -- what a run wrote to an output
  wrote_at : (number : ℕ) (rule : Rule) (run : RunRecord) (path : Names) → IsRuleAt g number rule → finite.get g.runs number ≡ Some run → writes rule path ≡ true
      → (file : Names × Stamp) × Contains run.writes file × (file.0 ≡ path)
  wrote_at number rule run path here ran output =
      let honest = kept.records.runs number rule run here ran in
      let names : map (λ (f : Names × Stamp). f.0) run.writes ≡ rule.outputs =
      ap (map (λ (f : Names × Stamp). f.0)) (sym honest.files) ∙ names_of (judge rule honest.ended).files ∙ (judge-LeavesOutputs rule honest.ended).good honest.good in
      let found = stamp_written run.writes (λ _. None) path (ap (among path) names ∙ output) in
      (found.0, found.1, found.2)

  -- an output of a rule that isn't flagged is owned as written with the stamp that was seen there
  pub seen_written : (number : ℕ) (rule : Rule) (path : Names) → IsUnflagged g number rule → writes rule path ≡ true
      → (owned : Owned) × (finite.get g.owned path ≡ Some owned) × (seen : Stamp) × (owned.state ≡ Written seen) × (finite.get g.seen path ≡ Some seen)
  seen_written number rule path unflagged output =
      let has = has_run next tupfiles known g kept number rule unflagged in
      let file = wrote_at number rule has.0 path unflagged.here has.1 output in
      let owned = All-contains (λ (f : Names × Stamp). (owned : Owned) × (finite.get g.owned f.0 ≡ Some owned) × (owned.state ≡ Written f.1)) has.0.writes file.0 (kept.written number rule has.0 unflagged has.1) file.1 in
      let stands = All-contains (λ (f : Names × Stamp). finite.get g.seen f.0 ≡ Some f.1) has.0.writes file.0 has.2.wrote file.1 in
      (owned.0, ap (finite.get g.owned) (sym file.2) ∙ owned.1, file.0.1, owned.2, ap (finite.get g.seen) (sym file.2) ∙ stands)

  -- ---- over a tree that is as it was seen, but for the outputs of flagged rules
  module _ (tree : Tree) (as_seen : (path : Names) → ((number : ℕ) (maker : Rule) → IsRuleAt g number maker → writes maker path ≡ true → is_flagged g number ≡ false) → finite.get g.seen path ≡ stamp_in tree path) where
    -- the sources are as they were seen: no rule makes one
    source_seen : (path : Names) → source g path ≡ source_in g tree path
    source_seen path = by (is_owned g path) refl
      where
        by : (owned : Bool) → is_owned g path ≡ owned → cond owned None (finite.get g.seen path) ≡ cond owned None (stamp_in tree path)
        by true is = refl
        by false isnt = as_seen path (λ number maker here wrote. absurd (true≢false (sym (ap is_some (kept.owners.made number maker path here wrote).1) ∙ isnt)))

    -- a rule that isn't flagged is no root
    module _ (at : ℕ) (rule : Rule) (here : IsRuleAt g at rule) (off : is_flagged g at ≡ false) where
      has : (run : RunRecord) × (finite.get g.runs at ≡ Some run) × HasSeenStamps g rule run
      has = has_run next tupfiles known g kept at rule (record { here = here; unflagged = off })

      -- nor is one flagged by which it would be
      off_too : (number : ℕ) → (is_flagged g number ≡ true → is_flagged g at ≡ true) → is_flagged g number ≡ false
      off_too number on = false_from_ne_true (is_flagged g number) (λ flag. true≢false (sym (on flag) ∙ off))

      unchanged : (run : RunRecord) → finite.get g.runs at ≡ Some run → HasSeenStamps g rule run → IsChanged tree rule run → ⊥
      unchanged run ran seen (inl (path, given, asked, apart)) =
          apart (seen.asked path given asked
          ∙ as_seen path (λ number maker there wrote. off_too number (λ on. kept.agrees.upward number at maker rule run path given there on here ran asked.0 wrote)))
      unchanged run ran seen (inr (path, given, wrote, apart)) =
          apart (sym (All-contains (λ (file : Names × Stamp). finite.get g.seen file.0 ≡ Some file.1) run.writes (path, given) seen.wrote wrote)
          ∙ as_seen path (λ number maker there output. subst (λ (n : ℕ). is_flagged g n ≡ false)
          (one_maker at number rule maker path here (wrote_output next tupfiles known g kept at rule run (path, given) here ran wrote) there output) off))

      no_flag : (number : ℕ) → number ≡ at → is_flagged g number ≡ true → ⊥
      no_flag number same flagged = true≢false (sym (subst (λ (n : ℕ). is_flagged g n ≡ true) same flagged) ∙ off)

      has_record : (number : ℕ) → number ≡ at → finite.get g.runs number ≡ None → ⊥
      has_record number same none = none-some has.0 (sym (subst (λ (n : ℕ). finite.get g.runs n ≡ None) same none) ∙ has.1)

      changed_none : (number : ℕ) (run : RunRecord) → number ≡ at → finite.get g.runs number ≡ Some run → IsChanged tree rule run → ⊥
      changed_none number run same ran =
          let mine : finite.get g.runs at ≡ Some run = subst (λ (n : ℕ). finite.get g.runs n ≡ Some run) same ran in
          unchanged run mine (subst (HasSeenStamps g rule) (same_Some has.0 run (sym has.1 ∙ mine)) has.2)

      not_root : IsReachRoot g tree rule → ⊥
      not_root (inl none) = none at here
      not_root (inr (inl (number, there, inl flagged))) = no_flag number (one_number number at rule there here) flagged
      not_root (inr (inl (number, there, inr none))) = has_record number (one_number number at rule there here) none
      not_root (inr (inr (number, run, is, inl changed))) = changed_none number run (one_number number at rule is.same here) is.run_of changed
      not_root (inr (inr (number, run, is, inr told))) = none_asked_turned (source g) (source_in g tree) rule run (λ i path. source_seen path i) told

    root_flagged : (at : ℕ) (rule : Rule) → IsRuleAt g at rule → IsReachRoot g tree rule → is_flagged g at ≡ true
    root_flagged at rule here root = by (is_flagged g at) refl
      where
        by : (flag : Bool) → is_flagged g at ≡ flag → is_flagged g at ≡ true
        by true on = on
        by false off = absurd (not_root at rule here off root)

    over : (reads at : ℕ) → ReachedOver reads g tree g.rules at → is_flagged g at ≡ true
    over zero at (rule, here, root) = root_flagged at rule here root
    over (suc reads) at (rule, before, maker, number, run, path, given, here, has, asked, there, wrote, further) =
        subst (λ (n : ℕ). is_flagged g n ≡ true) (one_number number at rule has.same here)
        (kept.agrees.upward before number maker rule run path given there (over reads before further) has.same has.run_of asked wrote)

    -- whatever is reached is flagged
    reached_flagged : (at : ℕ) → IsReached g tree g.rules at → is_flagged g at ≡ true
    reached_flagged at (reads, is) = over reads at is

-- what is due in a world is flagged in the graph of its store, where its files are as the graph has seen them, but for the outputs of flagged rules
pub due_flagged : (next : Next) (known : List Content) (w : World) (g : GraphState) → IsKept next tupfiles known g
    → ((path : Names) → ((number : ℕ) (maker : Rule) → IsRuleAt g number maker → writes maker path ≡ true → is_flagged g number ≡ false) → finite.get g.seen path ≡ stamp_in w.tree path)
    → IsGraphIn w.store g → (number : ℕ) → IsDue w g.rules number → is_flagged g number ≡ true
due_flagged next known w g kept as_seen stored number (h, reads, reached) =
    reached_flagged next known g kept w.tree as_seen number (subst (λ (k : GraphState). IsReached k w.tree g.rules number) (one_in_bytes w.store h g reads stored) reached)
