-- A project stays kept by an edit, a crash, and every call that opens its store at most.
use Rattle.std.proofs.Common.{◌≡◌, ◌⊎◌, ⊎_elim, inl, inr, [], ◌∷◌, List, Option, None, Some, Contains, sym, ap, subst, ◌∙◌, arith}
use Rattle.std.specs.FinMap as finite
use Rattle.std.proofs.lemmas.List.Elements.{Contains-append_right}
use Rattle.tup_path.specs.Name.{Names, Content}
use Rattle.tup_site.specs.Choice.{Changed, known_after}
use Rattle.tup_site.specs.Crash.{GoesOn}
use Rattle.tup_site.specs.Edit.{edited}
use Rattle.tup_site.specs.History.{at_first, after, after_all}
use Rattle.tup_site.specs.Laws.{earlier_law, present_law}
use Rattle.tup_site.specs.Memory.{world_in, tree_in, store_in, known_in, first_of, changes_of, state_of, moment_of, left_since}
use Rattle.tup_site.specs.State.{State}
use Rattle.tup_site.specs.World.{World, TreeStays}
use Rattle.tup_site.specs.contracts.memory_calls.MemSiteSite.TheImpl as memory
use Rattle.tup_site.specs.declared.change.Change.TheVariants.{Edited, Crashed}
use Rattle.tup_site.specs.declared.choice.Choice.{Choice}
use Rattle.tup_site.specs.declared.memory.MemSite.{MemSite}
use Rattle.tup_site.proofs.Moments.{now_or_step}
use Rattle.tup_runner.specs.Next.{Next}
use Rattle.tup_table.specs.Images.{OpenStep}
use Rattle.tup_graph.specs.Graph.{GraphState}
use Rattle.tup_graph.specs.Kept.{IsGraphIn, IsKeptSite, IsKeptWorld, file_beside}
use Rattle.tup_law_graph.specs.Edited.{with_file, IsEditedFrom, IsOwnedAlike}
use Rattle.tup_law_graph.proofs.Edited.{kept_more, site_edited}
use Rattle.tup_law_phases.specs.Language.{tupfiles}
use Rattle.tup_law_site.proofs.Opened.{opened_remains}
use Rattle.tup_law_site.proofs.Remaining.{remains_now}
use Rattle.tup_law_site.proofs.Stores.{one_in_bytes}
use Rattle.tup_history.specs.Deed.{IsEdited, IsCrashed}
use Rattle.tup_history.specs.Kept.{IsUnbegun, IsKept, Stage, Unbegun, Begun, Stands}
use Rattle.tup_history.specs.Stays.{BehindEdit}
use Rattle.tup_history.proofs.Edits.{left_still, edit_left, crash_left, state_then}

-- fewer worlds may be left
fewer : (next : Next) (known : List Content) (present : World) (More Left : World → Type 0) → ((w : World) → Left w → More w) → IsKeptSite next tupfiles known present More → IsKeptSite next tupfiles known present Left
fewer next known present More Left all kept = record {
  now = kept.now;
  later = λ w left. kept.later w (all w left);
  sources = λ w g left. kept.sources w g (all w left);
  own = λ w g path owned left. kept.own w g path owned (all w left);
}

-- ---- nothing happened
module _ (old new : MemSite) (first : first_of new ≡ first_of old) (none : changes_of new ≡ changes_of old) (same : world_in new ≡ world_in old) where
  same_known : known_in new ≡ known_in old
  same_known = λ i. (after_all (at_first (first i)) (none i)).known

  kept_still : (next : Next) (present : World) → IsKeptSite next tupfiles (known_in old) present (left_since old (moment_of old)) → IsKeptSite next tupfiles (known_in new) present (left_since new (moment_of new))
  kept_still next present kept =
      subst (λ (known : List Content). IsKeptSite next tupfiles known present (left_since new (moment_of new))) (sym same_known)
      (fewer next (known_in old) present (left_since old (moment_of old)) (left_since new (moment_of new)) (left_still old new first none) kept)

  pub stands_still : (next : Next) (stage : Stage) → Stands next stage old → Stands next stage new
  stands_still next Unbegun kept = record {
    no_store = ap (λ (w : World). w.store) same ∙ kept.no_store;
    durable = λ w left. kept.durable w (left_still old new first none w left) ∙ sym same;
  }
  stands_still next Begun kept = subst (λ (w : World). IsKeptSite next tupfiles (known_in new) w (left_since new (moment_of new))) (sym same) (kept_still next (world_in old) kept)

-- ---- an edit
module _ (path : Names) (content : Option Content) (old new : MemSite) (is : IsEdited path content old new) where
  -- where nothing has begun
  still_unbegun : IsUnbegun old → IsUnbegun new
  still_unbegun kept = record {
    no_store = is.store ∙ kept.no_store;
    durable = λ w left.
        let from = edit_left old new is.beside.first path content is.noted w left in
        let was = kept.durable from.0 from.1 in
        let tree : w.tree ≡ tree_in new = from.2.tree ∙ ap (λ (v : World). edited v.tree path content) was ∙ sym is.tree in
        let store : w.store ≡ store_in new = from.2.store ∙ ap (λ (v : World). v.store) was ∙ sym is.store in
        λ i. record { tree = tree i; store = store i };
  }

  now_edited : world_in new ≡ with_file (world_in old) path content
  now_edited = λ i. record { tree = is.tree i; store = is.store i }

  left_edited : (w : World) → left_since new (moment_of new) w → IsEditedFrom (left_since old (moment_of old)) path content w
  left_edited w left = let from = edit_left old new is.beside.first path content is.noted w left in (from.0, from.1, λ i. record { tree = from.2.tree i; store = from.2.store i })

  known_then : (content : Option Content) (one : Content) → Contains (known_in old) one → Contains (after (state_of old) (Edited path content)).known one
  known_then None one there = there
  known_then (Some content) one there = Contains-append_right (content ∷ []) (known_in old) one there

  also_known : (one : Content) → Contains (known_in old) one → Contains (known_in new) one
  also_known one there = subst (λ (known : List Content). Contains known one) (ap (λ (s : State). s.known) (sym (state_then old new is.beside.first (Edited path content) is.noted))) (known_then content one there)

  -- where all worlds agree who owns the path
  edit_on : (next : Next) (present : World) → IsOwnedAlike present (left_since old (moment_of old)) path → IsKeptSite next tupfiles (known_in old) present (left_since old (moment_of old)) → IsKeptSite next tupfiles (known_in new) (with_file present path content) (left_since new (moment_of new))
  edit_on next present alike kept =
      fewer next (known_in new) (with_file present path content) (IsEditedFrom (left_since old (moment_of old)) path content) (left_since new (moment_of new)) left_edited
      (site_edited next tupfiles (known_in old) (known_in new) also_known present (left_since old (moment_of old)) path content kept alike)

  pub edit_keeps : (next : Next) (stage : Stage) → Stands next stage old → BehindEdit path old stage (λ later. Stands next later new)
  edit_keeps next Unbegun kept = still_unbegun kept
  edit_keeps next Begun kept = λ alike. subst (λ (w : World). IsKeptSite next tupfiles (known_in new) w (left_since new (moment_of new))) (sym now_edited) (edit_on next (world_in old) alike kept)

-- ---- a crash
-- where one of the worlds is left, and no other
one_left : (next : Next) (known more : List Content) → ((content : Content) → Contains known content → Contains more content) → (present : World) (Left Only : World → Type 0) (u : World) → IsKeptSite next tupfiles known present Left → Left u → ((w : World) → Only w → w ≡ u) →
    IsKeptSite next tupfiles more u Only
one_left next known more also present Left Only u kept there is = record {
  now = record { graph = was.graph; reads = was.reads; kept = kept_more known more also next tupfiles was.graph was.kept };
  later = λ w only. subst (IsKeptWorld next tupfiles more) (sym (is w only)) here;
  sources = λ w g only reads path. λ i. file_beside (is w only i) (the_graph w g only reads i) path;
  own = λ w g path owned only reads own. inr (inl (ap (λ (v : World). finite.get v.tree path) (is w only)));
}
  where
    was : IsKeptWorld next tupfiles known u
    was = kept.later u there

    here : IsKeptWorld next tupfiles more u
    here = record { graph = was.graph; reads = was.reads; kept = kept_more known more also next tupfiles was.graph was.kept }

    the_graph : (w : World) (g : GraphState) → Only w → IsGraphIn w.store g → g ≡ was.graph
    the_graph w g only reads = one_in_bytes u.store g was.graph (subst (λ (v : World). IsGraphIn v.store g) (is w only) reads) was.reads

module _ (choice : Choice) (old new : MemSite) (is : IsCrashed choice old new) where
  known_on : (files : Changed) (known : List Content) (one : Content) → Contains known one → Contains (known_after known files) one
  known_on [] known one there = there
  known_on ((path, None) ∷ files) known one there = known_on files known one there
  known_on ((path, Some content) ∷ files) known one there = known_on files (content ∷ known) one (Contains-append_right (content ∷ []) known one there)

  also_after : (one : Content) → Contains (known_in old) one → Contains (known_in new) one
  also_after one there = subst (λ (known : List Content). Contains known one) (ap (λ (s : State). s.known) (sym (state_then old new is.first (Crashed choice) is.noted))) (known_on choice.tree (known_in old) one there)

  left_is : (w : World) → left_since new (moment_of new) w → w ≡ world_in new
  left_is w left = crash_left old new is.first choice is.noted w left ∙ sym is.world

  left_one : left_since old (moment_of old) (world_in new)
  left_one = subst (left_since old (moment_of old)) (sym is.world) is.may

  crash_on : (next : Next) (present : World) → IsKeptSite next tupfiles (known_in old) present (left_since old (moment_of old)) → IsKept next new
  crash_on next present kept = one_left next (known_in old) (known_in new) also_after present (left_since old (moment_of old)) (left_since new (moment_of new)) (world_in new) kept left_one left_is

  pub crash_keeps : (next : Next) (stage : Stage) → Stands next stage old → Stands next stage new
  crash_keeps next Unbegun kept = record {
    no_store = ap (λ (w : World). w.store) (kept.durable (world_in new) left_one) ∙ kept.no_store;
    durable = left_is;
  }
  crash_keeps next Begun kept = crash_on next (world_in old) kept

-- ---- a call
module _ (old new : MemSite) where
  -- what a crash leaves behind a call has this where its steps lead to what has it
  pub by_steps : (step : World → World → Type 0) (P : World → Type 0) → GoesOn moment_of left_since old new step → ((w : World) → left_since old (moment_of old) w → P w) → ((v w : World) → left_since old (moment_of old) v → step v w → P w) →
      (w : World) → left_since new (moment_of new) w → P w
  by_steps step P on before by w left = ⊎_elim (before w) (λ from. by from.0 w from.1 from.2) (now_or_step moment_of left_since old new step earlier_law on w left)

  -- where nothing has begun, and every step leaves that
  pub unbegun_on : (step : World → World → Type 0) → GoesOn moment_of left_since old new step → ((w : World) → step (world_in old) w → w ≡ world_in old) → IsUnbegun old → IsUnbegun new
  unbegun_on step on stays kept =
      let is : (w : World) → left_since new (moment_of new) w → w ≡ world_in old =
      by_steps step (λ w. w ≡ world_in old) on kept.durable (λ v w left one. stays w (subst (λ (u : World). step u w) (kept.durable v left) one)) in
      let now : world_in new ≡ world_in old = is (world_in new) (present_law new) in
      record {
        no_store = ap (λ (w : World). w.store) now ∙ kept.no_store;
        durable = λ w left. is w left ∙ sym now;
      }

  -- a step that leaves what was there, or opens its store
  as_opening : (step : World → World → Type 0) → ((v w : World) → left_since old (moment_of old) v → step v w → (w ≡ v) ⊎ OpenStep v w) → GoesOn moment_of left_since old new step → GoesOn moment_of left_since old new OpenStep
  as_opening step either on = record {
    later = on.later;
    kept = on.kept;
    since = λ t w le left. ⊎_elim inl (λ from.
        ⊎_elim (λ same. inl (subst (left_since old t) (sym same) (earlier_law old t (moment_of old) from.0 le from.1))) (λ opens. inr (from.0, from.1, opens)) (either from.0 w from.1 from.2))
        (on.since t w le left);
  }

  -- where every step is such a one, with any world that the others are compared with
  opened_on : (next : Next) (present : World) (step : World → World → Type 0) → ((v w : World) → left_since old (moment_of old) v → step v w → (w ≡ v) ⊎ OpenStep v w) → GoesOn moment_of left_since old new step → known_in new ≡ known_in old →
      IsKeptSite next tupfiles (known_in old) present (left_since old (moment_of old)) → IsKeptSite next tupfiles (known_in new) present (left_since new (moment_of old))
  opened_on next present step either on known kept =
      subst (λ (k : List Content). IsKeptSite next tupfiles k present (left_since new (moment_of old))) (sym known)
      (opened_remains memory.ghosts next tupfiles (known_in old) present (moment_of old) old new (omega arith) kept (earlier_law old) (as_opening step either on))

  -- of a project that has begun
  pub kept_on : (next : Next) (step : World → World → Type 0) → ((v w : World) → left_since old (moment_of old) v → step v w → (w ≡ v) ⊎ OpenStep v w) → GoesOn moment_of left_since old new step → TreeStays (world_in old) (world_in new) →
      known_in new ≡ known_in old → IsKept next old → IsKept next new
  kept_on next step either on stays known kept =
      remains_now memory.ghosts next tupfiles (known_in new) old new (present_law new) (earlier_law new) on.later stays (opened_on next (world_in old) step either on known kept)
