-- What the Tupfiles bring to the graph of a site that was kept.
use Rattle.std.proofs.Common.{◌≡◌, ◌⊎◌, inl, inr, ◌↔◌, ℕ, true, false, cond, Bool, not, List, Ok, Option, Result, None, Some, refl, sym, ap, subst, ◌∙◌}
use Rattle.std.proofs.lemmas.Bool.{true≢false}
use Rattle.std.specs.Option.{MatchOption}
use Rattle.std.specs.Prelude.{is_some, slice_get}
use Rattle.std.specs.FinMap as finite
use Rattle.std.specs.Ordering.{nat_cmp}
use Rattle.tup_path.specs.Name.{Names, Content}
use Rattle.tup_path.specs.Order.{by_names}
use Rattle.tup_path.specs.Tree.{Tree, IsTree}
use Rattle.tup_site.specs.Known.{IsKnown, KnowsTree}
use Rattle.tup_site.specs.World.{World}
use Rattle.tup_rule.specs.declared.question.Reading.{Reading}
use Rattle.tup_rule.specs.declared.rule.Rule.{Rule}
use Rattle.tup_runner.specs.Next.{Next}
use Rattle.tup_clean.specs.Buildable.{IsBuildable}
use Rattle.tup_readings.specs.Readings.{IsOutcome}
use Rattle.tup_readings.specs.Sources.{has_tupfile}
use Rattle.tup_project.specs.Project.{AreLinked, ComeTo}
use Rattle.tup_record.specs.declared.run.RunRecord.{RunRecord}
use Rattle.tup_table.specs.Entries.{entries_of}
use Rattle.tup_graph.specs.Answers.{IsSource, tup_config, tupfile}
use Rattle.tup_graph.specs.declared.owned.Owned.{Owned}
use Rattle.tup_graph.specs.Graph.{GraphState, is_flagged, is_owned, is_rule, source}
use Rattle.tup_graph.specs.Kept.{IsGraphIn, IsKept}
use Rattle.tup_graph.specs.Reach.{IsReached}
use Rattle.tup_graph.specs.Swap.{IsNew, IsSwapped, WasAt}
use Rattle.tup_ledger.specs.Sources.{sources_of}
use Rattle.tup_ledger.proofs.Trees.{get_source}
use Rattle.tup_closure.proofs.Stored.{stored as runs_stored}
use Rattle.tup_law_graph.specs.Fitting.{AreFitting}
use Rattle.tup_law_graph.proofs.Reaching.{flags_are_reach, scan_flags_are_reach}
use Rattle.tup_law_graph.proofs.Swapping.{was_or_new}
use Rattle.tup_law_site.proofs.Stores.{one_in_bytes}
use Rattle.tup_refresh.specs.Cause.{IsRefreshOf}
use Rattle.tup_refresh.specs.Idle.{IsIdle, idle}
use Rattle.tup_refresh.specs.Refresh.{AreTrue, IsRefresh}
use Rattle.tup_refresh.specs.Untouched.{SeesSources}
use Rattle.tup_refresh.specs.declared.fault.RefreshFault.{RefreshFault}
use Rattle.tup_refresh.specs.declared.refreshed.Refreshed.{Refreshed}
use Rattle.tup_refresh.proofs.Ending.{refreshed_read}
use Rattle.tup_refresh.proofs.Idling.{idle_brings_nothing, not_created}
use Rattle.tup_refresh.proofs.Recorded.{records_serve}
use Rattle.tup_refresh.proofs.Untouched.{is_source_so}
use Rattle.tup_law_phases.specs.Language.{tupfiles}
use Rattle.tup_law_phases.proofs.Fitting.{refresh_brings}
use Rattle.tup_law_phases.proofs.Seen.{is_tree, knows_sources, sees}
use Rattle.tup_law_phases.proofs.Tupfiles.{is_language}
use Rattle.tup_law_phases.proofs.Unchanged.{comes_to, kept_tupfiles, refreshed_tupfiles}
use Rattle.tup_promise.specs.Did.{IsNoted}
use Rattle.tup_promise.specs.Kept.{AsksFor, HaveTupfiles, OfGraph}
use Rattle.tup_promise.specs.Needed.{IsDue}
use Rattle.tup_phases.specs.Kept.{BringsNothing, IsBrought, KeepsRun, KeepsRuns, StaysBrought}
use Rattle.tup_phases.specs.Prepared.{HasSeen}
use Rattle.tup_phases.proofs.Users.{still_unmade, swap_unmade}

-- an iterator that gives nothing is at its end
pub ended : {X : Type 0} (result : Option X) (none : Bool) (Ended : Type 0) (Goes : X → Type 0) → is_some result ≡ not none → none ≡ true → MatchOption result Ended Goes → Ended
ended None none Ended Goes is there steps = steps
ended (Some x) none Ended Goes is there steps = absurd (let wrong : true ≡ false = is ∙ ap not there in cc)

-- the readings of a kept graph are true beside the sources of a tree whose contents are known
pub are_true : (next : Next) (known : List Content) (g : GraphState) (tree : Tree) → IsKnown known → KnowsTree known tree → IsKept next tupfiles known g → AreTrue (sources_of g tree) g
are_true next known g tree is knows kept = records_serve tupfiles known is_language.0 (sources_of g tree) g is (knows_sources g tree known knows) kept.records.readings

-- so a refresh tells of these sources
pub refreshed_of : (next : Next) (known : List Content) (g nodes : GraphState) (tree : Tree) (config : Option Content) (result : Result Refreshed RefreshFault) → nodes ≡ g → IsKnown known → KnowsTree known tree → IsKept next tupfiles known g
    → HasSeen g tree → config ≡ finite.get tree tup_config
    → (SeesSources (sources_of nodes tree) nodes → config ≡ finite.get tree tup_config → AreTrue (sources_of nodes tree) nodes → IsRefreshOf nodes (sources_of nodes tree) result) → IsRefreshOf g (sources_of g tree) result
refreshed_of next known g nodes tree config result value is knows kept seen set tells =
    subst (λ (n : GraphState). SeesSources (sources_of n tree) n → config ≡ finite.get tree tup_config → AreTrue (sources_of n tree) n → IsRefreshOf n (sources_of n tree) result) value tells
    (sees g tree seen) set (are_true next known g tree is knows kept)

-- and where that is plain from a scan, a refresh brings nothing
module _ (first now : World) (g : GraphState) (noted : IsNoted first now g) (seen : HasSeen g now.tree) where
  abbrev sources_now : Tree
  sources_now = sources_of g now.tree

  set_so : (config : Option Content) → config ≡ finite.get now.tree tup_config → (b : Bool) → is_owned g tup_config ≡ b → (finite.get sources_now tup_config ≡ None) ⊎ (finite.get sources_now tup_config ≡ config)
  set_so config set true owned = inl (get_source g now.tree tup_config ∙ ap (λ (b : Bool). cond (not b) (finite.get now.tree tup_config) None) owned)
  set_so config set false owned = inr (get_source g now.tree tup_config ∙ ap (λ (b : Bool). cond (not b) (finite.get now.tree tup_config) None) owned ∙ sym set)

  -- what is kept of a folder that isn't flagged is what its Tupfile says
  has_one : g.created ≡ finite.empty → (dir : Names) (left : Reading) → finite.get g.readings dir ≡ Some left → (b : Bool) → has_tupfile sources_now dir ≡ b → has_tupfile sources_now dir ≡ true
  has_one created dir left there true has = has
  has_one created dir left there false lacks =
      let none : IsSource (source g) (tupfile dir) → ⊥ = λ s. true≢false (sym (is_source_so sources_now g (sees g now.tree seen) (tupfile dir) s) ∙ lacks) in
      absurd (true≢false (sym ((noted.scanned.1.created dir).1 (inr (inr (left, there, inl none)))) ∙ not_created g created dir))

  pub plain_refreshed : (next : Next) (known : List Content) (config : Option Content) → IsKnown known → KnowsTree known now.tree → IsKept next tupfiles known g → IsIdle g config → config ≡ finite.get now.tree tup_config
      → IsRefresh g sources_now (Ok (idle g))
  plain_refreshed next known config is knows kept plain set =
      idle_brings_nothing next tupfiles known g sources_now config is_language.0 is (knows_sources g now.tree known knows) kept (sees g now.tree seen) plain (set_so config set (is_owned g tup_config) refl)
      (λ dir left there. has_one plain.created dir left there (has_tupfile sources_now dir) refl)

-- readings of the sources, with the rules to which they are linked, may be swapped in
pub fits_so : (known : List Content) (g : GraphState) (tree : Tree) (found : Refreshed) (rules : List Rule) → KnowsTree known tree → IsTree tree → HasSeen g tree → IsRefresh g (sources_of g tree) (Ok found)
    → AreLinked found.all rules → ((sources : Tree) → IsOutcome sources (Ok found.all) → IsTree sources → IsBuildable sources rules) → AreFitting tupfiles known g found.fresh found.gone rules
fits_so known g tree found rules knows is seen refreshed linked can =
    refresh_brings tupfiles known g (sources_of g tree) found rules is_language.0 is_language.1 (knows_sources g tree known knows) (sees g tree seen) refreshed linked
    (can (sources_of g tree) (refreshed_read g (sources_of g tree) (Ok found) refreshed) (is_tree g tree is))

-- ---- the records of rules

-- where rules and records stay
pub still_runs : (was g h : GraphState) → h.rules ≡ g.rules → h.runs ≡ g.runs → KeepsRuns was g → KeepsRuns was h
still_runs was g h rules runs keeps number rule here = by (keeps number rule (subst (λ (l : List Rule). slice_get l number ≡ Some rule) rules here))
  where
    same : finite.get h.runs number ≡ finite.get g.runs number
    same = ap (λ (m : finite.FinMap nat_cmp RunRecord). finite.get m number) runs

    by : KeepsRun was g number rule → KeepsRun was h number rule
    by (inl (before, there, is)) = inl (before, there, same ∙ is)
    by (inr (new, none)) = inr (new, same ∙ none)

-- and where other rules are swapped in
pub swap_runs : (was g new : GraphState) (fresh : List (Names × Reading)) (gone : List Names) (rules : List Rule) → g.rules ≡ was.rules → g.runs ≡ was.runs → IsSwapped g fresh gone rules new → KeepsRuns was new
swap_runs was g new fresh gone rules same_rules same_runs swapped number rule here = by (was_or_new g rule)
  where
    same : (at : ℕ) → finite.get g.runs at ≡ finite.get was.runs at
    same at = ap (λ (m : finite.FinMap nat_cmp RunRecord). finite.get m at) same_runs

    by : ((before : ℕ) × WasAt g rule before) ⊎ IsNew g rule → KeepsRun was new number rule
    by (inl (before, there)) = inl (before, subst (λ (l : List Rule). slice_get l before ≡ Some rule) same_rules there.0, swapped.kept_runs number before rule here there ∙ same before)
    by (inr fresh_one) = inr (λ before there. fresh_one before (subst (λ (l : List Rule). slice_get l before ≡ Some rule) (sym same_rules) there), swapped.no_runs number rule here fresh_one)

-- what is reached from the graph of a world is due there
module _ (first : World) (was : GraphState) (stored : IsGraphIn first.store was) where
  due_if : (tree : Tree) (rules : List Rule) (number : ℕ) (Flag : Type 0) → tree ≡ first.tree → Flag ↔ IsReached was tree rules number → Flag ↔ IsDue first rules number
  due_if tree rules number Flag same reach = (
    λ flag. (was, stored, subst (λ (t : Tree). IsReached was t rules number) same (reach.0 flag)),
    λ due. reach.1
        (subst (λ (t : Tree). IsReached was t rules number) (sym same) (subst (λ (g : GraphState). IsReached g first.tree rules number) (one_in_bytes first.store due.0 was due.1 stored) due.2)),
  )

-- a graph of a world that was scanned, and has seen its files
module _ (first now : World) (g : GraphState) (noted : IsNoted first now g) where
  -- what was owned is owned
  pub owned_still : (was : GraphState) (path : Names) → IsGraphIn first.store was → is_owned was path ≡ true → is_owned g path ≡ true
  owned_still was path stored owned =
      ap (λ (m : finite.FinMap by_names Owned). is_some (finite.get m path)) (noted.scanned.1.owned ∙ ap (λ (h : GraphState). h.owned) (one_in_bytes first.store noted.was was noted.stored stored)) ∙ owned

  module _ (next : Next) (known : List Content) (was_kept : IsKept next tupfiles known noted.was) (seen : HasSeen g now.tree) where
    abbrev was : GraphState
    was = noted.was

    abbrev sources : Tree
    sources = sources_of was first.tree

    -- where a refresh brought nothing, its rules are those of the sources
    pub idle_brought : (found : Refreshed) → ((at : ℕ) → is_flagged was at ≡ true → is_rule was at ≡ true) → IsKept next tupfiles known g → BringsNothing g found → IsRefresh g sources (Ok found) → IsBrought first g
    idle_brought found flags kept nothing refreshed = record {
      created = nothing.created;
      read = (was, noted.stored, kept_tupfiles g sources found nothing.fresh nothing.gone refreshed);
      rules = (was, noted.stored, comes_to g sources found nothing.fresh nothing.gone next tupfiles known is_language.1 kept refreshed);
      due = λ number. due_if first was noted.stored now.tree g.rules number (is_flagged g number ≡ true) noted.tree (reach number);
      unmade = (was, noted.stored, still_unmade was g kept.owners noted.scanned.1.owned);
      runs = (was, noted.stored, still_runs was was g noted.scanned.1.rules noted.scanned.1.runs (λ number rule here. inl (number, here, refl)));
    }
      where
        reach : (number : ℕ) → (is_flagged g number ≡ true) ↔ IsReached was now.tree g.rules number
        reach number =
            subst (λ (rules : List Rule). (is_flagged g number ≡ true) ↔ IsReached was now.tree rules number) (sym noted.scanned.1.rules)
            (scan_flags_are_reach next tupfiles known was g noted.scanned.0 (finite.get first.tree tup_config) now.tree number is_language.1 was_kept flags
            (runs_stored (entries_of noted.stored.commits) was noted.stored.graph) noted.scanned.1 seen)

    -- and where readings were swapped in
    pub swap_brought : (found : Refreshed) (rules : List Rule) (new : GraphState) → SeesSources sources g → IsRefresh g sources (Ok found) → AreLinked found.all rules → IsSwapped g found.fresh found.gone rules new
        → AreFitting tupfiles known g found.fresh found.gone rules → IsBrought first new
    swap_brought found rules new as_seen refreshed linked swapped fits = record {
      created = swapped.created;
      read = (was, noted.stored, λ dir left here. refreshed_tupfiles g sources found refreshed dir left (sym (swapped.readings dir) ∙ here));
      rules = (was, noted.stored, subst (λ (l : List Rule). ComeTo sources (Ok l)) (sym swapped.rules_are) comes);
      due = λ number. due_if first was noted.stored now.tree new.rules number (is_flagged new number ≡ true) noted.tree (reach number);
      unmade = (was, noted.stored, swap_unmade known was g new noted.scanned.1.owned found.fresh found.gone rules fits swapped);
      runs = (was, noted.stored, swap_runs was g new found.fresh found.gone rules noted.scanned.1.rules noted.scanned.1.runs swapped);
    }
      where
        comes : ComeTo sources (Ok rules)
        comes = (found.all, refreshed_read g sources (Ok found) refreshed, linked)

        reach : (number : ℕ) → (is_flagged new number ≡ true) ↔ IsReached was now.tree new.rules number
        reach number =
            subst (λ (l : List Rule). (is_flagged new number ≡ true) ↔ IsReached was now.tree l number) (sym swapped.rules_are)
            (flags_are_reach next tupfiles known was g new noted.scanned.0 (finite.get first.tree tup_config) found.fresh found.gone rules now.tree sources number is_language.1 was_kept noted.scanned.1 seen as_seen comes swapped)

-- what stays so is brought still
pub brought_on : (first : World) (g h : GraphState) → StaysBrought g h → IsBrought first g
    → (h.created ≡ finite.empty) × AsksFor first h.rules × ((number : ℕ) → (is_flagged h number ≡ true) ↔ IsDue first h.rules number) × OfGraph first (λ was. HaveTupfiles (sources_of was first.tree) h)
brought_on first g h stays brought = (
  stays.created ∙ brought.created,
  subst (AsksFor first) (sym stays.rules) brought.rules,
  λ number. (
    λ flag. subst (λ (rules : List Rule). IsDue first rules number) (sym stays.rules) ((brought.due number).0 (sym (same number) ∙ flag)),
    λ due. same number ∙ (brought.due number).1 (subst (λ (rules : List Rule). IsDue first rules number) stays.rules due),
  ),
  (
    brought.read.0,
    brought.read.1,
    λ dir left here. brought.read.2 dir left (sym (ap (λ (m : finite.FinMap by_names Reading). finite.get m dir) stays.readings) ∙ here),
  ),
)
  where
    same : (number : ℕ) → is_flagged h number ≡ is_flagged g number
    same number = ap (λ (flags : finite.FinMap nat_cmp (Unit {0})). finite.contains_key flags number) stays.flags

-- so are the records
pub records_on : (first : World) (g h : GraphState) → StaysBrought g h → IsBrought first g → OfGraph first (λ was. KeepsRuns was h)
records_on first g h stays brought = (brought.runs.0, brought.runs.1, still_runs brought.runs.0 g h stays.rules stays.runs brought.runs.2)
