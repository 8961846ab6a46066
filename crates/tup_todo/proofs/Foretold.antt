-- What was listed is what an update does that begins there.
use Rattle.std.proofs.Common.{◌≡◌, inl, ℕ, Bool, zero, suc, true, List, [], ◌∷◌, Option, None, Some, is_some, Ok, IsTrue, refl, sym, ap, subst, ◌∙◌, arith}
use Rattle.std.specs.Cmp.{nat_cmp_total}
use Rattle.std.specs.FinMap as finite
use Rattle.std.specs.FinMap.{nat_cmp-IsAntisymmetric}
use Rattle.std.specs.Prelude.{◌↔◌, Contains, slice_get}
use Rattle.std.proofs.lemmas.Bool.{false≢true}
use Rattle.std.proofs.lemmas.List.Elements.{All-contains}
use Rattle.tup_path.specs.Name.{Names, Content}
use Rattle.tup_path.specs.Tree.{Tree}
use Rattle.tup_site.specs.Known.{IsKnown, KnowsTree}
use Rattle.tup_site.specs.World.{World}
use Rattle.tup_rule.specs.Rule.{name_of}
use Rattle.tup_rule.specs.declared.rule.Rule.{Rule}
use Rattle.tup_rule.specs.declared.rule.RuleName.{RuleName}
use Rattle.tup_readings.specs.Sources.{has_tupfile}
use Rattle.tup_runner.specs.Next.{Next}
use Rattle.tup_project.specs.Project.{ComeTo}
use Rattle.tup_graph.specs.Graph.{GraphState, is_flagged}
use Rattle.tup_graph.specs.Kept.{IsGraphIn, IsKept, IsKeptWorld}
use Rattle.tup_readers.proofs.Entries.{entry_found, found_entry, none_in}
use Rattle.tup_ledger.specs.Sources.{sources_of}
use Rattle.tup_law_graph.proofs.Lists.{flat_map_in, in_flat_map}
use Rattle.tup_law_site.proofs.Stores.{one_in_bytes}
use Rattle.tup_law_phases.specs.Language.{tupfiles}
use Rattle.tup_promise.specs.Did.{DidBoth, ReadAndRemoved, ReadsWhatIsDue}
use Rattle.tup_promise.specs.Kept.{AsksFor, HaveTupfiles, OfGraph}
use Rattle.tup_promise.specs.Needed.{HasName, IsDue, IsDueName, NamesAllDue, RunsAll, RunsWhatIsNeeded}
use Rattle.tup_promise.specs.declared.log.Log.{Log}
use Rattle.tup_promise.specs.declared.stop.Stop.{Stop}
use Rattle.tup_promise.proofs.Asked.{one_asked}
use Rattle.tup_ends.proofs.Names.{contains_at}
use Rattle.tup_ends.proofs.Unread.{none_read}
use Rattle.tup_phases.specs.Kept.{IsBrought}
use Rattle.tup_phases.proofs.Users.{still_unmade}
use Rattle.tup_todo.specs.Behind.{DoesWhatWasListed, IsListed}
use Rattle.tup_todo.specs.Listing.{due_at, due_of, due_rules}
use Rattle.tup_todo.specs.Lists.{ListsWhatIsDue}
use Rattle.tup_todo.specs.declared.listing.DueRule.{DueRule}
use Rattle.tup_todo.specs.declared.todo.Todo.{Todo}
use Rattle.tup_todo.proofs.Listed.{due_none}

-- ---- in what is left the same is to be done

-- where the sources stayed, they ask for the same rules
pub asked_still : (old new : World) (rules : List Rule) → OfGraph old (λ g. OfGraph new (λ h. sources_of h new.tree ≡ sources_of g old.tree)) → AsksFor old rules → AsksFor new rules
asked_still old new rules (g, mine, (h, theirs, same)) (k, reads, come) = (
  h,
  theirs,
  subst (λ (tree : Tree). ComeTo tree (Ok rules)) (sym same)
      (subst (λ (x : GraphState). ComeTo (sources_of x old.tree) (Ok rules)) (one_in_bytes old.store k g reads mine) come),
)

-- and each folder has a Tupfile of which a reading is kept
pub read_still : (old new : World) (g : GraphState) → IsGraphIn new.store g → OfGraph old (λ g. OfGraph new (λ h. sources_of h new.tree ≡ sources_of g old.tree)) → OfGraph old (λ was. HaveTupfiles (sources_of was old.tree) g) → HaveTupfiles (sources_of g new.tree) g
read_still old new g stored (k, mine, (h, theirs, same)) (was, reads, read) dir left here =
    subst (λ (tree : Tree). IsTrue (has_tupfile tree dir))
    (ap (λ (x : GraphState). sources_of x old.tree) (one_in_bytes old.store was k reads mine) ∙ sym same ∙ ap (λ (x : GraphState). sources_of x new.tree) (one_in_bytes new.store h g theirs stored))
    (read dir left here)

-- a kept graph that stands in a world is up to date there, where it has the rules that the sources ask for, and just those are flagged that are due
pub brought_there : (next : Next) (known : List Content) (w : World) (g : GraphState) → IsKept next tupfiles known g → IsGraphIn w.store g → g.created ≡ finite.empty → AsksFor w g.rules
    → ((number : ℕ) → (is_flagged g number ≡ true) ↔ IsDue w g.rules number) → HaveTupfiles (sources_of g w.tree) g → IsBrought w g
brought_there next known w g kept stored created asked due read = record {
  created = created;
  read = (g, stored, read);
  rules = asked;
  due = due;
  unmade = (g, stored, still_unmade g g kept.owners refl);
  runs = (g, stored, λ number rule here. inl (number, here, refl));
}

-- ---- the list of due rules

-- the rule of a number is due, and no other one
due_some : (rules : List Rule) (number : ℕ) (rule : Rule) → slice_get rules number ≡ Some rule → due_at rules number ≡ due_of rule ∷ []
due_some rules number rule here = ap (λ (found : Option Rule). elim found as (λ _. List DueRule) [ Some one ↦ due_of one ∷ [] | None ↦ [] ]) here

one_in : (first due : DueRule) → Contains (first ∷ []) due → first ≡ due
one_in first due (zero, less, is) = is
one_in first due (suc place, less, is) = absurd (none_in due (place, omega (arith, less), is))

rule_of : (rules : List Rule) (number : ℕ) (due : DueRule) → Contains (due_at rules number) due → (rule : Rule) × (slice_get rules number ≡ Some rule) × (due_of rule ≡ due)
rule_of rules number due there = by (slice_get rules number) refl
  where
    by : (found : Option Rule) → slice_get rules number ≡ found → (rule : Rule) × (slice_get rules number ≡ Some rule) × (due_of rule ≡ due)
    by None none = absurd (none_in due (subst (λ (list : List DueRule). Contains list due) (due_none rules number none) there))
    by (Some rule) here = (rule, here, one_in (due_of rule) due (subst (λ (list : List DueRule). Contains list due) (due_some rules number rule here) there))

has_flag : {X : Type 0} (found : Option X) → is_some found ≡ true → (value : X) × (found ≡ Some value)
has_flag None is = absurd (false≢true is)
has_flag (Some value) is = (value, refl)

-- a flagged rule is among those that are listed as due
flagged_listed : (g : GraphState) (number : ℕ) (rule : Rule) → slice_get g.rules number ≡ Some rule → is_flagged g number ≡ true → Contains (due_rules g) (due_of rule)
flagged_listed g number rule here flagged =
    let entry = has_flag (finite.get g.flags number) flagged in
    flat_map_in (λ (one : ℕ × Unit {0}). due_at g.rules one.0) (finite.entries g.flags) (number, entry.0) (due_of rule) (entry_found nat_cmp_total nat_cmp-IsAntisymmetric g.flags number entry.0 entry.1)
    (subst (λ (list : List DueRule). Contains list (due_of rule)) (sym (due_some g.rules number rule here)) (contains_at (due_of rule ∷ []) zero (due_of rule) refl))

-- and each that is listed is a flagged rule
listed_flagged : (g : GraphState) (due : DueRule) → Contains (due_rules g) due → (number : ℕ) × (rule : Rule) × (slice_get g.rules number ≡ Some rule) × (due_of rule ≡ due) × (is_flagged g number ≡ true)
listed_flagged g due there =
    let found = in_flat_map (λ (one : ℕ × Unit {0}). due_at g.rules one.0) (finite.entries g.flags) due there in
    let rule = rule_of g.rules found.0.0 due found.2 in
    (found.0.0, rule.0, rule.1, rule.2, ap is_some (found_entry nat_cmp_total nat_cmp-IsAntisymmetric g.flags found.0.0 found.0.1 found.1))

-- ---- an update that begins in what was left
module _ (old left : World) (todo : Todo) (lists : ListsWhatIsDue old left todo) where
  abbrev rules : List Rule
  rules = lists.graph.rules

  -- the name of a rule that is due is listed
  is_listed : (name : RuleName) → IsDueName left name → IsListed todo.runs name
  is_listed name due =
      let same : due.rules ≡ rules = one_asked left due.rules rules due.asked lists.still in
      let named : HasName rules due.at name = subst (λ (list : List Rule). HasName list due.at name) same due.named in
      let flagged : is_flagged lists.graph due.at ≡ true = (lists.again due.at).1 (subst (λ (list : List Rule). IsDue left list due.at) same due.due) in
      (due_of named.0, subst (λ (list : List DueRule). Contains list (due_of named.0)) (sym lists.runs) (flagged_listed lists.graph due.at named.0 named.1 flagged), named.2)

  -- what names all that is due names all that is listed
  all_named : (names : List RuleName) → NamesAllDue left names → (due : DueRule) → Contains todo.runs due → Contains names due.rule
  all_named names all due there =
      let (number, rule, here, is, flagged) = listed_flagged lists.graph due (subst (λ (list : List DueRule). Contains list due) lists.runs there) in
      subst (λ (one : DueRule). Contains names one.rule) is (all rules number (name_of rule) lists.still ((lists.again number).0 flagged) (rule, here, refl))

  pub listed_done : (next : Next) (keep_going : Bool) (jobs : ℕ) (log : Log) (stopped : Option Stop) → RunsWhatIsNeeded next keep_going jobs left log.ran stopped → ReadAndRemoved left log stopped → DoesWhatWasListed todo log stopped
  listed_done next keep_going jobs log stopped needed did = record {
    only = λ name there. is_listed name (All-contains (IsDueName left) log.ran name needed.due there);
    all = λ none. all_named log.ran (subst (RunsAll next keep_going jobs left log.ran) none needed.all);
    removes = λ none path.
        let both : DidBoth left log = subst (ReadAndRemoved left log) none did in
        (λ gone. (lists.goes.just path).1 ((both.1.just path).0 gone), λ listed. (both.1.just path).1 ((lists.goes.just path).0 listed));
  }

  -- and it reads no Tupfile
  pub listed_read : (next : Next) (known : List Content) → IsKeptWorld next tupfiles known left → IsKnown known → KnowsTree known left.tree → (read : List Names) → ReadsWhatIsDue left read → read ≡ []
  listed_read next known kept apart knows read reads =
      none_read next known left lists.graph lists.stored (subst (IsKept next tupfiles known) (one_in_bytes left.store kept.graph lists.graph kept.reads lists.stored) kept.kept) apart knows lists.created lists.seen lists.all_read read reads
