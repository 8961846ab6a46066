-- Rules that use a path, among those beside its print.
use Rattle.std.specs.Prelude.{◌≡◌, ◌⊎◌, ◌↔◌, ◌||◌, ℕ, Bool, true, false, List, Option, None, Some, Contains, filter, slice_get}
use Rattle.std.proofs.Common.{refl, sym, subst, ◌∙◌, inl, inr}
use Rattle.std.specs.FinMap as finite
use Rattle.std.specs.Ordering.{nat_cmp}
use Rattle.std.proofs.lemmas.Bool.{false≢true, or_left, or_right}
use Rattle.std.proofs.lemmas.List.Folds.{Any-from_list_any, list_any-from_Any}
use Rattle.tup_path.specs.Name.{Names}
use Rattle.tup_path.specs.Order.{same_path}
use Rattle.tup_path.proofs.Same.{same_path-decides}
use Rattle.tup_rule.specs.Rule.{declares, writes}
use Rattle.tup_rule.specs.declared.rule.Rule.{Rule}
use Rattle.tup_stamp.specs.declared.Stamp.{Stamp}
use Rattle.tup_record.specs.declared.run.RunRecord.{RunRecord}
use Rattle.tup_graph.specs.Above.{HasAsked}
use Rattle.tup_graph.specs.Graph.{GraphState, empty_graph}
use Rattle.tup_graph.specs.Lists.{StandsBeside, print_of}
use Rattle.tup_graph.specs.Prints.{HasPrints}
use Rattle.tup_graph.specs.declared.prints.Prints.{Prints}
use Rattle.tup_readers.specs.Index.{HasNamed, HasWritten, IsUserIn}
use Rattle.tup_readers.specs.Users.{IsUserBy, asks_it, is_user, names_it, tells, wrote_it}
use Rattle.tup_readers.specs.declared.users.Way.{Way}
use Rattle.tup_readers.specs.declared.users.Way.TheVariants as ways
use Rattle.tup_readers.proofs.Filtering.{filter_in, in_filter}
use Rattle.tup_readers.proofs.Keeping.{none_some}

-- ---- the ways in which a path is used

module _ {T : Type 0} (path : Names) (list : List (Names × T)) where
  -- a list that tells of a path has a pair of it
  told : tells path list ≡ true → (given : T) × Contains list (path, given)
  told e =
      let found = Any-from_list_any (λ (one : Names × T). same_path path one.0) list e in
      let here : path ≡ found.1.0 = (same_path-decides path found.1.0).0 found.4 in
      (found.1.1, subst (λ (p : Names). Contains list (p, found.1.1)) (sym here) (found.0, found.2, found.3))

  tells_it : (given : T) → Contains list (path, given) → tells path list ≡ true
  tells_it given h = list_any-from_Any (λ (one : Names × T). same_path path one.0) list (h.0, (path, given), h.1, h.2, (same_path-decides path path).1 refl)

either_of : (a b : Bool) → (a || b) ≡ true → (a ≡ true) ⊎ (b ≡ true)
either_of true b e = inl refl
either_of false b e = inr e

module _ (path : Names) where
  asked_in : (found : Option RunRecord) → asks_it path found ≡ true → (run : RunRecord) × (given : Option Stamp) × (found ≡ Some run) × Contains run.asks (path, given)
  asked_in (Some run) e = let (given, in_it) = told path run.asks e in (run, given, refl, in_it)
  asked_in None e = absurd (false≢true e)

  wrote_in : (found : Option RunRecord) → wrote_it path found ≡ true → (run : RunRecord) × (given : Stamp) × (found ≡ Some run) × Contains run.writes (path, given)
  wrote_in (Some run) e = let (given, in_it) = told path run.writes e in (run, given, refl, in_it)
  wrote_in None e = absurd (false≢true e)

  named_in : (found : Option Rule) → names_it path found ≡ true → (rule : Rule) × (found ≡ Some rule) × ((declares rule path ≡ true) ⊎ (writes rule path ≡ true))
  named_in (Some rule) e = (rule, refl, either_of (declares rule path) (writes rule path) e)
  named_in None e = absurd (false≢true e)

  module _ (g : GraphState) (number : ℕ) where
    asks : HasAsked g number path → asks_it path (finite.get g.runs number) ≡ true
    asks (run, given, here, in_it) = subst (λ (o : Option RunRecord). asks_it path o ≡ true) (sym here) (tells_it path run.asks given in_it)

    wrote : HasWritten g number path → wrote_it path (finite.get g.runs number) ≡ true
    wrote (run, given, here, in_it) = subst (λ (o : Option RunRecord). wrote_it path o ≡ true) (sym here) (tells_it path run.writes given in_it)

    names : HasNamed g number path → is_user ways.Names g path number ≡ true
    names (rule, here, so) = subst (λ (o : Option Rule). names_it path o ≡ true) (sym here) (elim so [
      | inl declared ↦ or_left (declares rule path) (writes rule path) declared
      | inr made ↦ or_right (declares rule path) (writes rule path) made
    ])

    uses_so : (way : Way) → is_user way g path number ≡ true → IsUserBy way g path number
    uses_so ways.Asks e = asked_in (finite.get g.runs number) e
    uses_so ways.Writes e = wrote_in (finite.get g.runs number) e
    uses_so ways.Names e = named_in (slice_get g.rules number) e

    so_uses : (way : Way) → IsUserBy way g path number → is_user way g path number ≡ true
    so_uses ways.Asks asked = asks asked
    so_uses ways.Writes written = wrote written
    so_uses ways.Names named = names named

-- those of some numbers that pass the test use the path so
pub users_among : (way : Way) (g : GraphState) (path : Names) (numbers users : List ℕ) → users ≡ filter (is_user way g path) numbers
    → (number : ℕ) → Contains users number ↔ (Contains numbers number × IsUserBy way g path number)
users_among way g path numbers users are number = (to, from)
  where
    to : Contains users number → Contains numbers number × IsUserBy way g path number
    to h =
        let (there, so) = filter_in (is_user way g path) numbers number (subst (λ (l : List ℕ). Contains l number) are h) in
        (there, uses_so path g number way so)

    from : Contains numbers number × IsUserBy way g path number → Contains users number
    from (there, user) = subst (λ (l : List ℕ). Contains l number) (sym are) (in_filter (is_user way g path) numbers number there (so_uses path g number way user))

-- ---- prints

-- all of a kind are among those of some numbers, where these have all of them
pub all_among : (IsOne : ℕ → Type 0) (numbers users : List ℕ) → ((number : ℕ) → IsOne number → Contains numbers number) → ((number : ℕ) → Contains users number ↔ (Contains numbers number × IsOne number))
    → (number : ℕ) → Contains users number ↔ IsOne number
all_among IsOne numbers users near are number = (λ h. ((are number).0 h).1, λ one. (are number).1 (near number one, one))

module _ (g : GraphState) (prints : Prints) (has : HasPrints g prints) (path : Names) (number : ℕ) where
  pub user_printed : IsUserIn g path number → StandsBeside prints.recorded (print_of path) number
  user_printed (inl (run, given, here, in_it)) = has.recorded number run path here (inl (given, in_it))
  user_printed (inr (run, given, here, in_it)) = has.recorded number run path here (inr (given, in_it))

  pub namer_printed : HasNamed g number path → StandsBeside prints.named (print_of path) number
  namer_printed (rule, here, so) = has.named number rule path here so

-- a new store needs no prints
pub none_printed : (prints : Prints) → HasPrints empty_graph prints
none_printed prints = record {
  named = λ number rule path here so. absurd (none_some rule here);
  recorded = λ number run path here so. absurd (none_some run (sym (finite.get-empty nat_cmp number) ∙ here));
}
