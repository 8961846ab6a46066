-- The lists of what is to be done, one entry after another.
use Rattle.std.proofs.Common.{◌≡◌, ◌&&◌, ℕ, Bool, true, false, cond, List, [], ◌∷◌, Option, None, Some, is_some, map, filter, refl, sym, ap, subst, ◌∙◌}
use Rattle.std.specs.FinMap as finite
use Rattle.std.specs.Option.{option_map}
use Rattle.std.specs.Prelude.{slice_get}
use Rattle.std.specs.List.{flat_map}
use Rattle.tup_path.specs.Name.{Names, Content}
use Rattle.tup_path.specs.Tree.{Tree}
use Rattle.tup_stamp.specs.Stamp.{stamp}
use Rattle.tup_rule.specs.declared.rule.Rule.{Rule}
use Rattle.tup_graph.specs.Graph.{GraphState}
use Rattle.tup_graph.specs.declared.owned.Owned.{Owned}
use Rattle.tup_stale.specs.Unmade.{lacks_maker, unmade, standing}
use Rattle.tup_phases.specs.Prepared.{HasSeen}
use Rattle.tup_todo.specs.Listing.{due_at, due_of, is_vanished, vanished}
use Rattle.tup_todo.specs.declared.listing.DueRule.{DueRule}

-- the vanished paths of some entries
abbrev pub vanished_of : GraphState → List (Names × Owned) → List Names
vanished_of g entries = map (λ (entry : Names × Owned). entry.0) (filter (is_vanished g) entries)

-- the rules of some flags
abbrev pub due_of_flags : {T : Type 0} → List Rule → List (ℕ × T) → List DueRule
due_of_flags {T} rules entries = flat_map (λ (entry : ℕ × T). due_at rules entry.0) entries

-- where there is no rule of a number, none is due
pub due_none : (rules : List Rule) (number : ℕ) → slice_get rules number ≡ None → due_at rules number ≡ []
due_none rules number none = ap (λ (found : Option Rule). elim found as (λ _. List DueRule) [ Some rule ↦ due_of rule ∷ [] | None ↦ [] ]) none

-- two tests of entries, one after the other
both_tests : (test other : Names → Bool) → ((path : Names) → other path ≡ test path) → (entries : List (Names × Owned)) →
    map (λ (entry : Names × Owned). entry.0) (filter (λ (entry : Names × Owned). lacks_maker entry && other entry.0) entries)
    ≡ filter test (map (λ (entry : Names × Owned). entry.0) (filter lacks_maker entries))
both_tests test other same [] = refl
both_tests test other same (entry ∷ entries) =
    let first : Names × Owned → Names = λ e. e.0 in
    let one = filter (λ (e : Names × Owned). lacks_maker e && other e.0) entries in
    let two = filter lacks_maker entries in
    let on : map first one ≡ filter test (map first two) = both_tests test other same entries in
    let here : map first (cond (other entry.0) (entry ∷ one) one) ≡ cond (test entry.0) (entry.0 ∷ filter test (map first two)) (filter test (map first two)) =
    subst (λ (b : Bool). map first (cond b (entry ∷ one) one) ≡ cond (test entry.0) (entry.0 ∷ filter test (map first two)) (filter test (map first two))) (sym (same entry.0))
    (elim (test entry.0) as (λ b. map first (cond b (entry ∷ one) one) ≡ cond b (entry.0 ∷ filter test (map first two)) (filter test (map first two))) [ true ↦ ap (λ (l : List Names). entry.0 ∷ l) on | false ↦ on ]) in
    elim (lacks_maker entry) as (λ b. map first (cond (b && other entry.0) (entry ∷ one) one) ≡ filter test (map first (cond b (entry ∷ two) two))) [ true ↦ here | false ↦ on ]

-- a file was seen just where one stands
stamped : (found : Option Content) → is_some (option_map stamp found) ≡ is_some found
stamped None = refl
stamped (Some content) = refl

-- what vanished is what stands at the owned paths without a rule, where the graph has seen the files as they are
pub vanished_stand : (g : GraphState) (tree : Tree) → HasSeen g tree → vanished g ≡ standing tree (unmade g)
vanished_stand g tree seen =
    both_tests (λ path. is_some (finite.get tree path)) (λ path. is_some (finite.get g.seen path))
    (λ path. ap is_some (seen path) ∙ stamped (finite.get tree path)) (finite.entries g.owned)
