use Rattle.std.proofs.Common.{◌≡◌, ◌↔◌, ℕ, true, List, Contains, map, sym, ap, subst, ◌∙◌}
use Rattle.std.specs.FinMap as finite
use Rattle.std.specs.Map.Iter.{deref_pair}
use Rattle.std.specs.Ordering.{nat_cmp}
use Rattle.std.proofs.lemmas.Map.Iter.{iter_end}
use Rattle.tup_graph.specs.Graph.{GraphState, is_flagged}
use Rattle.tup_closure.proofs.Members.{in_list, listed, number-decides}
use Rattle.tup_partial.proofs.planning.flagged.Goals as goal

-- the keys of its flags are the numbers of the flagged rules
are_flagged : (g : GraphState) (numbers : List ℕ) → numbers ≡ finite.keys g.flags → (n : ℕ) → Contains numbers n ↔ (is_flagged g n ≡ true)
are_flagged g numbers same n = (
  λ h. finite.contains_key-keys g.flags n ∙ in_list nat_cmp number-decides (finite.keys g.flags) n (subst (λ (l : List ℕ). Contains l n) same h),
  λ is. subst (λ (l : List ℕ). Contains l n) (sym same) (listed nat_cmp number-decides (finite.keys g.flags) n (sym (finite.contains_key-keys g.flags n) ∙ is)),
)

pub returns-clause-flagged : goal.returns-clause-flagged
returns-clause-flagged c =
    let all = iter_end deref_pair (finite.entries c.args.graph.now.flags) c.loop-number.yielded c.into_iter-number-iterator.result c.loop-number.number-iterator c.next.new.self c.next.result
    (c.into_iter-number-iterator.ensures.into_iter_gives ∙ c.flags-number-items.ensures) c.loop-number.yielded_by c.in-None.is c.next.ensures.steps in
    are_flagged c.args.graph.now c.loop-number.numbers (c.loop-number.invariant ∙ ap (map (λ (flag : ℕ × Unit {0}). flag.0)) all.0)
