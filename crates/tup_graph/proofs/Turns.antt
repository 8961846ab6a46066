-- Edits that are taken in turn, read again.
use Rattle.std.proofs.Common.{◌⊎◌, ℕ, List, [], ◌∷◌, ◌++◌, map, sym, subst, inl, ⊎_elim}
use Rattle.std.specs.List.{AllByRecursion}
use Rattle.tup_table.specs.Entries.{Standing, IsAscending, changed, committed}
use Rattle.tup_table.proofs.Keys.{changed_ascending}
use Rattle.tup_graph.specs.declared.edit.Edit.{Edit}
use Rattle.tup_graph.specs.Graph.{GraphState}
use Rattle.tup_graph.specs.Opening.{IsGraphOf}
use Rattle.tup_graph.specs.Edits.{edited, edited_by, change_of, IsTaken, IsRuleTaken, AreTakenInTurn}
use Rattle.tup_graph.proofs.Leading.{one_edit, beside_of, all_after}
use Rattle.tup_graph.proofs.Bare.{rule_less, rule_more}

module _ (origin : ℕ) where
  abbrev IsRead : Standing → GraphState → Edit → Type 0
  IsRead es g e = IsGraphOf (changed origin es (change_of e)) (edited g e)

  one_rule : (e : Edit) (es : Standing) (g : GraphState) → IsAscending es → IsGraphOf es g → IsRuleTaken g e → IsRead es g e
  one_rule e es g up is taken = ⊎_elim
      (λ less. subst (IsRead es g) (sym less.0) (rule_less es g taken.number taken.place taken.rule up is taken.bare taken.spelled less.1))
      (λ more. subst (IsRead es g) (sym more.0) (rule_more es g taken.number taken.place origin taken.rule is taken.bare taken.spelled more.1)) taken.one

  one_turn : (e : Edit) (es : Standing) (g : GraphState) → IsAscending es → IsGraphOf es g → IsTaken g e ⊎ IsRuleTaken g e → IsRead es g e
  one_turn e es g up is taken = ⊎_elim (one_edit origin e es g up is) (one_rule e es g up is) taken

  pub turns_read : (edits : List Edit) (es : Standing) (g : GraphState) → IsAscending es → IsGraphOf es g → AreTakenInTurn g edits → IsGraphOf (committed origin es (map change_of edits)) (edited_by g edits)
  turns_read [] es g up is taken = is
  turns_read (e ∷ edits) es g up is taken =
      turns_read edits (changed origin es (change_of e)) (edited g e) (changed_ascending origin es (change_of e) up) (one_turn e es g up is taken.0) taken.1

-- ---- how edits come to be taken in turn
-- edits that a graph takes, none of which is of a rule, are taken in any order
pub taken_so : (g : GraphState) (edits : List Edit) → AllByRecursion (IsTaken g) edits → AreTakenInTurn g edits
taken_so g [] all = tt
taken_so g (e ∷ edits) all = (inl all.0, taken_so (edited g e) edits (all_after g e edits (beside_of g e all.0) all.1))

pub taken_both : (g : GraphState) (xs ys : List Edit) → AreTakenInTurn g xs → AreTakenInTurn (edited_by g xs) ys → AreTakenInTurn g (xs ++ ys)
taken_both g [] ys front rest = rest
taken_both g (x ∷ xs) ys front rest = (front.0, taken_both (edited g x) xs ys front.1 rest)
