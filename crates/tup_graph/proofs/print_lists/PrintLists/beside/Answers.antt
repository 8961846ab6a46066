use Rattle.std.proofs.Common.{◌≡◌, ℕ, List, sym, subst}
use Rattle.std.specs.Prelude.{Contains}
use Rattle.std.specs.Cmp.{nat_cmp_total}
use Rattle.std.proofs.lemmas.Map.Lookups.{exact_unsigned}
use Rattle.std.proofs.lemmas.Map.Views.{btree_set_contains_iff}
use Rattle.std.proofs.lemmas.Result.{IfOk-weaker}
use Rattle.tup_graph.proofs.Printing.{stands_in}
use Rattle.tup_graph.proofs.print_lists.PrintLists.beside.Goals as goal

pub returns-clause-all : goal.returns-clause-all
returns-clause-all c =
    let set = c.in_ok-numbers_in.field-0 in
    let list = c.index.result.now in
    IfOk-weaker c.listed.result _ _
    (λ numbers same number stood.
    subst (λ (l : List ℕ). Contains l number) (sym same)
    ((btree_set_contains_iff nat_cmp_total exact_unsigned set number).0
    (c.in_ok-numbers_in.ensures number
    (subst (λ (l : List (ℕ × ℕ)). Contains l (c.args.print, number)) (sym c.as_slice-list.ensures)
    (stands_in c.args.self.now c.self.inside.lists.items list c.args.print number c.self.view_is c.self.invariant c.index.ensures stood)))))
    c.listed.ensures.list
