use Rattle.std.proofs.Common.{◌↔◌, List, ℕ, sym, subst, inl}
use Rattle.std.specs.List.Sorted.{IsStrictlySortedBy}
use Rattle.std.specs.Ordering.{nat_cmp}
use Rattle.std.specs.Prelude.{Contains}
use Rattle.tup_graph.specs.Graph.{GraphState}
use Rattle.tup_graph.specs.Above.{HasAsked}
use Rattle.tup_readers.proofs.Using.{all_among, user_printed}
use Rattle.tup_readers.proofs.indexed.Indexed.readers_of.Goals as goal

pub returns-clause-readers : goal.returns-clause-readers
returns-clause-readers c = λ number.
    let g = c.self.inside.nodes in
    let path = c.args.path.now in
    let near = c.deref.result.now in
    let found : (n : ℕ) → HasAsked g n path → Contains near n = λ n asked.
    subst (λ (l : List ℕ). Contains l n) (sym c.deref.ensures.value) (c.in_ok-near.ensures.users n (user_printed g c.self.inside.prints c.self.invariant.0 path n (inl asked))) in
    let items = c.in_ok-users_among.field-0.items in
    subst (λ (h : GraphState). Contains items number ↔ HasAsked h number path) c.self.view_is
    (all_among (λ n. HasAsked g n path) near items found c.in_ok-users_among.ensures.users number)

pub returns-clause-ascending : goal.returns-clause-ascending
returns-clause-ascending c = c.in_ok-users_among.ensures.ascending (subst (IsStrictlySortedBy nat_cmp) (sym c.deref.ensures.value) c.in_ok-near.ensures.ascending)
