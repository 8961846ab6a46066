use Rattle.std.proofs.Common.{◌≡◌, ℕ, List, refl, slice_index, subst, take}
use Rattle.std.proofs.lemmas.List.{take_all}
use Rattle.tup_graph.specs.Graph.{outputs_of}
use Rattle.tup_closure.specs.Grows.{Grows}
use Rattle.tup_partial.specs.Near.{IsIn, NamesOneOf, NamesOutputOf}
use Rattle.tup_partial.proofs.Naming.{grown_list, grows_more, none_in_empty, one_of_none}
use Rattle.tup_partial.proofs.near.namers.Goals as goal

pub loop-number-init : goal.loop-number-init
loop-number-init c = record {
  only = λ n is. absurd (none_in_empty c.new-found.result n c.new-found.ensures.empty is);
  all = λ n one. absurd (one_of_none (λ (maker other : ℕ). NamesOneOf c.args.graph.now (outputs_of c.args.graph.now maker) other) n one);
  kept = λ n never. absurd never;
}

pub loop-number-preserved : goal.loop-number-preserved
loop-number-preserved c =
    let g = c.args.graph.now in
    let numbers = c.args.numbers.now in
    let at = c.loop-number.number-index in
    grows_more (λ (maker other : ℕ). NamesOneOf g (outputs_of g maker) other) numbers at (slice_index numbers at) 0 c.loop-number-test.true refl
    c.loop-number.invariant c.in_ok-add_namers.ensures.found

pub returns-clause-namers : goal.returns-clause-namers
returns-clause-namers c =
    let g = c.args.graph.now in
    let numbers = c.args.numbers.now in
    let all : take c.loop-number.number-index numbers ≡ numbers = take_all c.loop-number.number-index numbers c.loop-number-test.false in
    grown_list c.loop-number.found c.in_ok-near.near c.in_ok-near.ensures.numbers c.in_ok-near.ensures.ascending
    (subst (λ (l : List ℕ). Grows (NamesOutputOf g l) (λ _. ⊥) (IsIn c.loop-number.found)) all c.loop-number.invariant)
