use Rattle.std.proofs.Common.{◌≡◌, ℕ, List, refl, subst, slice_index, take}
use Rattle.std.specs.Ordering.{nat_cmp}
use Rattle.std.proofs.lemmas.List.{take_all}
use Rattle.tup_closure.specs.Grows.{Grows}
use Rattle.tup_closure.proofs.Growing.{grows_nothing}
use Rattle.tup_closure.proofs.Members.{inserted, number-decides}
use Rattle.tup_partial.specs.Near.{IsIn}
use Rattle.tup_partial.proofs.Naming.{OneOf, grows_listed, grows_more, one_of_none}
use Rattle.tup_partial.proofs.near.add_numbers.Goals as goal

pub loop-number-init : goal.loop-number-init
loop-number-init c = grows_nothing (one_of_none (λ (m n : ℕ). n ≡ m))

pub loop-number-preserved : goal.loop-number-preserved
loop-number-preserved c =
    let numbers = c.args.numbers.now in
    let at = c.loop-number.number-index in
    let number = slice_index numbers at in
    grows_more (λ (m n : ℕ). n ≡ m) numbers at number 0 c.loop-number-test.true refl
    c.loop-number.invariant (inserted nat_cmp number-decides c.loop-number.found c.insert.new.self number c.in_ok-insert.ensures.updates)

pub returns-clause-found : goal.returns-clause-found
returns-clause-found c =
    let numbers = c.args.numbers.now in
    let all : take c.loop-number.number-index numbers ≡ numbers = take_all c.loop-number.number-index numbers c.loop-number-test.false in
    grows_listed numbers (subst (λ (l : List ℕ). Grows (OneOf (λ (m n : ℕ). n ≡ m) l) (IsIn c.args.found.now) (IsIn c.loop-number.found)) all c.loop-number.invariant)
