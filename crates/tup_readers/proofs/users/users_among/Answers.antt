use Rattle.std.proofs.Common.{List, ◌++◌, ◌∙◌, ℕ, slice_index, sym, ap, subst}
use Rattle.std.specs.List.Sorted.{IsStrictlySortedBy}
use Rattle.std.specs.Ordering.{nat_cmp}
use Rattle.std.specs.Prelude.{filter}
use Rattle.std.proofs.lemmas.List.{take_all}
use Rattle.std.proofs.lemmas.List.Elements.{filter_more}
use Rattle.std.proofs.lemmas.List.Kept.{IsStrictlySortedBy-filter}
use Rattle.tup_readers.specs.Askers.{key_if}
use Rattle.tup_readers.specs.Users.{is_user}
use Rattle.tup_readers.proofs.Using.{users_among}
use Rattle.tup_readers.proofs.users.users_among.Goals as goal

pub loop-number-init : goal.loop-number-init
loop-number-init c = c.new-users.ensures.items

pub loop-number-preserved : goal.loop-number-preserved
loop-number-preserved c =
    let test = is_user c.args.way c.args.nodes.now c.args.path.now in
    let numbers = c.args.numbers.now in
    let at = c.loop-number.number-index in
    let number = slice_index numbers at in
    c.in_ok-push_if_user.ensures
    ∙ ap (λ (l : List ℕ). l ++ key_if (test number) number) c.loop-number.invariant
    ∙ sym (filter_more test numbers at 0 c.loop-number-test.true)

pub returns-clause-users : goal.returns-clause-users
returns-clause-users c =
    let test = is_user c.args.way c.args.nodes.now c.args.path.now in
    let numbers = c.args.numbers.now in
    users_among c.args.way c.args.nodes.now c.args.path.now numbers c.loop-number.users.items
    (c.loop-number.invariant ∙ ap (λ (l : List ℕ). filter test l) (take_all c.loop-number.number-index numbers c.loop-number-test.false))

pub returns-clause-ascending : goal.returns-clause-ascending
returns-clause-ascending c = λ up.
    let test = is_user c.args.way c.args.nodes.now c.args.path.now in
    let numbers = c.args.numbers.now in
    subst (IsStrictlySortedBy nat_cmp) (sym (c.loop-number.invariant ∙ ap (λ (l : List ℕ). filter test l) (take_all c.loop-number.number-index numbers c.loop-number-test.false)))
    (IsStrictlySortedBy-filter nat_cmp test numbers up)
