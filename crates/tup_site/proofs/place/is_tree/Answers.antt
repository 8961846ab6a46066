use Rattle.std.proofs.Common.{◌≡◌, [], ◌∷◌, ◌++◌, true, false, rules, refl, sym, ap, subst, ◌∙◌, append_assoc}
use Rattle.std.proofs.lemmas.Bool.{both_ways, not-true, not-false}
use Rattle.std.proofs.lemmas.List.Elements.{All-nil, All-push}
use Rattle.std.specs.List.{All}
use Rattle.tup_path.specs.Tree.{tree_of_files}
use Rattle.tup_site.specs.Edit.{Stands}
use Rattle.tup_site.proofs.Made.{listed}
use Rattle.tup_site.proofs.Standing.{tree_from_all, stands_in_tree, key_is_there}
use Rattle.tup_site.proofs.place.is_tree.Goals as goal

pub loop-path-init : goal.loop-path-init
loop-path-init c = ([], refl, All-nil (Stands (tree_of_files c.args.files.now.entries)))

pub loop-path-preserved : goal.loop-path-preserved
loop-path-preserved c =
    let is : c.may_stand.result ≡ true = search (rules, not-false) in
    let before = c.loop-path.invariant in (
      before.0 ++ c.in-Some.path.now ∷ [],
      append_assoc before.0 _ _ ∙ ap (λ l. before.0 ++ l) (sym c.in-Some.ensures.steps) ∙ before.1,
      All-push (Stands (tree_of_files c.args.files.now.entries)) before.0 c.in-Some.path.now before.2 (c.may_stand.ensures.0 is),
    )

pub returns-then-not-may_stand : goal.returns-then-not-may_stand
returns-then-not-may_stand c =
    let is : c.may_stand.result ≡ false = search (rules, not-true) in
    let before = c.loop-path.invariant in
    let there = key_is_there c.args.files.now before.0 _ c.in-Some.path.now (ap (λ l. before.0 ++ l) (sym c.in-Some.ensures.steps) ∙ before.1 ∙ c.into_iter-path-iterator.ensures.into_iter_gives ∙ c.keys-path-items.ensures.rest) c.keys-path-items.ensures.ordered in
    (λ so. absurd (both_ways true (sym so) refl), λ tree. absurd (both_ways _ is (c.may_stand.ensures.1 (stands_in_tree (tree_of_files c.args.files.now.entries) c.in-Some.path.now tree there))))

pub returns : goal.returns
returns c =
    let before = c.loop-path.invariant in
    let all = listed c.args.files.now before.0 c.loop-path.path-iterator c.into_iter-path-iterator.result before.1 c.in-None.ensures.steps.0 (c.into_iter-path-iterator.ensures.into_iter_gives ∙ c.keys-path-items.ensures.rest) c.keys-path-items.ensures.ordered in
    (λ so. tree_from_all (tree_of_files c.args.files.now.entries) (subst (All (Stands (tree_of_files c.args.files.now.entries))) all before.2), λ tree. refl)
