use Rattle.std.proofs.Common.{◌≡◌, [], List, Some, Option, sym, subst}
use Rattle.std.specs.FinMap as finite
use Rattle.std.specs.Prelude.{IfSome}
use Rattle.std.specs.Map.Iter.{deref_pair}
use Rattle.std.specs.Option.{option_map}
use Rattle.std.proofs.lemmas.List.{take_all}
use Rattle.tup_path.specs.Name.{Names}
use Rattle.tup_path.specs.Order.{by_names}
use Rattle.tup_stamp.specs.declared.Stamp.{Stamp}
use Rattle.tup_scan_diff.proofs.Overlaid.{IsEdited, all_edited, all_there, none_edited_yet, one_more}
use Rattle.tup_scan_diff.proofs.stamps.edited.Goals as goal

pub loop-path-preserved : goal.loop-path-preserved
loop-path-preserved c =
    let file = c.loop-path-item.result in
    one_more deref_pair c.next.result c.args.nodes.now.seen c.loop-path.stamps c.add_if_other.new.stamps c.args.files.now c.loop-path.left c.next.new.self c.loop-path.path-index file file c.in-Some.before
    c.loop-path-test.true c.loop-path-item.is c.loop-path.invariant (subst (λ (o : Option _). IfSome o (λ s. option_map deref_pair c.next.result ≡ Some (file.0, s))) c.in-Some.is c.seen_there.ensures) c.next.ensures.steps c.in_ok-add_if_other.ensures.stamps

pub loop-path-init : goal.loop-path-init
loop-path-init c =
    let seen = c.args.nodes.now.seen in
    subst (λ (m : finite.FinMap by_names Stamp). IsEdited seen m [] c.files-left.result) (sym c.new-stamps.ensures)
    (subst (IsEdited seen finite.empty []) (sym c.files-left.ensures) (none_edited_yet seen))

pub returns-in-None-clause-edited : goal.returns-in-None-clause-edited
returns-in-None-clause-edited c =
    let seen = c.args.nodes.now.seen in
    all_edited seen c.loop-path.stamps c.args.files.now c.loop-path.left
    (subst (λ (l : List (Names × Stamp)). IsEdited seen c.loop-path.stamps l c.loop-path.left) (take_all c.loop-path.path-index c.args.files.now c.loop-path-test.false) c.loop-path.invariant)
    c.in-None.ensures.steps.0

pub returns-in-None-clause-paths : goal.returns-in-None-clause-paths
returns-in-None-clause-paths c =
    let seen = c.args.nodes.now.seen in
    all_there seen c.loop-path.stamps c.args.files.now c.loop-path.left
    (subst (λ (l : List (Names × Stamp)). IsEdited seen c.loop-path.stamps l c.loop-path.left) (take_all c.loop-path.path-index c.args.files.now c.loop-path-test.false) c.loop-path.invariant)
    c.in-None.ensures.steps.0
