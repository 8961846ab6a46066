use Rattle.tup_site.proofs.Changes.{found_in_tree}
use Rattle.tup_site.proofs.Crashing.{same_found, none_found, left_found, right_found}
use Rattle.tup_site.proofs.crash.have_same.Goals as goal

pub returns-in-Some-Some : goal.returns-in-Some-Some
returns-in-Some-Some c =
    let mine = found_in_tree c.args.files.now c.args.path.now _ c.in-Some-Some.ensures.value in
    let theirs = found_in_tree c.args.others.now c.args.path.now _ c.in-Some-Some.ensures'.value in
    same_found _ _ c.in-Some-Some.content.now c.in-Some-Some.other.now c.eq.result mine theirs c.eq.ensures

pub returns-in-None-None : goal.returns-in-None-None
returns-in-None-None c =
    let mine = found_in_tree c.args.files.now c.args.path.now _ c.in-None-None.ensures.value in
    let theirs = found_in_tree c.args.others.now c.args.path.now _ c.in-None-None.ensures'.value in
    none_found _ _ mine theirs

pub returns-in_default : goal.returns-in_default
returns-in_default c =
    let mine = found_in_tree c.args.files.now c.args.path.now _ c.in_default.ensures.value in
    let theirs = found_in_tree c.args.others.now c.args.path.now _ c.in_default.ensures'.value in
    left_found _ _ c.in_default.field-0-0.now mine theirs

pub returns-in_default-2 : goal.returns-in_default-2
returns-in_default-2 c =
    let mine = found_in_tree c.args.files.now c.args.path.now _ c.in_default.ensures.value in
    let theirs = found_in_tree c.args.others.now c.args.path.now _ c.in_default.ensures'.value in
    right_found _ _ c.in_default.field-0-1.now mine theirs
