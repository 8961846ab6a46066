use Rattle.std.proofs.Common.{◌≡◌, ◌++◌, ◌∷◌, [], Option, List, ℕ, refl, sym, subst}
use Rattle.std.specs.Prelude.{if◌then◌else◌, IfSome, OnOk}
use Rattle.std.proofs.lemmas.Result.{on_ok_weaker}
use Rattle.tup_path.specs.Name.{Names}
use Rattle.tup_path.specs.Order.{same_path}
use Rattle.tup_closure.specs.Lists.{list_of}
use Rattle.tup_closure.proofs.Growing.{grows_nothing}
use Rattle.tup_closure.proofs.Listed.{one_listed}
use Rattle.tup_scan_diff.specs.Index.{HasBelow}
use Rattle.tup_scan_diff.specs.declared.index.Index.{Index}
use Rattle.tup_scan_diff.proofs.Indexed.{adds_file, all_there}
use Rattle.tup_scan_diff.proofs.index.Index.add.Goals as goal

pub returns-in_ok-clone-in-Some-clause-added : goal.returns-in_ok-clone-in-Some-clause-added
returns-in_ok-clone-in-Some-clause-added c =
    let old = c.args.self.now in
    let path = c.args.path.now in
    let name = c.in-Some.name.now in
    let is = c.in-Some.ensures in
    let new : Index = record old { names = c.add_to_last.new.self } in
    let there = subst (λ (last : Option Names). IfSome last (HasBelow old)) is.last c.requires.known in
    on_ok_weaker c.add_to_last.result
    (λ pushed. adds_file path old old new refl refl (all_there old.folders path is.dir name is.parts c.requires.closed there) is.dir name is.parts refl
    (one_listed old.names new.names is.dir name pushed) (grows_nothing (λ folder h. is.other h.1)))
    (subst (λ (last : List ℕ). OnOk c.add_to_last.result ((q : Names) → list_of new.names q ≡ (if same_path q is.dir then list_of old.names q ++ last ∷ [] else list_of old.names q)))
    c.in_ok-clone-in-Some.ensures.cases (c.add_to_last.ensures.ok is.dir is.last))

pub returns-in_ok-clone-in-Some-clause-known : goal.returns-in_ok-clone-in-Some-clause-known
returns-in_ok-clone-in-Some-clause-known c =
    on_ok_weaker c.add_to_last.result (λ same. subst (λ (last : Option Names). IfSome last (HasBelow c.args.self.now)) (sym same) c.requires.known) c.add_to_last.ensures.last

pub returns-in-None-clause-known : goal.returns-in-None-clause-known
returns-in-None-clause-known c = c.add_anew.ensures.known c.requires.known
