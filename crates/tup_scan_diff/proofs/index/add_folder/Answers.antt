use Rattle.std.proofs.Common.{◌≡◌, refl, sym, subst, ◌∙◌}
use Rattle.tup_path.specs.Name.{Names}
use Rattle.tup_path.specs.Order.{by_names}
use Rattle.tup_path.proofs.Same.{by_names-decides}
use Rattle.tup_closure.specs.Grows.{Grows}
use Rattle.tup_closure.proofs.Members.{inserted}
use Rattle.tup_scan_diff.specs.Sets.{Has}
use Rattle.tup_scan_diff.proofs.Indexed.{above_more, all_there}
use Rattle.tup_scan_diff.proofs.index.add_folder.Goals as goal

pub returns-then-contains-clause-added : goal.returns-then-contains-clause-added
returns-then-contains-clause-added c = λ path name is. all_there c.args.folders.now path c.args.dir.now name is c.requires (sym c.contains.ensures ∙ c.if-contains.true)

pub returns-clause-added : goal.returns-clause-added
returns-clause-added c = λ path name is.
    let mid = c.add_above.new.folders in
    let new = c.insert.new.self in
    above_more path c.args.dir.now name is c.in_ok-add_above.ensures.added
    (subst (λ (dir : Names). Grows (λ folder. folder ≡ dir) (Has by_names mid) (Has by_names new)) c.in_ok-clone.ensures.cases (inserted by_names by_names-decides mid new c.in_ok-clone.field-0 c.in_ok-insert.ensures.updates))

pub returns-then-contains-clause-there : goal.returns-then-contains-clause-there
returns-then-contains-clause-there c = sym c.contains.ensures ∙ c.if-contains.true

pub returns-clause-there : goal.returns-clause-there
returns-clause-there c =
    (subst (λ (dir : Names). Grows (λ folder. folder ≡ dir) (Has by_names c.add_above.new.folders) (Has by_names c.insert.new.self)) c.in_ok-clone.ensures.cases
    (inserted by_names by_names-decides c.add_above.new.folders c.insert.new.self c.in_ok-clone.field-0 c.in_ok-insert.ensures.updates)).all c.args.dir.now refl
