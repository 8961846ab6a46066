use Rattle.std.proofs.Common.{◌≡◌, ◌∙◌, List, ℕ, false, sym, subst}
use Rattle.tup_path.specs.Name.{Names}
use Rattle.tup_path.specs.Order.{by_bytes, same_path}
use Rattle.tup_path.proofs.Same.{same_path-decides}
use Rattle.tup_scan_diff.specs.Sets.{GrowsBy}
use Rattle.tup_scan_diff.proofs.Named.{name-decides, other_folder, in_folder, not_false, not_true}
use Rattle.tup_scan_diff.proofs.Sets.{one_key, set_stays}
use Rattle.tup_scan_diff.proofs.names.add_path.Goals as goal

pub returns-then-ne-clause-names : goal.returns-then-ne-clause-names
returns-then-ne-clause-names c =
    let apart : same_path c.in-Some.folder.now c.names-2.result.now ≡ false = not_false _ (sym c.ne.ensures ∙ c.if-ne.true) in
    set_stays c.args.names.now (other_folder c.args.path.now c.in-Some.folder.now c.args.dir.now c.in-Some.name.now (sym c.names.ensures.names ∙ c.in-Some.ensures.cases.0)
    (subst (λ (d : Names). same_path c.in-Some.folder.now d ≡ false) c.names-2.ensures.names apart))

pub returns-clause-names : goal.returns-clause-names
returns-clause-names c =
    let same : c.in-Some.folder.now ≡ c.args.dir.now = (same_path-decides c.in-Some.folder.now c.names-2.result.now).0 (not_true _ (sym c.ne.ensures ∙ c.if-ne.false)) ∙ c.names-2.ensures.names in
    in_folder c.args.path.now c.in-Some.folder.now c.args.dir.now c.in-Some.name.now c.args.names.now c.insert.new.self (sym c.names.ensures.names ∙ c.in-Some.ensures.cases.0) same
    (subst (λ (n : List ℕ). GrowsBy by_bytes (λ k. k ≡ n) c.args.names.now c.insert.new.self) c.in_ok-clone.ensures.cases
    (one_key by_bytes name-decides c.args.names.now c.insert.new.self c.in_ok-clone.field-0 c.in_ok-insert.ensures.updates c.in_ok-insert.ensures.ordered))
