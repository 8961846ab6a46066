use Rattle.std.proofs.Common.{◌≡◌, ◌∙◌, sym, subst}
use Rattle.std.proofs.lemmas.Bool.{true≢false}
use Rattle.tup_path.specs.Name.{Names}
use Rattle.tup_path.specs.Order.{by_names}
use Rattle.tup_path.proofs.Same.{by_names-decides}
use Rattle.tup_scan_diff.specs.Sets.{GrowsBy}
use Rattle.tup_scan_diff.proofs.Sets.{added_if, one_key, set_stays}
use Rattle.tup_scan_diff.proofs.turned.add_if_lacking.Goals as goal

pub returns-in_ok-insert-clause-added : goal.returns-in_ok-insert-clause-added
returns-in_ok-insert-clause-added c =
    added_if c.args.path.now c.args.paths.now c.insert.new.self (λ has. true≢false (sym has ∙ sym c.contains.ensures ∙ c.if-not-contains.true))
    (subst (λ (p : Names). GrowsBy by_names (λ k. k ≡ p) c.args.paths.now c.insert.new.self) c.in_ok-clone.ensures.cases
    (one_key by_names by_names-decides c.args.paths.now c.insert.new.self c.in_ok-clone.field-0 c.in_ok-insert.ensures.updates c.in_ok-insert.ensures.ordered))

pub returns-else-not-contains-clause-added : goal.returns-else-not-contains-clause-added
returns-else-not-contains-clause-added c = set_stays c.args.paths.now (λ k (e, lacks). lacks (sym c.contains.ensures ∙ c.if-not-contains.false))
