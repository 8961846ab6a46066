use Rattle.std.proofs.Common.{◌≡◌, ◌∙◌, sym, subst}
use Rattle.std.proofs.lemmas.Bool.{true≢false}
use Rattle.tup_path.specs.Name.{Names}
use Rattle.tup_path.specs.Order.{by_names}
use Rattle.tup_path.proofs.Same.{by_names-decides}
use Rattle.tup_scan_diff.specs.Sets.{GrowsBy}
use Rattle.tup_scan_diff.proofs.Sets.{added_if, one_key, set_stays}
use Rattle.tup_scan_diff.proofs.present.Present.add_if_outdated.Goals as goal

pub returns-in_ok-insert-clause-added : goal.returns-in_ok-insert-clause-added
returns-in_ok-insert-clause-added c = λ config is.
    added_if c.args.dir.now c.args.dirs.now c.insert.new.self ((c.in_ok-is_outdated.ensures.outdated config is).0 c.if-branch.true)
    (subst (λ (d : Names). GrowsBy by_names (λ k. k ≡ d) c.args.dirs.now c.insert.new.self) c.in_ok-clone.ensures.cases
    (one_key by_names by_names-decides c.args.dirs.now c.insert.new.self c.in_ok-clone.field-0 c.in_ok-insert.ensures.updates c.in_ok-insert.ensures.ordered))

pub returns-else-branch-clause-added : goal.returns-else-branch-clause-added
returns-else-branch-clause-added c = λ config is.
    set_stays c.args.dirs.now (λ k (e, old). true≢false (sym ((c.in_ok-is_outdated.ensures.outdated config is).1 old) ∙ c.if-branch.false))
