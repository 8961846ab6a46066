use Rattle.std.proofs.Common.{◌≡◌, ◌∙◌, sym}
use Rattle.std.specs.Prelude.{codes}
use Rattle.tup_path.specs.Order.{by_names}
use Rattle.tup_path.proofs.Same.{by_names-decides, same_bytes-decides}
use Rattle.tup_closure.proofs.Growing.{grows_as}
use Rattle.tup_closure.proofs.Listed.{one_listed}
use Rattle.tup_closure.proofs.Members.{inserted}
use Rattle.tup_scan_diff.proofs.index.Index.add_name.Goals as goal

pub returns-in_ok-insert-clause-names : goal.returns-in_ok-insert-clause-names
returns-in_ok-insert-clause-names c = one_listed c.args.self.now.names c.add.new.self c.args.dir c.args.name c.in_ok-add.ensures.ok

pub returns-in_ok-insert-clause-tupfiles : goal.returns-in_ok-insert-clause-tupfiles
returns-in_ok-insert-clause-tupfiles c =
    let named : c.args.name ≡ codes "Tupfile" = sym c.as_str.ensures.bytes ∙ (same_bytes-decides c.as_str.result.now (codes "Tupfile")).0 (sym c.eq-is_tupfile.ensures ∙ c.if-is_tupfile.true) in
    grows_as (λ folder e. (e, named)) (λ folder h. h.0) (inserted by_names by_names-decides c.args.self.now.tupfiles c.insert.new.self c.args.dir c.in_ok-insert.ensures.updates)

pub returns-else-is_tupfile-clause-names : goal.returns-else-is_tupfile-clause-names
returns-else-is_tupfile-clause-names c = one_listed c.args.self.now.names c.add.new.self c.args.dir c.args.name c.in_ok-add.ensures.ok
