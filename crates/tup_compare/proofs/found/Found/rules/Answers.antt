use Rattle.std.proofs.Common.{Ok, sym, subst}
use Rattle.std.specs.FinMap as finite
use Rattle.tup_path.specs.Order.{by_names}
use Rattle.tup_path.specs.Tree.{Tree, IsTree}
use Rattle.tup_clean.specs.Buildable.{IsBuildable}
use Rattle.tup_project.specs.Project.{ComeTo}
use Rattle.tup_compare.specs.Stopped.{unread_of_project}
use Rattle.tup_promise.proofs.Handed.{err_if}
use Rattle.tup_compare.proofs.Limits.{of_rules}
use Rattle.tup_compare.proofs.Reading.{read_as, refused_as, sources_read, is_tree_of_sources}
use Rattle.tup_compare.proofs.found.Found.rules.Goals as goal

pub returns-in_err-read_all-clause-refused : goal.returns-in_err-read_all-clause-refused
returns-in_err-read_all-clause-refused c = λ w found.
    let fault = c.in_err-read_all.field-0.0 in
    err_if c.from_residual.result (unread_of_project fault) _ c.from_residual.ensures.1
    (refused_as w c.args.self.now fault found (subst (ComeTo (finite.from_sorted {R = by_names} c.args.self.now.sources)) c.in_err-read_all.was c.read_all.ensures.come_to))

pub returns-in_err-read_all-clause-fault : goal.returns-in_err-read_all-clause-fault
returns-in_err-read_all-clause-fault c =
    let fault = c.in_err-read_all.field-0.0 in
    let sources = finite.from_sorted {R = by_names} c.args.self.now.sources in
    err_if c.from_residual.result (unread_of_project fault) _ c.from_residual.ensures.1
    (of_rules sources fault (subst (ComeTo sources) c.in_err-read_all.was c.read_all.ensures.come_to))

pub returns-clause-asked : goal.returns-clause-asked
returns-clause-asked c = λ w found.
    read_as w c.args.self.now (Ok c.in_ok-read_all.field-0) found
    (subst (ComeTo (finite.from_sorted {R = by_names} c.args.self.now.sources)) c.in_ok-read_all.was c.read_all.ensures.come_to)

pub returns-clause-buildable : goal.returns-clause-buildable
returns-clause-buildable c = λ w tree found.
    let same = sources_read w c.args.self.now found in
    subst (λ (t : Tree). IsBuildable t c.in_ok-read_all.field-0) same
    (c.in_ok-read_all.ensures.buildable (subst IsTree (sym same) (is_tree_of_sources w c.args.self.now tree found)))
