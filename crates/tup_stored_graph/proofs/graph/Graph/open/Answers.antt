use Rattle.std.proofs.Common.{◌≡◌, Result, Err, sym, subst, arith}
use Rattle.tup_graph.specs.Fault.{fault_of}
use Rattle.tup_graph.specs.declared.fault.GraphFault.{GraphFault}
use Rattle.tup_stored_graph.specs.Held.{Held}
use Rattle.tup_stored_graph.specs.Opening.{OpensAs}
use Rattle.tup_stored_graph.proofs.Opened.{open_failed, open_refused}
use Rattle.tup_stored_graph.proofs.graph.Graph.open.Goals as goal

pub returns-in_err-nodes-clause-opens : goal.returns-in_err-nodes-clause-opens
returns-in_err-nodes-clause-opens g c = λ tells.
    let bytes = (g.S.Site.world c.args.site.now).store in
    let left = (g.S.Site.world c.open.new.site).store in
    let is : c.from_residual-in_err-nodes.result ≡ Err c.in_err-nodes.field-0.0 = grind arith in
    subst (λ (r : Result Held GraphFault). OpensAs bytes left r) (sym is)
    (open_refused bytes left c.in_ok-table.table c.entries.result.now c.in_err-nodes.field-0.0
    (c.in_ok-table.ensures.opens tells) (c.in_ok-table.ensures.store tells) c.entries.ensures c.in_err-nodes.ensures.nodes)

pub returns-in_err-table-clause-opens : goal.returns-in_err-table-clause-opens
returns-in_err-table-clause-opens g c = λ tells.
    let v = g.S.Site.world c.args.site.now in
    let w = g.S.Site.world c.open.new.site in
    let fault = c.in_err-table.field-0.0 in
    let is : c.from_residual.result ≡ Err (fault_of fault) = grind arith in
    subst (λ (r : Result Held GraphFault). OpensAs v.store w.store r) (sym is)
    (open_failed v w fault (c.in_err-table.ensures.opens tells) (c.in_err-table.ensures.refused tells))
