use Rattle.std.proofs.Common.{rules, ◌≢◌, IsTrue, Result, Ok, Err, inr, sym, subst, ◌∙◌}
use Rattle.std.specs.Result.{IfOk}
use Rattle.tup_site.specs.Crash.{GoesOn}
use Rattle.tup_table.specs.Table.{entries_in}
use Rattle.tup_graph.specs.Opening.{IsGraphOf}
use Rattle.tup_graph.specs.declared.fault.GraphFault.{GraphFault}
use Rattle.tup_graph.specs.declared.fault.GraphFault.TheVariants.{NotThere}
use Rattle.tup_stored_graph.specs.Held.{Held, is_fresh, StandsFor}
use Rattle.tup_stored_graph.specs.Opening.{OpensAs, opened_in}
use Rattle.tup_ledger.specs.Begin.{Begins, BeginStep}
use Rattle.tup_ledger.specs.declared.beginning.Begun.{Begun}
use Rattle.tup_ledger.specs.declared.beginning.Begun.TheVariants.{WasThere}
use Rattle.tup_ledger.proofs.Guarding.{stored}
use Rattle.tup_ledger.proofs.Opening.{KeepsBegun, opened_store, begins_not, begins_made, keeps_begun, opened_on, made_on}
use Rattle.tup_ledger.proofs.beginning.begin.Goals as goal
use Rattle.tup_ledger.proofs.beginning.begin.Goals.{in-Ok, in-Err-NotThere, in-Err}

pub returns-clause-begins : goal.returns-clause-begins
returns-clause-begins g c = λ tells.
    let site_laws = g.met.S.Site in
    let world = g.S.Site.world in
    let v = world c.args.site.now in
    let mid = c.open.new.site in
    elim c.match-open.branch [
      | in-Ok w ↦
          let graph = w.in-Ok.field-0 in
          let opens = subst (λ (r : Result Held GraphFault). OpensAs v.store (world mid).store r) w.in-Ok.is (c.open.ensures.opens tells) in
          let is = subst (λ (r : Result Held GraphFault). IfOk r (λ h. IsTrue (is_fresh h) × IsGraphOf (entries_in h.table) h.nodes)) w.in-Ok.is c.open.ensures.graph in
          let stands = subst (λ (r : Result Held GraphFault). IfOk r (λ h. StandsFor world g.S.Site.moment g.S.Site.left_since h mid)) w.in-Ok.is (c.open.ensures.stands tells) in
          let after = stored world g.S.Site.moment g.S.Site.left_since graph.table graph.nodes mid stands is.1 (world mid) (site_laws.present mid tells) in
          let begins : Begins v (world mid) (Ok WasThere) = (graph.nodes, opened_store v.store (world mid).store graph opens is.1, after, (opened_in graph, opens.0, opens.1)) in
          subst (λ (s : g.row.S.Denot). Begins v (world s) c.match-open.result) (sym w.site-is) (subst (λ (r : Result Begun GraphFault). Begins v (world mid) r) (sym w.result-is) begins)
      | in-Err-NotThere w ↦
          let told = subst (λ (r : Result Held GraphFault). OpensAs v.store (world mid).store r) w.in-Err-NotThere.is (c.open.ensures.opens tells) in
          let empty = subst (λ (f : GraphFault). OpensAs v.store (world mid).store (Err f)) w.in-Err-NotThere.field-0-is told in
          let end = w.make.new.site in
          let begins = begins_made v (world end) empty.0 w.make.result w.make.ensures.made (w.make.ensures.store tells) w.make.ensures.outside in
          subst (λ (s : g.row.S.Denot). Begins v (world s) c.match-open.result) (sym w.site-is) (subst (λ (r : Result Begun GraphFault). Begins v (world end) r) (sym w.result-is) begins)
      | in-Err w ↦
          let opens = subst (λ (r : Result Held GraphFault). OpensAs v.store (world mid).store r) w.in-Err.is (c.open.ensures.opens tells) in
          let other : w.in-Err.fault ≢ NotThere = search rules in
          let begins = begins_not v (world mid) w.in-Err.fault other opens in
          subst (λ (s : g.row.S.Denot). Begins v (world s) c.match-open.result) (sym w.site-is) (subst (λ (r : Result Begun GraphFault). Begins v (world mid) r) (sym w.result-is) begins)
    ]

pub returns-clause-crash : goal.returns-clause-crash
returns-clause-crash g c = λ tells.
    let site_laws = g.met.S.Site in
    let first = g.S.Site.world c.args.site.now in
    let mid = c.open.new.site in
    let opened = opened_on g.S.Site.moment g.S.Site.left_since first c.args.site.now mid (c.open.ensures.crash tells) in
    elim c.match-open.branch [
      | in-Ok w ↦ subst (λ (s : g.row.S.Denot). GoesOn g.S.Site.moment g.S.Site.left_since c.args.site.now s (BeginStep first)) (sym w.site-is) opened
      | in-Err-NotThere w ↦
          let told = subst (λ (r : Result Held GraphFault). OpensAs first.store (g.S.Site.world mid).store r) w.in-Err-NotThere.is (c.open.ensures.opens tells) in
          let empty = subst (λ (f : GraphFault). OpensAs first.store (g.S.Site.world mid).store (Err f)) w.in-Err-NotThere.field-0-is told in
          subst (λ (s : g.row.S.Denot). GoesOn g.S.Site.moment g.S.Site.left_since c.args.site.now s (BeginStep first)) (sym w.site-is)
          (made_on g.S.Site.moment g.S.Site.left_since first c.args.site.now mid w.make.new.site (λ t u w le left. site_laws.earlier mid t u w tells le left) empty.0 (c.open.ensures.crash tells) (w.make.ensures.crash tells))
      | in-Err w ↦ subst (λ (s : g.row.S.Denot). GoesOn g.S.Site.moment g.S.Site.left_since c.args.site.now s (BeginStep first)) (sym w.site-is) opened
    ]

pub returns-clause-keeps : goal.returns-clause-keeps
returns-clause-keeps g c = λ tells.
    let v = g.S.Site.world c.args.site.now in
    let mid = c.open.new.site in
    let opened = keeps_begun v (g.S.Site.world mid) (c.open.ensures.keeps tells) in
    elim c.match-open.branch [
      | in-Ok w ↦ subst (λ (s : g.row.S.Denot). KeepsBegun v (g.S.Site.world s)) (sym w.site-is) opened
      | in-Err-NotThere w ↦
          let told = subst (λ (r : Result Held GraphFault). OpensAs v.store (g.S.Site.world mid).store r) w.in-Err-NotThere.is (c.open.ensures.opens tells) in
          let empty = subst (λ (f : GraphFault). OpensAs v.store (g.S.Site.world mid).store (Err f)) w.in-Err-NotThere.field-0-is told in
          subst (λ (s : g.row.S.Denot). KeepsBegun v (g.S.Site.world s)) (sym w.site-is)
          (inr (inr (empty.0, w.make.ensures.tree tells ∙ c.open.ensures.tree tells)))
      | in-Err w ↦ subst (λ (s : g.row.S.Denot). KeepsBegun v (g.S.Site.world s)) (sym w.site-is) opened
    ]
