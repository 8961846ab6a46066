use Rattle.std.proofs.Common.{◌≡◌, true, List, None, Result, Err, refl, sym, ap, subst, ◌∙◌, arith}
use Rattle.tup_path.specs.Name.{Names, Content}
use Rattle.tup_table.specs.Table.{entries_in}
use Rattle.tup_graph.specs.Graph.{is_rule}
use Rattle.tup_graph.specs.Opening.{IsGraphOf}
use Rattle.tup_stored_graph.specs.Held.{Held}
use Rattle.tup_rule_outputs.specs.Fault.{CountsFaults, of_site}
use Rattle.tup_rule_outputs.specs.Ground.{MakesFiles, AreAtOnce, HavePlaces, paths_of}
use Rattle.tup_rule_outputs.specs.declared.fault.BoardFault.{BoardFault}
use Rattle.tup_rule_outputs.proofs.Faults.{steady_told, steady_site, counts_since, counts_failed}
use Rattle.tup_rule_outputs.proofs.Made.{fresh_mid, begin_refused, put_is_ground, put_refused, kept}
use Rattle.tup_rule_outputs.proofs.ground.Ground.make_files.Goals as goal

pub returns-in_err-begin-clause-makes : goal.returns-in_err-begin-clause-makes
returns-in_err-begin-clause-makes g c =
    let site_laws = g.met.S.Site in
    let fault = c.in_err-begin.field-0.0 in
    let is : c.from_residual.result ≡ Err fault = grind arith in
    subst (λ (r : Result (Unit {0}) BoardFault). MakesFiles g.S.Site c.args.end.rule c.args.end.run c.args.files.now c.args.self.now r c.begin.new.self) (sym is)
    (begin_refused g.S.Site c.args.end.rule c.args.end.run c.args.files.now c.args.self.now site_laws.present site_laws.earlier c.begin.new.self fault c.in_err-begin.ensures.commits)

pub put_files-requires-clause-places : goal.put_files-requires-clause-places
put_files-requires-clause-places g c = λ tells.
    subst (λ (fs : List (Names × Content)). HavePlaces (paths_of fs) (g.S.Site.world c.begin.new.self.site).tree) (sym c.as_slice.ensures)
    (subst (HavePlaces (paths_of c.args.files.now)) (sym (c.in_ok-begin.ensures.commits.tree tells)) (c.requires.can.places tells))

pub put_files-requires-clause-at_once : goal.put_files-requires-clause-at_once
put_files-requires-clause-at_once g c = subst AreAtOnce (sym c.as_slice.ensures) c.requires.can.at_once

pub returns-in_err-put_files-clause-makes : goal.returns-in_err-put_files-clause-makes
returns-in_err-put_files-clause-makes g c =
    let site_laws = g.met.S.Site in
    let own = g.S.Site in
    let old = c.args.self.now in
    let rule = c.args.end.rule in
    let run = c.args.end.run in
    let fs = c.as_slice.result.now in
    let mid = c.begin.new.self in
    let done = c.in_ok-begin.field-0 in
    let begin = c.in_ok-begin.ensures.commits in
    let failed = c.in_err-put_files.field-0.0 in
    let fresh = fresh_mid own rule run fs old site_laws.present site_laws.earlier mid done begin in
    let graph = subst (IsGraphOf (entries_in mid.graph.table)) c.nodes.ensures.value (c.nodes.ensures.graph fresh) in
    let end = c.put_files.new.site in
    let is : c.from_residual-in_err-put_files.result ≡ Err (of_site failed) = grind arith in
    subst (λ (r : Result (Unit {0}) BoardFault). MakesFiles own rule run c.args.files.now old r (record { site = end; graph = mid.graph; lost = mid.lost })) (sym is)
    (subst (λ (fs : List (Names × Content)). MakesFiles own rule run fs old (Err (of_site failed)) (record { site = end; graph = mid.graph; lost = mid.lost })) c.as_slice.ensures
    (put_refused own rule run fs old site_laws.present site_laws.earlier mid done begin graph (ap paths_of c.as_slice.ensures ∙ c.requires.can.outputs) end
    c.put_files.ensures.beside c.put_files.ensures.store c.put_files.ensures.crash c.put_files.ensures.known failed (λ bytes e. c.in_err-put_files.ensures.never_too_large bytes (ap Err e))))

pub keep-requires-clause-ground : goal.keep-requires-clause-ground
keep-requires-clause-ground g c =
    let site_laws = g.met.S.Site in
    let own = g.S.Site in
    let fs = c.as_slice.result.now in
    let mid = c.begin.new.self in
    let done = c.in_ok-begin.field-0 in
    let begin = c.in_ok-begin.ensures.commits in
    let fresh = fresh_mid own c.args.end.rule c.args.end.run fs c.args.self.now site_laws.present site_laws.earlier mid done begin in
    let graph = subst (IsGraphOf (entries_in mid.graph.table)) c.nodes.ensures.value (c.nodes.ensures.graph fresh) in
    put_is_ground own c.args.end.rule c.args.end.run fs c.args.self.now site_laws.present site_laws.earlier mid done begin graph (ap paths_of c.as_slice.ensures ∙ c.requires.can.outputs) c.put_files.new.site
    c.put_files.ensures.beside c.put_files.ensures.store c.put_files.ensures.crash c.put_files.ensures.known

pub keep-requires-clause-none_lost : goal.keep-requires-clause-none_lost
keep-requires-clause-none_lost g c = (c.in_ok-begin.ensures.commits.ok _ refl).0

pub keep-requires-clause-rule : goal.keep-requires-clause-rule
keep-requires-clause-rule g c = subst (λ (h : Held). is_rule h.nodes c.args.end.rule ≡ true) (sym (c.in_ok-begin.ensures.commits.ok _ refl).1) c.requires.can.rule

pub returns-clause-makes : goal.returns-clause-makes
returns-clause-makes g c =
    let site_laws = g.met.S.Site in
    let own = g.S.Site in
    let old = c.args.self.now in
    let rule = c.args.end.rule in
    let run = c.args.end.run in
    let fs = c.as_slice.result.now in
    let mid = c.begin.new.self in
    let done = c.in_ok-begin.field-0 in
    let begin = c.in_ok-begin.ensures.commits in
    let fresh = fresh_mid own rule run fs old site_laws.present site_laws.earlier mid done begin in
    let graph = subst (IsGraphOf (entries_in mid.graph.table)) c.nodes.ensures.value (c.nodes.ensures.graph fresh) in
    subst (λ (fs : List (Names × Content)). MakesFiles own rule run fs old c.keep.result c.keep.new.self) c.as_slice.ensures
    (kept own rule run fs old site_laws.present site_laws.earlier mid done begin graph (ap paths_of c.as_slice.ensures ∙ c.requires.can.outputs) c.put_files.new.site
    c.put_files.ensures.beside c.put_files.ensures.store c.put_files.ensures.crash c.put_files.ensures.known c.in_ok-put_files.ensures.put c.in_ok-put_files.ensures.durable c.keep.new.self c.keep.result c.keep.ensures.commits)

pub returns-in_err-put_files-clause-cause : goal.returns-in_err-put_files-clause-cause
returns-in_err-put_files-clause-cause g c =
    let failed = c.in_err-put_files.field-0.0 in
    let is : c.from_residual-in_err-put_files.result ≡ Err (of_site failed) = grind arith in
    subst (λ (r : Result (Unit {0}) BoardFault). CountsFaults (g.S.Site.faults c.args.self.now.site) (g.S.Site.faults c.put_files.new.site) None r) (sym is)
    (counts_since _ _ _ _ (steady_told _ _ c.in_ok-begin.field-0 c.in_ok-begin.ensures.cause) (counts_failed _ _ failed c.in_err-put_files.ensures.cause))

pub returns-clause-cause : goal.returns-clause-cause
returns-clause-cause g c =
    counts_since _ _ _ _ (steady_site _ _ c.in_ok-put_files.field-0 c.in_ok-put_files.ensures.cause ∙ steady_told _ _ c.in_ok-begin.field-0 c.in_ok-begin.ensures.cause) c.keep.ensures.cause
