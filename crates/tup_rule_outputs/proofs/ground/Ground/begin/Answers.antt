use Rattle.std.proofs.Common.{Result, None, sym, ap, subst, ◌∙◌}
use Rattle.std.specs.Prelude.{is_none}
use Rattle.tup_rule_outputs.specs.Fault.{CountsFaults, told}
use Rattle.tup_rule_outputs.specs.Ground.{Commits}
use Rattle.tup_rule_outputs.specs.declared.fault.BoardFault.{BoardFault}
use Rattle.tup_graph.specs.Transactions.{begin_edits, begun}
use Rattle.tup_rule_outputs.proofs.Committed.{committed}
use Rattle.tup_rule_outputs.proofs.Faults.{counts_told}
use Rattle.tup_rule_outputs.proofs.ground.Ground.begin.Goals as goal

pub begin-answer-requires-clause-fresh : goal.begin-answer-requires-clause-fresh
begin-answer-requires-clause-fresh g c = c.requires.ground.fresh ∙ ap is_none c.requires.none_lost

pub begin-answer-requires-clause-stands : goal.begin-answer-requires-clause-stands
begin-answer-requires-clause-stands g c = λ tells. c.requires.ground.stands tells c.requires.none_lost

pub returns-clause-commits : goal.returns-clause-commits
returns-clause-commits g c =
    let old = c.args.self.now in
    let edits = begin_edits old.graph.nodes c.args.rule in
    let nodes = begun old.graph.nodes c.args.rule in
    let done = committed g.S.Site c.args.rule None edits nodes old c.begin-answer.new.self c.begin-answer.new.site c.requires.none_lost (c.requires.ground.fresh ∙ ap is_none c.requires.none_lost)
    c.begin-answer.ensures.stands c.begin-answer.ensures.tree c.begin-answer.ensures.crash c.begin-answer.ensures.known c.begin-answer.result c.begin-answer.ensures.leaves c.begin-answer.ensures.full in
    subst (λ (r : Result (Unit {0}) BoardFault). Commits g.S.Site c.args.rule None edits nodes old r c.answered.new.self) (sym c.answered.ensures.told)
    (subst (λ now. Commits g.S.Site c.args.rule None edits nodes old (told c.begin-answer.result) now) (sym c.answered.ensures.lost) done)

pub returns-clause-cause : goal.returns-clause-cause
returns-clause-cause g c =
    let before = g.S.Site.faults c.args.self.now.site in
    subst (λ (r : Result (Unit {0}) BoardFault). CountsFaults before (g.S.Site.faults c.answered.new.self.site) None r) (sym c.answered.ensures.told)
    (subst (λ now. CountsFaults before (g.S.Site.faults now.site) None (told c.begin-answer.result)) (sym c.answered.ensures.lost) (counts_told before (g.S.Site.faults c.begin-answer.new.site) c.begin-answer.result c.begin-answer.ensures.cause))
