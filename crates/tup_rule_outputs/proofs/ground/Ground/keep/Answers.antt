use Rattle.std.proofs.Common.{Result, None, Some, sym, ap, subst, ◌∙◌}
use Rattle.std.specs.Prelude.{is_none}
use Rattle.tup_record.specs.declared.run.RunRecord.{RunRecord}
use Rattle.tup_rule_outputs.specs.Fault.{CountsFaults, told}
use Rattle.tup_rule_outputs.specs.Ground.{Commits}
use Rattle.tup_rule_outputs.specs.declared.fault.BoardFault.{BoardFault}
use Rattle.tup_graph.specs.Transactions.{finish_edits, finished}
use Rattle.tup_rule_outputs.proofs.Committed.{committed}
use Rattle.tup_rule_outputs.proofs.Faults.{counts_told}
use Rattle.tup_rule_outputs.proofs.ground.Ground.keep.Goals as goal

pub finish-answer-requires-clause-fresh : goal.finish-answer-requires-clause-fresh
finish-answer-requires-clause-fresh g c = c.requires.ground.fresh ∙ ap is_none c.requires.none_lost

pub finish-answer-requires-clause-stands : goal.finish-answer-requires-clause-stands
finish-answer-requires-clause-stands g c = λ tells. c.requires.ground.stands tells c.requires.none_lost

pub returns-clause-commits : goal.returns-clause-commits
returns-clause-commits g c =
    let old = c.args.self.now in
    let edits = finish_edits old.graph.nodes c.args.end.rule c.args.end.run in
    let nodes = finished old.graph.nodes c.args.end.rule c.args.end.run in
    let kept = c.of-run.result.value in
    let done = committed g.S.Site c.args.end.rule (Some kept) edits nodes old c.finish-answer.new.self c.finish-answer.new.site c.requires.none_lost (c.requires.ground.fresh ∙ ap is_none c.requires.none_lost)
    c.finish-answer.ensures.stands c.finish-answer.ensures.tree c.finish-answer.ensures.crash c.finish-answer.ensures.known c.finish-answer.result c.finish-answer.ensures.leaves c.finish-answer.ensures.full in
    subst (λ (run : RunRecord). Commits g.S.Site c.args.end.rule (Some run) edits nodes old c.answered.result c.answered.new.self) c.of-run.ensures
    (subst (λ (r : Result (Unit {0}) BoardFault). Commits g.S.Site c.args.end.rule (Some kept) edits nodes old r c.answered.new.self) (sym c.answered.ensures.told)
    (subst (λ now. Commits g.S.Site c.args.end.rule (Some kept) edits nodes old (told c.finish-answer.result) now) (sym c.answered.ensures.lost) done))

pub returns-clause-cause : goal.returns-clause-cause
returns-clause-cause g c =
    let before = g.S.Site.faults c.args.self.now.site in
    subst (λ (r : Result (Unit {0}) BoardFault). CountsFaults before (g.S.Site.faults c.answered.new.self.site) None r) (sym c.answered.ensures.told)
    (subst (λ now. CountsFaults before (g.S.Site.faults now.site) None (told c.finish-answer.result)) (sym c.answered.ensures.lost) (counts_told before (g.S.Site.faults c.finish-answer.new.site) c.finish-answer.result c.finish-answer.ensures.cause))
