use Rattle.std.proofs.Common.{◌≡◌, Result, Err, arith, sym, ap, ◌∙◌, subst}
use Rattle.tup_access.specs.declared.verdict.Verdict.{Verdict}
use Rattle.tup_table.specs.Table.{entries_in}
use Rattle.tup_graph.specs.Opening.{IsGraphOf}
use Rattle.tup_rule_outputs.specs.declared.fault.BoardFault.{BoardFault}
use Rattle.tup_runner.specs.Report.{asks_of, ended_of}
use Rattle.tup_board.specs.Calls.{Ends}
use Rattle.tup_board.proofs.Answering.{seats_seen}
use Rattle.tup_board.proofs.Finished.{can_make_seen, early_seen, end_here, board_more, end_of_course, made_kept_here, made_seen, more_kept, refused_kept_here, refused_seen, refused_true_here}
use Rattle.tup_board.proofs.Judging.{outputs_at}
use Rattle.tup_board.proofs.Keeping.{kept_on, makes_known}
use Rattle.tup_board.proofs.Stamps.{has_made, has_refused}
use Rattle.tup_board.proofs.board.Board.finish_well.Goals as goal

pub good_end-requires-clause-runs : goal.good_end-requires-clause-runs
good_end-requires-clause-runs g c = c.requires.report.it

pub good_end-requires-clause-outputs : goal.good_end-requires-clause-outputs
good_end-requires-clause-outputs g c = outputs_at c.args.self.now c.args.seat (ended_of c.args.report.now) c.args.files.now c.requires.judged

pub returns-in_err-end : goal.returns-in_err-end
returns-in_err-end g c =
    let fault = c.in_err-end.field-0.0 in
    let is : c.from_residual.result ≡ Err fault = grind arith in
    let ends = subst (λ (r : Result Verdict BoardFault). Ends g.S.Site c.args.seat (ended_of c.args.report.now) c.args.self.now r c.args.self.now) (sym (is ∙ ap Err c.in_err-end.ensures.memory))
    (early_seen g.S.Site g.R.Runner _ c.args.self.now c.self.invariant.1 c.self.view_is c.args.seat c.args.report.now.dir c.args.report.now.text (asks_of c.args.report.now) (ended_of c.args.report.now) c.requires.report c.args.report.now.means) in
    record { ends = ends }

pub make-requires : goal.make-requires
make-requires g c =
    can_make_seen g.S.Site g.R.Runner _ c.args.self.now c.self.invariant.1 c.self.view_is c.args.seat c.args.report.now.dir c.args.report.now.text (asks_of c.args.report.now) (ended_of c.args.report.now) c.requires.report c.args.report.now.means
    c.args.files.now c.requires.judged c.in_ok-end.end.rule c.in_ok-end.end.run c.in_ok-end.event c.in_ok-end.ensures.end

pub finish_well-requires-clause-end : goal.finish_well-requires-clause-end
finish_well-requires-clause-end g c =
    let site_laws = g.met.S.Site in
    end_of_course c.self.inside.course c.self.inside.first_graph.value c.in_ok-end.end.rule c.in_ok-end.event c.self.invariant.0
    (end_here g.S.Site g.R.Runner _ c.args.self.now c.self.invariant.1 c.self.view_is c.args.seat c.args.report.now.dir c.args.report.now.text (asks_of c.args.report.now) (ended_of c.args.report.now) c.requires.report c.args.report.now.means
    c.args.files.now c.requires.judged c.in_ok-end.end.rule c.in_ok-end.end.run c.in_ok-end.event c.in_ok-end.ensures.end
    (λ fresh. subst (IsGraphOf (entries_in c.self.inside.ground.graph.table)) c.nodes.ensures.value (c.nodes.ensures.graph fresh)) site_laws.present site_laws.earlier site_laws.knows_tree
    c.make.result c.make.new.self c.make.ensures.makes c.make.ensures.cause _ c.in-Ok.is)

pub invariant_of-self : goal.invariant_of-self
invariant_of-self g c =
    let site_laws = g.met.S.Site in
    let kept = more_kept g.S.Site g.R.Runner _ _ _ _ _ c.self.inside.course _ c.in_ok-end.event c.finish_well.ensures c.self.invariant.0
    (made_kept_here g.S.Site g.R.Runner _ c.args.self.now c.self.invariant.1 c.self.view_is c.args.seat c.args.report.now.dir c.args.report.now.text (asks_of c.args.report.now) (ended_of c.args.report.now) c.requires.report c.args.report.now.means
    c.args.files.now c.requires.judged c.in_ok-end.end.rule c.in_ok-end.end.run c.in_ok-end.event c.in_ok-end.ensures.end
    (λ fresh. subst (IsGraphOf (entries_in c.self.inside.ground.graph.table)) c.nodes.ensures.value (c.nodes.ensures.graph fresh)) site_laws.present site_laws.earlier site_laws.knows_tree
    c.make.result c.make.new.self c.make.ensures.makes c.make.ensures.cause _ c.in-Ok.is) in
    let good = c.in_ok-end.ensures.end in
    let here = seats_seen g.S.Site g.R.Runner _ _ _ _ _ _ _ c.self.invariant.0 c.self.invariant.1 c.self.view_is c.args.seat ∙ good.kept.runs.here in (
      kept.0,
      kept.1,
      kept_on g.S.Site _ _ _ (makes_known g.S.Site _ _ _ _ _ _ c.make.ensures.makes) c.self.invariant.2,
      has_made g.S.Site c.in_ok-end.end.rule c.in_ok-end.end.run c.args.files.now c.self.inside.ground c.make.new.self c.make.result c.make.ensures.makes _ c.in-Ok.is c.self.inside.course c.finish_well.new.self c.args.seat good.kept.running here
          c.in_ok-end.event good.event_is c.finish_well.ensures c.self.invariant.3,
    )

pub returns-in-Ok : goal.returns-in-Ok
returns-in-Ok g c =
    let site_laws = g.met.S.Site in
    let ends = made_seen g.S.Site g.R.Runner _ c.args.self.now c.self.invariant.1 c.self.view_is c.args.seat c.args.report.now.dir c.args.report.now.text (asks_of c.args.report.now) (ended_of c.args.report.now) c.requires.report c.args.report.now.means
    c.args.files.now c.requires.judged c.in_ok-end.end.rule c.in_ok-end.end.run c.in_ok-end.event c.in_ok-end.ensures.end
    (λ fresh. subst (IsGraphOf (entries_in c.self.inside.ground.graph.table)) c.nodes.ensures.value (c.nodes.ensures.graph fresh)) site_laws.present site_laws.earlier site_laws.knows_tree
    c.make.result c.make.new.self c.make.ensures.makes c.make.ensures.cause _ c.in-Ok.is _
    (board_more g.S.Site g.R.Runner _ _ _ _ _ c.self.inside.course _ c.in_ok-end.event c.finish_well.ensures) in
    record { ends = ends }

pub invariant_of-self-in-Err : goal.invariant_of-self-in-Err
invariant_of-self-in-Err g c =
    let site_laws = g.met.S.Site in (
      c.self.invariant.0,
      refused_kept_here g.S.Site g.R.Runner _ c.args.self.now c.self.invariant.1 c.self.view_is c.args.seat c.args.report.now.dir c.args.report.now.text (asks_of c.args.report.now) (ended_of c.args.report.now) c.requires.report c.args.report.now.means
          c.args.files.now c.requires.judged c.in_ok-end.end.rule c.in_ok-end.end.run c.in_ok-end.event c.in_ok-end.ensures.end
          (λ fresh. subst (IsGraphOf (entries_in c.self.inside.ground.graph.table)) c.nodes.ensures.value (c.nodes.ensures.graph fresh)) site_laws.present site_laws.earlier site_laws.knows_tree
          c.make.result c.make.new.self c.make.ensures.makes c.make.ensures.cause c.in-Err.fault c.in-Err.is,
      kept_on g.S.Site _ _ _ (makes_known g.S.Site _ _ _ _ _ _ c.make.ensures.makes) c.self.invariant.2,
      has_refused g.S.Site c.in_ok-end.end.rule c.in_ok-end.end.run c.args.files.now c.self.inside.ground c.make.new.self c.make.result c.make.ensures.makes c.in-Err.fault c.in-Err.is c.self.inside.course c.self.invariant.3,
    )

pub fail-requires-clause-true_cause : goal.fail-requires-clause-true_cause
fail-requires-clause-true_cause g c =
    let site_laws = g.met.S.Site in
    refused_true_here g.S.Site g.R.Runner _ c.args.self.now c.self.invariant.1 c.self.view_is c.args.seat c.args.report.now.dir c.args.report.now.text (asks_of c.args.report.now) (ended_of c.args.report.now) c.requires.report c.args.report.now.means
    c.args.files.now c.requires.judged c.in_ok-end.end.rule c.in_ok-end.end.run c.in_ok-end.event c.in_ok-end.ensures.end
    (λ fresh. subst (IsGraphOf (entries_in c.self.inside.ground.graph.table)) c.nodes.ensures.value (c.nodes.ensures.graph fresh)) site_laws.present site_laws.earlier site_laws.knows_tree
    c.make.result c.make.new.self c.make.ensures.makes c.make.ensures.cause c.in-Err.fault c.in-Err.is
    (λ fresh. subst (IsGraphOf (entries_in c.make.new.self.graph.table)) c.nodes-in-Err.ensures.value (c.nodes-in-Err.ensures.graph fresh))

pub returns-in-Err : goal.returns-in-Err
returns-in-Err g c =
    let site_laws = g.met.S.Site in
    let ends = subst (λ (f : BoardFault). Ends g.S.Site c.args.seat (ended_of c.args.report.now) c.args.self.now (Err f) c.fail.new.self) (sym c.fail.ensures.same)
    (refused_seen g.S.Site g.R.Runner _ c.args.self.now c.self.invariant.1 c.self.view_is c.args.seat c.args.report.now.dir c.args.report.now.text (asks_of c.args.report.now) (ended_of c.args.report.now) c.requires.report c.args.report.now.means
    c.args.files.now c.requires.judged c.in_ok-end.end.rule c.in_ok-end.end.run c.in_ok-end.event c.in_ok-end.ensures.end
    (λ fresh. subst (IsGraphOf (entries_in c.self.inside.ground.graph.table)) c.nodes.ensures.value (c.nodes.ensures.graph fresh)) site_laws.present site_laws.earlier site_laws.knows_tree
    c.make.result c.make.new.self c.make.ensures.makes c.make.ensures.cause c.in-Err.fault c.in-Err.is _ c.fail.ensures.adds) in
    record { ends = ends }
