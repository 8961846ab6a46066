use Rattle.std.proofs.Common.{sym, ap, ◌∙◌}
use Rattle.std.specs.Option.{option_copied}
use Rattle.tup_board.proofs.Answering.{running_seen}
use Rattle.tup_board.proofs.Judging.{end_told, names_there}
use Rattle.tup_board.proofs.Kept.{sound_seen}
use Rattle.tup_board.proofs.board.Board.good_end.Goals as goal

pub record_of-requires : goal.record_of-requires
record_of-requires g c =
    let here = sym c.running.ensures ∙ ap option_copied c.in-Some.is in
    let ran = running_seen g.S.Site g.R.Runner _ _ _ _ _ _ _ c.self.invariant.0 c.self.invariant.1 c.self.view_is c.args.seat c.in-Some.running.now here c.requires.runs.it in
    let sound = sound_seen g.S.Site g.R.Runner _ _ c.self.invariant.1 c.self.view_is in
    names_there g.S.Site g.R.Runner c.args.self.now sound c.args.seat c.requires.runs c.in-Some.running.now ran c.rule_of.result.now c.rule_of.ensures

pub returns-clause-end : goal.returns-clause-end
returns-clause-end g c =
    let here = sym c.running.ensures ∙ ap option_copied c.in-Some.is in
    let ran = running_seen g.S.Site g.R.Runner _ _ _ _ _ _ _ c.self.invariant.0 c.self.invariant.1 c.self.view_is c.args.seat c.in-Some.running.now here c.requires.runs.it in
    let sound = sound_seen g.S.Site g.R.Runner _ _ c.self.invariant.1 c.self.view_is in
    end_told g.S.Site g.R.Runner c.args.self.now sound c.args.seat c.requires.runs c.in-Some.running.now ran c.rule_of.result.now c.rule_of.ensures c.args.files.now _ _ c.in_ok-run.ensures.asks c.in_ok-run.ensures.writes
    (c.requires.outputs c.requires.runs.it) c.in_ok-event.ensures
