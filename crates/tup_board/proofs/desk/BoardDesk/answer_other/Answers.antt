use Rattle.std.proofs.Common.{sym, ◌∙◌}
use Rattle.tup_board.proofs.Answering.{stamp_seen}
use Rattle.tup_board.proofs.Keeping.{stamped_as, stands_seen}
use Rattle.tup_board.proofs.desk.BoardDesk.answer_other.Goals as goal

pub tell-requires-clause-stamp : goal.tell-requires-clause-stamp
tell-requires-clause-stamp g c = stamped_as g.S.Site c.self.inside.ground.site c.self.inside.contents c.self.invariant.2 c.in-Some.content c.in_ok-stamp.stamp (sym c.in_ok-content.ensures ∙ c.in-Some.is)

pub tell-requires-clause-files : goal.tell-requires-clause-files
tell-requires-clause-files g c = stamp_seen g.S.Site g.R.Runner _ _ _ _ _ _ _ c.self.invariant.0 c.self.invariant.1 c.self.view_is c.self.invariant.3 c.in_ok-stamp.ensures.nodes c.args.path.now c.in_ok-stamp.stamp c.in_ok-stamp.ensures.stamp

pub tell-requires-clause-found : goal.tell-requires-clause-found
tell-requires-clause-found g c =
    let site_laws = g.met.S.Site in
    let files = stamp_seen g.S.Site g.R.Runner _ _ _ _ _ _ _ c.self.invariant.0 c.self.invariant.1 c.self.view_is c.self.invariant.3 c.in_ok-stamp.ensures.nodes c.args.path.now c.in_ok-stamp.stamp c.in_ok-stamp.ensures.stamp in
    stands_seen g.S.Site g.R.Runner _ c.args.self.now c.self.invariant.1 c.self.view_is c.self.inside.contents c.self.invariant.2 c.args.seat c.args.text.now c.args.path.now c.requires.asks_for c.in_ok-stamp.stamp c.in-Some.content
    (sym c.in_ok-content.ensures ∙ c.in-Some.is) files site_laws.is_known site_laws.knows_tree

pub read-requires-clause-seen : goal.read-requires-clause-seen
read-requires-clause-seen g c = stamp_seen g.S.Site g.R.Runner _ _ _ _ _ _ _ c.self.invariant.0 c.self.invariant.1 c.self.view_is c.self.invariant.3 c.in_ok-stamp.ensures.nodes c.args.path.now c.in_ok-stamp.stamp c.in_ok-stamp.ensures.stamp
