use Rattle.std.proofs.Common.{sym, subst}
use Rattle.tup_commit.proofs.Seeing.{has_seen}
use Rattle.tup_board_rows.specs.Opening.{HasSeen}
use Rattle.tup_board_rows.proofs.opening.takes_note.Goals as goal

pub returns-in-Ok : goal.returns-in-Ok
returns-in-Ok g c = λ is. record {
  fresh = c.in-Ok.ensures.fresh;
  stands = λ tells. c.note_scan.ensures.stands tells c.in-Ok.ensures.fresh;
  seen = λ tells.
      subst (HasSeen c.note_scan.new.graph.nodes) (sym (c.note_scan.ensures.tree tells))
      (has_seen c.args.graph.now.nodes c.note_scan.new.graph.nodes (g.S.Site.world c.args.site.now).tree c.args.seen.now (c.requires.seen tells) c.in-Ok.ensures.scanned);
}
