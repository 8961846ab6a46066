use Rattle.std.proofs.Common.{refl, sym, ◌∙◌}
use Rattle.std.proofs.lemmas.Bool.{false≢true}
use Rattle.tup_board.specs.Seat.{refusal_of}
use Rattle.tup_board.proofs.Seeing.{came_err, came_ok, granted_so, plan_on, refuses_so, seat_kept}
use Rattle.tup_board.proofs.seat.SeatViewView.ask.Goals as goal

pub invariant_of-self : goal.invariant_of-self
invariant_of-self g c =
    let site_laws = g.met.D.Site.Site in
    let view = c.args.self.now in
    let old = g.D.Desk.board view.board.now in
    let new = g.D.Desk.board c.reply-reply.new.self in record {
      of_board = view.of_board ∙ sym (plan_on g.D.Site.Site view.seat c.args.text.now old new c.reply-reply.result c.reply-reply.ensures.asks);
      goes = granted_so g.D.Site.Site view.seat c.args.text.now old new c.reply-reply.result (λ tells. site_laws.knows_tree old.site tells) c.reply-reply.ensures.asks (refusal_of view.refused.now) (refusal_of c.refusal.result) c.requires c.refusal.ensures
          (view.goes c.requires);
    }

pub returns : goal.returns
returns g c =
    let site_laws = g.met.D.Site.Site in
    let view = c.args.self.now in
    let old = g.D.Desk.board view.board.now in
    let new = g.D.Desk.board c.reply-reply.new.self in record {
      answered = came_ok g.D.Site.Site view.seat c.args.text.now old new c.reply-reply.result (λ tells. site_laws.knows_tree old.site tells) c.reply-reply.ensures.asks (refusal_of view.refused.now) (refusal_of c.refusal.result) c.requires c.refusal.ensures c.answer.result c.answer.ensures;
      unanswered = came_err g.D.Site.Site view.seat c.args.text.now old new c.reply-reply.result (λ tells. site_laws.knows_tree old.site tells) c.reply-reply.ensures.asks (refusal_of view.refused.now) (refusal_of c.refusal.result) c.requires c.refusal.ensures c.answer.result c.answer.ensures;
      memory = λ no. absurd (false≢true no);
      refuses = refuses_so g.D.Site.Site view.seat c.args.text.now old new c.reply-reply.result (λ tells. site_laws.knows_tree old.site tells) c.reply-reply.ensures.asks (refusal_of view.refused.now) (refusal_of c.refusal.result) c.requires c.refusal.ensures c.answer.result c.answer.ensures;
      same = (
        refl,
        refl,
        refl,
        refl,
        refl,
        seat_kept g.D.Site.Site view.seat c.args.text.now old new c.reply-reply.result (λ tells. site_laws.knows_tree old.site tells) c.reply-reply.ensures.asks (refusal_of view.refused.now) (refusal_of c.refusal.result) c.requires c.refusal.ensures,
      );
    }
