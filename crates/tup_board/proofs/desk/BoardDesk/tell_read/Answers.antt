use Rattle.std.proofs.Common.{◌≡◌, true, sym, ap, ◌∙◌, arith}
use Rattle.tup_board.specs.Board.{BoardState, state}
use Rattle.tup_board.proofs.Keeping.{kept_more, knows_found}
use Rattle.tup_board.proofs.desk.BoardDesk.tell_read.Goals as goal

pub invariant_of-self : goal.invariant_of-self
invariant_of-self g c =
    let site_laws = g.met.S.Site in (
      c.self.invariant.0,
      c.self.invariant.1,
      kept_more g.S.Site c.self.inside.ground.site c.self.inside.contents c.keep.new.self c.stamp_at-stamp.result c.args.found c.keep.ensures.adds c.keep.ensures.room c.stamp_at-stamp.ensures
          (knows_found g.S.Site _ c.args.self.now c.self.view_is c.args.path.now c.args.found c.requires.found site_laws.knows_tree) c.self.invariant.2,
      c.self.invariant.3,
    )

pub tell-requires-clause-files : goal.tell-requires-clause-files
tell-requires-clause-files g c =
    let is : c.same_stamp.result ≡ true = grind arith in
    c.same_stamp.ensures.0 is ∙ c.requires.seen ∙ ap (λ (b : BoardState _). (state b).files c.args.path.now) (sym c.self.view_is)
