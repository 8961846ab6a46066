use Rattle.tup_board.proofs.Keeping.{none_kept}
use Rattle.tup_board.proofs.Openings.{made_as, made_files, made_sound}
use Rattle.tup_board.proofs.Stamps.{has_first}
use Rattle.tup_board.proofs.board.Board.of.Goals as goal

pub invariant_of-result : goal.invariant_of-result
invariant_of-result g c =
    let site_laws = g.met.S.Site in (
      made_files g.S.Site g.R.Runner c.args.course c.args.graph c.of.result.value c.args.site c.of-2.result.value c.of.ensures c.of-2.ensures c.requires.none c.requires.files,
      made_sound g.S.Site g.R.Runner c.args.course c.args.graph c.of.result.value c.args.site c.of-2.result.value c.of.ensures c.of-2.ensures c.requires.none c.requires.opening c.requires.graph (site_laws.present c.args.site),
      none_kept g.S.Site c.args.site c.new.result c.new.ensures.none c.new.ensures.room,
      has_first c.args.graph.nodes c.args.course c.requires.none c.requires.files,
    )

pub returns : goal.returns
returns g c = made_as g.S.Site g.R.Runner c.args.course c.args.graph c.of.result.value c.args.site c.of-2.result.value c.of.ensures c.of-2.ensures c.requires.none
