use Rattle.tup_law_board.proofs.Sites.{site_kept, site_kept_since}
use Rattle.tup_law_board.proofs.laws.boards_keep_sites.Goals as goal

pub returns : goal.returns
returns g c = record {
  since = λ language board first moment tells told sound held over.
      let site_laws = g.met.S.Site in
      site_kept g.S.Site g.R.Runner board sound tells told language first moment over held (λ t u w within left. site_laws.earlier board.opening.site t u w tells within left)
      (site_laws.present board.opening.site tells);
  made = λ language board tells told sound is_graph held kept.
      let site_laws = g.met.S.Site in
      site_kept_since g.S.Site g.R.Runner board sound tells told language kept is_graph held (λ t u w within left. site_laws.earlier board.opening.site t u w tells within left)
      (site_laws.present board.opening.site tells);
}
