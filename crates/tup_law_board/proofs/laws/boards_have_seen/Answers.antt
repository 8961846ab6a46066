use Rattle.tup_law_board.proofs.Sites.{seen_now}
use Rattle.tup_law_board.proofs.laws.boards_have_seen.Goals as goal

pub returns : goal.returns
returns g c = λ language board first moment path tells told none sound held over.
    let site_laws = g.met.S.Site in
    seen_now g.S.Site g.R.Runner board sound tells told language first moment over held (λ t u w within left. site_laws.earlier board.opening.site t u w tells within left)
    (site_laws.present board.opening.site tells) none path
