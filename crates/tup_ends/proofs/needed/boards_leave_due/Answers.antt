use Rattle.tup_ends.proofs.Left.{asked_end, due_before, due_pending}
use Rattle.tup_ends.proofs.needed.boards_leave_due.Goals as goal

pub returns-clause-pending : goal.returns-clause-pending
returns-clause-pending g c = λ board first since number tells told sound graph_now prepared once.
    let site_laws = g.met.S.Site in
    due_pending g.S.Site g.R.Runner board sound tells told first since prepared once (λ t u w within left. site_laws.earlier board.opening.site t u w tells within left)
    (site_laws.present board.opening.site tells) graph_now (λ t u w within left. site_laws.earlier board.site t u w tells within left) (site_laws.present board.site tells) number

pub returns-clause-before : goal.returns-clause-before
returns-clause-before g c = λ board first since number tells told sound graph_now prepared once.
    let site_laws = g.met.S.Site in
    due_before g.S.Site g.R.Runner board sound tells told first since prepared once (λ t u w within left. site_laws.earlier board.opening.site t u w tells within left)
    (site_laws.present board.opening.site tells) graph_now (λ t u w within left. site_laws.earlier board.site t u w tells within left) (site_laws.present board.site tells) number

pub returns-clause-asked : goal.returns-clause-asked
returns-clause-asked g c = λ board first since tells told sound graph_now prepared once.
    let site_laws = g.met.S.Site in
    asked_end g.S.Site g.R.Runner board sound tells told first since prepared once (λ t u w within left. site_laws.earlier board.opening.site t u w tells within left)
    (site_laws.present board.opening.site tells) graph_now (λ t u w within left. site_laws.earlier board.site t u w tells within left) (site_laws.present board.site tells)
