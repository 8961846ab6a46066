use Rattle.std.proofs.Common.{Result, sym, ap, subst}
use Rattle.std.specs.Result.{IfOk}
use Rattle.tup_site.specs.Crash.{NoStep}
use Rattle.tup_site.specs.World.{World}
use Rattle.tup_scan.specs.Seen.{IsSeen}
use Rattle.tup_scan.specs.declared.fault.ScanFault.{ScanFault}
use Rattle.tup_scan.specs.declared.seen.Seen.{Seen}
use Rattle.tup_table.proofs.Stands.{stands_on}
use Rattle.tup_board_rows.proofs.opening.is_noted.Goals as goal

pub takes_note-requires-clause-stands : goal.takes_note-requires-clause-stands
takes_note-requires-clause-stands g c = λ tells.
    let site_laws = g.met.S.Site in
    let mid = c.scan.new.site in
    stands_on g.S.Site.world g.S.Site.moment g.S.Site.left_since c.args.graph.now.table c.args.site.now mid NoStep (λ v w none. absurd none)
    (λ t u w le left. site_laws.earlier mid t u w tells le left) (c.scan.ensures.crash tells) (ap (λ (w : World). w.store) (c.scan.ensures.same tells)) (c.requires.stands tells)

pub takes_note-requires-clause-seen : goal.takes_note-requires-clause-seen
takes_note-requires-clause-seen g c = λ tells.
    subst (λ (w : World). IsSeen w.tree c.in-Ok.seen) (sym (c.scan.ensures.same tells))
    (subst (λ (r : Result Seen ScanFault). IfOk r (IsSeen (g.S.Site.world c.args.site.now).tree)) c.in-Ok.is (c.scan.ensures.seen tells))
