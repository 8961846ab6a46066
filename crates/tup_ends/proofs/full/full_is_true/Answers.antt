use Rattle.tup_core.specs.declared.event.Cause.TheVariants.{Full}
use Rattle.tup_ends.proofs.Room.{lacks_room}
use Rattle.tup_ends.proofs.full.full_is_true.Goals as goal

pub returns : goal.returns
returns g c = λ board first since ran tells means sound prepared same stopped.
    let site_laws = g.met.S.Site in
    let full = sound.cause Full stopped tells in (
      full.0,
      site_laws.earlier board.site since (g.S.Site.moment board.opening.site) full.0 tells prepared.over.began full.1,
      lacks_room g.S.Site g.R.Runner board sound tells means ran same first since prepared full.0 full.1 full.2,
    )
