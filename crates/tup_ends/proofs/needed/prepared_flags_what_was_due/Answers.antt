use Rattle.tup_ends.proofs.Done.{flags_due, none_due}
use Rattle.tup_ends.proofs.needed.prepared_flags_what_was_due.Goals as goal

pub returns-clause-flagged : goal.returns-clause-flagged
returns-clause-flagged g c = λ next first since graph tells prepared.
    let site_laws = g.met.S.Site in
    flags_due g.S.Site next first since graph c.args.site.now prepared (λ t u w within left. site_laws.earlier c.args.site.now t u w tells within left) (site_laws.present c.args.site.now tells)

pub returns-clause-none : goal.returns-clause-none
returns-clause-none g c = λ next first since graph prepared none. none_due g.S.Site next first since graph c.args.site.now prepared none
