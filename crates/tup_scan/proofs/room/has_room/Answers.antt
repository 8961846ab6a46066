use Rattle.std.proofs.Common.{ap, arith}
use Rattle.std.proofs.lemmas.Bool.{leb-false, leb-true}
use Rattle.tup_site.specs.declared.limits.Limits.{Limits}
use Rattle.tup_scan.proofs.room.has_room.Goals as goal

pub returns-clause-within : goal.returns-clause-within
returns-clause-within g c = λ has.
    let laws = g.met.S.Site in
    let within = leb-true c.args.count c.limits.result.files has in
    omega (arith, within, laws.are_limits.most_files, ap (λ (l : Limits). l.files) c.limits.ensures)

pub returns-clause-few : goal.returns-clause-few
returns-clause-few g c = λ tells has.
    let laws = g.met.S.Site in
    let within = leb-true c.args.count c.limits.result.files has in
    omega (arith, within, ap (λ (l : Limits). l.files) (laws.told_limits tells), ap (λ (l : Limits). l.files) c.limits.ensures)

pub returns-clause-many : goal.returns-clause-many
returns-clause-many g c = λ none.
    let laws = g.met.S.Site in
    let over = leb-false c.args.count c.limits.result.files none in
    omega (arith, over, laws.are_limits.least_files, ap (λ (l : Limits). l.files) c.limits.ensures)
