use Rattle.std.proofs.Common.{◌+◌}
use Rattle.tup_why.specs.declared.reason.Link.TheVariants.{Reads, Writes}
use Rattle.tup_why.proofs.Checks.{got, hop_taken}
use Rattle.tup_why.proofs.checking.hop.Goals as goal

pub returns-in-Some-Reads : goal.returns-in-Some-Reads
returns-in-Some-Reads c = λ last.
    let links = c.args.links.now in
    let at = c.args.at in
    let one = c.in-Some-Writes in
    let two = c.in-Some-Reads in
    hop_taken c.args.nodes.now c.args.plan.now links at c.args.number two.next last one.path
    (got links at one.field-0.now (Writes one.path) one.ensures.lookup.3.0 one.ensures.lookup.1 one.field-0-is)
    (got links (at + 1) two.field-0.now (Reads two.next) two.ensures.lookup.3.0 two.ensures.lookup.1 two.field-0-is) (c.leads.ensures.0 c.if-leads.true)
