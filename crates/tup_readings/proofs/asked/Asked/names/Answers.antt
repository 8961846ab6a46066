use Rattle.std.proofs.Common.{ap}
use Rattle.tup_rule.specs.declared.question.Told.TheVariants as told
use Rattle.tup_readings.proofs.Told.{names_told}
use Rattle.tup_readings.proofs.asked.Asked.names.Goals as goal

pub returns-clause-told : goal.returns-clause-told
returns-clause-told c =
    let self = c.args.self.now in
    ap (λ l. told.Names l) (names_told self.sources.now self.readings.now self.reader.now c.args.dir.now c.in_ok-drafts.drafts.now c.in_ok-names.names.keys c.add_made.new.names.keys c.in_ok-listed.field-0
    c.in_ok-listed.ensures c.in_ok-add_made.ensures c.in_ok-names.ensures c.in_ok-drafts.ensures.seen)
