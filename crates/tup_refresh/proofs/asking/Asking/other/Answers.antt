use Rattle.std.proofs.Common.{ap, sym, ◌∙◌}
use Rattle.tup_query.specs.Log.{fits}
use Rattle.tup_readings.proofs.Answered.{answer_fits}
use Rattle.tup_refresh.proofs.Waiting.{answer_where_ready}
use Rattle.tup_refresh.proofs.asking.Asking.other.Goals as goal

pub returns-in-Ok-clause-told : goal.returns-in-Ok-clause-told
returns-in-Ok-clause-told c =
    let asked = c.args.self.now.asked in
    c.in-Ok.ensures.told ∙ sym (answer_where_ready asked.sources.now asked.settings.now asked.readings.now asked.reader.now c.args.question.now c.in-Ok.ensures.ready)

pub returns-in-Ok-clause-fits : goal.returns-in-Ok-clause-fits
returns-in-Ok-clause-fits c =
    let asked = c.args.self.now.asked in
    ap (fits c.args.question.now) c.in-Ok.ensures.told ∙ answer_fits asked.sources.now asked.settings.now asked.readings.now asked.reader.now c.args.question.now
