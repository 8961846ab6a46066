use Rattle.std.proofs.Common.{rules, ◌∙◌}
use Rattle.tup_mini.proofs.Reading.{status_parsed}
use Rattle.tup_mini.proofs.word.status.Goals as goal

pub returns-in-49-to-57 : goal.returns-in-49-to-57
returns-in-49-to-57 c =
    c.unwrap_or.ensures ∙ status_parsed c.args.word.now c.parse.result (search (rules, c.parse.ensures.value)) (search rules) (search rules) (search rules)
