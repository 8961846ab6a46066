use Rattle.std.proofs.Common.{rules, refl, ◌≡◌, ◌<◌, length, get_or}
use Rattle.tup_given.proofs.Answered.{answered_more}
use Rattle.tup_given.proofs.replies.RepliesView.ask.Goals as goal

pub returns-in_ok-answer-in-Some-clause-answered : goal.returns-in_ok-answer-in-Some-clause-answered
returns-in_ok-answer-in-Some-clause-answered c =
    let given = c.args.self.now.given in
    let at = c.args.self.now.asked in
    let asked = c.in-Some.field-0.now in
    let less : at < length given = search rules in
    let here : asked ≡ get_or given at asked = search rules in
    let same : asked.0 ≡ c.args.text.now = search rules in
    let copied : asked.1 ≡ c.in_ok-answer-in-Some.answer = search rules in
    (refl, answered_more given at asked c.args.text.now c.in_ok-answer-in-Some.answer less here same copied)
