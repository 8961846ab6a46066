use Rattle.std.proofs.Common.{sym, ◌∙◌}
use Rattle.tup_mini.specs.Part.{ask_for, ask_on, ask_once}
use Rattle.tup_mini.specs.Through.{kept_of}
use Rattle.tup_mini.proofs.Following.{follows_same}
use Rattle.tup_mini.proofs.Looping.{asks-on, asks-once}
use Rattle.tup_mini.proofs.kept.Kept.ask.Goals as goal

pub returns-then-not-may_ask : goal.returns-then-not-may_ask
returns-then-not-may_ask g c =
    let kept = kept_of c.args.self.now in
    follows_same g.V.View.came g.V.View.same g.V.View.refusal c.args.view.now c.ask_on.new.view (ask_for c.args.text.now kept) (ask_on c.first_text.result.now) kept c.ask_on.result
    (asks-on kept c.args.text.now c.first_text.result.now (sym c.may_ask.ensures.may ∙ c.if-not-may_ask.true) c.first_text.ensures) (c.ask_on.ensures kept)

pub returns : goal.returns
returns g c =
    let kept = kept_of c.args.self.now in
    let after = kept_of c.count.new.self in
    follows_same g.V.View.came g.V.View.same g.V.View.refusal c.args.view.now c.ask_once.new.view (ask_for c.args.text.now kept) (ask_once c.args.text.now after) after c.ask_once.result
    (asks-once kept after c.args.text.now (sym c.may_ask.ensures.may ∙ c.if-not-may_ask.false) c.in_ok-count.ensures) (c.ask_once.ensures after)
