use Rattle.std.proofs.Common.{sym, ◌∙◌}
use Rattle.tup_core.proofs.WalkLaws.{kept_none, kept_one}
use Rattle.tup_core.proofs.walk.keep.Goals as goal

pub returns-then-not-is_up : goal.returns-then-not-is_up
returns-then-not-is_up c = kept_none c.args.flags.now c.args.place c.args.kept.now (sym c.is_up.ensures ∙ c.if-not-is_up.true)

pub returns : goal.returns
returns c = kept_one c.args.flags.now c.args.place c.args.kept.now c.push.new.self (sym c.is_up.ensures ∙ c.if-not-is_up.false) c.in_ok-push.ensures.ok
