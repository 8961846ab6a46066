use Rattle.std.specs.Str.{chars}
use Rattle.tup_glob.proofs.Reading.{set_found}
use Rattle.tup_glob.proofs.read.set.Goals as goal

pub returns-in_ok-members-in-Some-clause-ok : goal.returns-in_ok-members-in-Some-clause-ok
returns-in_ok-members-in-Some-clause-ok c =
    let cut = c.in-Some.ensures in
    set_found c.negation-negated.result.0 (chars c.args.text.now) (chars c.negation-negated.result.1.now) (chars c.in-Some.body.now) (chars c.in-Some.behind.now) cut.0 c.in_ok-members-in-Some.members
    c.negation-negated.ensures.negated c.negation-negated.ensures.behind cut.1 cut.2 cut.3 c.in_ok-members-in-Some.ensures.ok
