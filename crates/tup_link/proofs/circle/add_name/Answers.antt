use Rattle.std.proofs.Common.{length, ◌≤◌}
use Rattle.std.proofs.lemmas.Option.{MatchOption-at_none, slice_get_past}
use Rattle.tup_link.proofs.Circles.{names_none}
use Rattle.tup_link.proofs.circle.add_name.Goals as goal

pub returns-in-None : goal.returns-in-None
returns-in-None c =
    let past = MatchOption-at_none (length c.args.rules.now ≤ c.args.at) _ c.in-None.is c.get.ensures.lookup.3 in
    names_none c.args.rules.now c.args.at c.args.names.now (slice_get_past c.args.rules.now c.args.at past)
