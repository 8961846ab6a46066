use Rattle.std.proofs.Common.{sym, ◌∙◌}
use Rattle.std.specs.BTreeSet.{contains}
use Rattle.tup_path.specs.Order.{by_names}
use Rattle.tup_readings.proofs.Working.{taken_out}
use Rattle.tup_refresh.proofs.Fetching.{one_fetched, none_missing}
use Rattle.tup_refresh.proofs.fetched.Fetched.note.Goals as goal

pub returns-in_ok-insert-in-Some-clause-fetched : goal.returns-in_ok-insert-in-Some-clause-fetched
returns-in_ok-insert-in-Some-clause-fetched c = λ sources here is.
    let old = c.args.self.now in
    one_fetched sources old _ c.args.path is c.requires (λ other. c.remove.ensures.updates.0 other ∙ taken_out c.args.path other (contains by_names old.missing other)) c.in-Some.content (sym c.in-Some.is ∙ here) c.in_ok-insert-in-Some.ensures.ok

pub returns-in-None-clause-fetched : goal.returns-in-None-clause-fetched
returns-in-None-clause-fetched c = λ sources here is.
    let old = c.args.self.now in
    none_missing sources old _ c.args.path is c.requires (λ other. c.remove.ensures.updates.0 other ∙ taken_out c.args.path other (contains by_names old.missing other)) (sym c.in-None.is ∙ here)
