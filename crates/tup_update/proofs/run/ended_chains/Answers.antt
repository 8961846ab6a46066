use Rattle.std.proofs.Common.{List, Option, ℕ, subst}
use Rattle.std.specs.Option.{IfSome}
use Rattle.tup_update.specs.Ended.{ends, numbers}
use Rattle.tup_update.specs.Names.{IsReadyFor}
use Rattle.tup_update.specs.declared.by_rule.ByRule.{ByRule}
use Rattle.tup_update.proofs.Chained.{all_wait}
use Rattle.tup_update.proofs.run.ended_chains.Goals as goal

pub ended-requires-clause-room : goal.ended-requires-clause-room
ended-requires-clause-room c = (subst (λ (o : Option (ByRule (Option (List ℕ)))). IfSome o (IsReadyFor (numbers (ends c.args.history.now)))) c.in-Some.is c.requires.ready).room

pub ended-requires-clause-none : goal.ended-requires-clause-none
ended-requires-clause-none c = (subst (λ (o : Option (ByRule (Option (List ℕ)))). IfSome o (IsReadyFor (numbers (ends c.args.history.now)))) c.in-Some.is c.requires.ready).none

pub ended-requires-clause-named : goal.ended-requires-clause-named
ended-requires-clause-named c =
    all_wait c.in-Some.chains (numbers (ends c.args.history.now)) (subst (λ (o : Option (ByRule (Option (List ℕ)))). IfSome o (IsReadyFor (numbers (ends c.args.history.now)))) c.in-Some.is c.requires.ready)
