use Rattle.std.proofs.Common.{List, subst, sym}
use Rattle.std.proofs.lemmas.Option.{MatchOption-at_none, MatchOption-at_some}
use Rattle.tup_why.specs.Reason.{LeadsTo}
use Rattle.tup_why.specs.declared.reason.Link.{Link}
use Rattle.tup_why.proofs.reasons.Reasons.of_rule.Goals as goal

pub returns-in_ok-forward-in-Some-clause-holds : goal.returns-in_ok-forward-in-Some-clause-holds
returns-in_ok-forward-in-Some-clause-holds c = λ g are.
    subst (λ (l : List Link). LeadsTo g c.args.plan.now c.in-Some.root l c.args.number) (sym c.in_ok-forward-in-Some.ensures.reversed)
    (MatchOption-at_some _ (λ root. LeadsTo g c.args.plan.now root _ c.args.number) c.in-Some.root c.in-Some.is (c.in_ok-root.ensures.traced g are))

pub returns-in-None-clause-circle : goal.returns-in-None-clause-circle
returns-in-None-clause-circle c = λ g are. MatchOption-at_none _ (λ root. LeadsTo g c.args.plan.now root _ c.args.number) c.in-None.is (c.in_ok-root.ensures.traced g are)
