use Rattle.tup_macro.proofs.Giving.{same_group-equiv, one_more-given}
use Rattle.tup_macro.proofs.groups.Groups.add.Goals as goal

pub returns-clause-given : goal.returns-clause-given
returns-clause-given c = rw (← c.self.view_is, ← c.in_ok-clone.ensures.cases, ← c.in_ok-clone-2.ensures.cases) c.add.ensures.given

pub returns-clause-one_more : goal.returns-clause-one_more
returns-clause-one_more c = one_more-given same_group-equiv _ _ _ _ _ (returns-clause-given c)
