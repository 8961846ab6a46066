use Rattle.tup_macro.proofs.groups.Groups.members.Goals as goal

pub returns-clause-refused : goal.returns-clause-refused
returns-clause-refused c = rw (← c.self.view_is) c.members.ensures.refused
