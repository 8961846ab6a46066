use Rattle.tup_apart.proofs.plan.planned.Given as goal

abbrev pub ghosts-planned_uncounted : goal.ghosts-planned_uncounted
ghosts-planned_uncounted a = record { name = a.blank.name; parts = a.blank.parts }
