use Rattle.tup_phases.proofs.bringing.swapped.Given as goal

abbrev pub ghosts-swap_rules : goal.ghosts-swap_rules
ghosts-swap_rules g a = record { name = a.blank.name; parts = a.blank.parts }
