use Rattle.tup_store_rows.proofs.kept.swap.Given as goal

abbrev pub ghosts-swap_rules : goal.ghosts-swap_rules
ghosts-swap_rules a = record { name = a.blank.name; parts = a.blank.parts }
