use Rattle.tup_store_rows.proofs.kept.note.Given as goal

abbrev pub ghosts-note_scan : goal.ghosts-note_scan
ghosts-note_scan a = record { name = a.blank.name; parts = a.blank.parts }
