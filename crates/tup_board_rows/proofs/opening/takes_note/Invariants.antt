use Rattle.tup_board_rows.proofs.opening.takes_note.Given as goal

abbrev pub ghosts-note_scan : goal.ghosts-note_scan
ghosts-note_scan g a = record { name = a.blank.name; parts = a.blank.parts }
