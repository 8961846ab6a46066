use Rattle.tup_scan_diff.proofs.present.Present.kind.Goals as goal

pub kind_beside-requires-clause-parts : goal.kind_beside-requires-clause-parts
kind_beside-requires-clause-parts c = c.in-Some.ensures
