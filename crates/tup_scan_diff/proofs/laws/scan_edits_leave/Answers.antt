use Rattle.tup_scan_diff.proofs.Noting.{scan_noted}
use Rattle.tup_scan_diff.proofs.laws.scan_edits_leave.Goals as goal

pub returns : goal.returns
returns c = scan_noted
