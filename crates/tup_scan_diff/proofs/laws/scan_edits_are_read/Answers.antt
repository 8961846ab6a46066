use Rattle.tup_scan_diff.proofs.Noting.{scan_read}
use Rattle.tup_scan_diff.proofs.laws.scan_edits_are_read.Goals as goal

pub returns : goal.returns
returns c = λ entries g files config edits origin up is are spelled. scan_read entries g files config edits is are origin up spelled
