use Rattle.tup_refresh.proofs.Recording.{all_true_records}
use Rattle.tup_refresh.proofs.laws.readings_are_true_records.Goals as goal

pub returns : goal.returns
returns c = all_true_records
