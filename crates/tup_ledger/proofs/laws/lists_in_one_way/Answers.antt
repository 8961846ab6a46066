use Rattle.tup_ledger.proofs.Listing.{lists_one}
use Rattle.tup_ledger.proofs.laws.lists_in_one_way.Goals as goal

pub returns : goal.returns
returns c = lists_one
