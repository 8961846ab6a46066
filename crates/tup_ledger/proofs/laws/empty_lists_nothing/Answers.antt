use Rattle.tup_ledger.proofs.Listing.{nothing_lists}
use Rattle.tup_ledger.proofs.laws.empty_lists_nothing.Goals as goal

pub returns : goal.returns
returns c = nothing_lists
