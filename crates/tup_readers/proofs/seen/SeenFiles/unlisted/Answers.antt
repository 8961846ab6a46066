use Rattle.tup_readers.proofs.Listing.{none_seen}
use Rattle.tup_readers.proofs.seen.SeenFiles.unlisted.Goals as goal

pub invariant_of-result : goal.invariant_of-result
invariant_of-result c = none_seen c.args.nodes.now.seen c.new.result.items c.new.ensures.items
