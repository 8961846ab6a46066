use Rattle.std.proofs.Common.{◌∙◌}
use Rattle.std.proofs.lemmas.List.Filters.{dedup_is}
use Rattle.tup_ledger.proofs.Ordered.{ordered}
use Rattle.tup_ledger.proofs.lists.ordered.Goals as goal

pub returns : goal.returns
returns c =
    c.from_vec.ensures ∙ ordered c.args.paths.items c.sort_unstable.new.self.items c.dedup.new.self.items c.sort_unstable.ensures.permutation c.sort_unstable.ensures.sorted (dedup_is _ _ _ c.dedup.ensures.filtered)
