use Rattle.std.proofs.Common.{rules}
use Rattle.std.proofs.lemmas.List.Sorted.{answers_always}
use Rattle.tup_table.specs.KeyFronts.{front_of}
use Rattle.tup_table.proofs.gathered.by_fronts.Goals as goal

pub returns : goal.returns
returns c = c.sort_by_cached_key.ensures.stable (λ slot. front_of slot.0) (answers_always _ _ _ (λ f a r g h. search rules))
