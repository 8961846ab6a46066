use Rattle.std.proofs.Common.{◌≡◌, ◌∷◌, [], string_bytes, replicate}
use Rattle.std.specs.List.{join_with_byte}
use Rattle.tup_path.proofs.show.climb.Given as goal

abbrev pub invariant-loop : goal.invariant-loop
invariant-loop l = string_bytes l.shown ≡ join_with_byte 47 (replicate l.counter (46 ∷ 46 ∷ []))
