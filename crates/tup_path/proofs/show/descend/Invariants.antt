use Rattle.std.proofs.Common.{◌≡◌, ◌≤◌, ◌++◌, All, List, ℕ, length, take, string_bytes}
use Rattle.std.specs.List.{join_with_byte}
use Rattle.tup_path.proofs.show.descend.Given as goal

abbrev pub invariant-loop-name : goal.invariant-loop-name
invariant-loop-name l = (front : List (List ℕ)) → All (λ name. 1 ≤ length name) front → string_bytes l.fn.shown ≡ join_with_byte 47 front
    → string_bytes l.shown ≡ join_with_byte 47 (front ++ take l.name-index l.names)
