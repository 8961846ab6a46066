-- How the begins and the ends of rules follow each other where several run at once.
use Rattle.std.specs.Prelude.{◌<◌, ⊤, ℕ, List, [], ◌∷◌, length}
use Rattle.std.specs.List.Sorted.{IsPermutation}
use Rattle.tup_promise.specs.declared.log.Step.{Step}
use Rattle.tup_promise.specs.declared.log.Step.TheVariants.{Begin, End}

-- While these rules are under way, these steps begin the rules of one list and end those of another, each in its order. A rule
-- ends only while it is under way, and one is begun only while fewer than so many are.
abbrev pub Interleave : {R : Type 0} → ℕ → List R → List Step → List R → List R → Type 0
Interleave {R} jobs going [] [] [] = ⊤
Interleave {R} jobs going [] [] (rule ∷ ended) = ⊥
Interleave {R} jobs going [] (rule ∷ begun) ended = ⊥
Interleave {R} jobs going (Begin ∷ steps) [] ended = ⊥
Interleave {R} jobs going (Begin ∷ steps) (rule ∷ begun) ended = (length going < jobs) × Interleave jobs (rule ∷ going) steps begun ended
Interleave {R} jobs going (End ∷ steps) begun [] = ⊥
Interleave {R} jobs going (End ∷ steps) begun (rule ∷ ended) = (others : List R) × IsPermutation going (rule ∷ others) × Interleave jobs others steps begun ended
