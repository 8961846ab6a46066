-- One answer more of a list.
use Rattle.std.proofs.Common.{◌≡◌, ℕ, ◌+◌, ◌<◌, List, [], ◌∷◌, ◌++◌, length, take, get_or, sym, ap, ◌∙◌}
use Rattle.std.proofs.lemmas.List.{take_more}
use Rattle.tup_runner.specs.Next.{Asks}
use Rattle.tup_runner.specs.declared.step.Answer.{Answer}

pub answered_more : (given : Asks) (at : ℕ) (asked : List ℕ × Answer) (text : List ℕ) (answer : Answer) → at < length given → asked ≡ get_or given at asked → asked.0 ≡ text → asked.1 ≡ answer →
    take (at + 1) given ≡ take at given ++ (text, answer) ∷ []
answered_more given at asked text answer less here same copied =
    take_more given at asked less
    ∙ ap (λ (ask : List ℕ × Answer). take at given ++ ask ∷ []) (sym here)
    ∙ ap (λ (t : List ℕ). take at given ++ (t, asked.1) ∷ []) same
    ∙ ap (λ (a : Answer). take at given ++ (text, a) ∷ []) copied
