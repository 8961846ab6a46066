-- What is done step by step, with an answer to each step. Own.
use Rattle.std.specs.Prelude.{◌≡◌, List, [], ◌∷◌}

-- These steps, with these answers, lead from one state to another, each from where the one before it led.
abbrev pub Leads : {S T E : Type 0} → (T → E → S → S → Type 0) → List T → List E → S → S → Type 0
Leads step [] [] from to = to ≡ from
Leads {S} step (turn ∷ turns) (end ∷ ends) from to = (mid : S) × step turn end from mid × Leads step turns ends mid to
Leads step [] (end ∷ ends) from to = ⊥
Leads step (turn ∷ turns) [] from to = ⊥
