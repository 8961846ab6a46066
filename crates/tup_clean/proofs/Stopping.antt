-- A build that was stopped has run a front of its commands.
use Rattle.std.proofs.Common.{◌≡◌, ℕ, List, [], ◌∷◌, ◌++◌, ap, ◌∙◌, inl, inr, append_assoc}
use Rattle.std.proofs.lemmas.List.{append-nil}
use Rattle.tup_path.specs.Name.{Names}
use Rattle.tup_clean.specs.Ran.{BeginsOne, RunsFront}
use Rattle.tup_clean.specs.declared.fault.CleanFault.{CleanFault}
use Rattle.tup_clean.specs.declared.fault.CleanFault.TheVariants.{Run, Memory}

-- these were all
pub ran_whole : (all ran old new : List (Names × List ℕ)) → new ≡ old ++ ran → ran ≡ all → new ≡ old ++ all
ran_whole all ran old new grown same = grown ∙ ap (λ (l : List (Names × List ℕ)). old ++ l) same

-- one more
pub ran_more : (ran old between new : List (Names × List ℕ)) (command : Names × List ℕ) → between ≡ old ++ ran → new ≡ between ++ command ∷ [] → new ≡ old ++ (ran ++ command ∷ [])
ran_more ran old between new command before grown = grown ∙ ap (λ (l : List (Names × List ℕ)). l ++ command ∷ []) before ∙ append_assoc old ran (command ∷ [])

-- a front of commands is a front of the same commands
pub stopped_same : (all other old new : List (Names × List ℕ)) → all ≡ other → RunsFront all old new → RunsFront other old new
stopped_same all other old new same (front, rest, parts, grown) = (front, rest, parts ∙ same, grown)

-- all were run
pub stopped_all : (all ran old new : List (Names × List ℕ)) → ran ≡ all → new ≡ old ++ ran → RunsFront all old new
stopped_all all ran old new same grown = (ran, [], append-nil ran ∙ same, grown)

-- one more was run, and then the build was stopped
pub stopped_after : (all ran more old between new : List (Names × List ℕ)) (command : Names × List ℕ) → (ran ++ command ∷ []) ++ more ≡ all → between ≡ old ++ ran → new ≡ between ++ command ∷ [] → RunsFront all old new
stopped_after all ran more old between new command next before one = (ran ++ command ∷ [], more, next, ran_more ran old between new command before one)

-- or while it was run
pub stopped_in : (all ran rest more old between new : List (Names × List ℕ)) (command : Names × List ℕ) (fault : CleanFault) → ran ++ rest ≡ all → (ran ++ command ∷ []) ++ more ≡ all →
    between ≡ old ++ ran → BeginsOne fault command between new → RunsFront all old new
stopped_in all ran rest more old between new command Run here next before one = stopped_after all ran more old between new command next before one
stopped_in all ran rest more old between new command Memory here next before (inl none) = (ran, rest, here, none ∙ before)
stopped_in all ran rest more old between new command Memory here next before (inr one) = stopped_after all ran more old between new command next before one
