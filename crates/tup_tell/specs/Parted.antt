-- What becomes of reporters that are told some events (own). It is said of values of any type that tell what they were told and how
-- often they failed.
use Rattle.std.specs.Prelude.{◌≡◌, ◌⊎◌, ℕ, List, [], ◌∷◌, ◌++◌}
use Rattle.tup_path.specs.Count.{Rose}
use Rattle.tup_tell.specs.declared.event.Event.{Event}

-- some values stay, each changed so, and the others leave, each changed otherwise; both are in their order
abbrev pub Part : {T : Type 0} → (T → T → Type 0) → (T → T → Type 0) → List T → List T → List T → Type 0
Part Stays Leaves [] kept left = (kept ≡ []) × (left ≡ [])
Part {T} Stays Leaves (one ∷ more) kept left =
    ((now : T) × (rest : List T) × (kept ≡ now ∷ rest) × Stays one now × Part Stays Leaves more rest left)
    ⊎ ((now : T) × (rest : List T) × (left ≡ now ∷ rest) × Leaves one now × Part Stays Leaves more kept rest)

module _ {T : Type 0} (told : T → List Event) (faults : T → ℕ) (events : List Event) where
  -- a value was told all of the events, and didn't fail
  abbrev pub IsTold : T → T → Type 0
  IsTold old now = (told now ≡ told old ++ events) × (faults now ≡ faults old)

  -- it was told the first of them, and failed at the next
  abbrev pub HasFailed : T → T → Type 0
  HasFailed old now = (first rest : List Event) × (next : Event) × (first ++ next ∷ rest ≡ events) × (told now ≡ told old ++ first) × Rose (faults old) (faults now)

  -- it was told the first of them, and didn't fail
  abbrev pub IsToldSome : T → T → Type 0
  IsToldSome old now = (first rest : List Event) × (first ++ rest ≡ events) × (told now ≡ told old ++ first) × (faults now ≡ faults old)

  -- each value was told all, and stays, but for those that failed
  abbrev pub AreTold : List T → List T → List T → Type 0
  AreTold old kept failed = Part IsTold HasFailed old kept failed

  -- There was no memory at one of the values: those before it were told, it was perhaps told some of the events, and those behind it
  -- are as they were.
  pub record AreCutOff (old new failed : List T) : Type 0 where
    pub before : List T
    pub after : List T
    pub kept : List T
    pub old_are : old ≡ before ++ after
    pub told_before : AreTold before kept failed
    pub others : (new ≡ kept ++ after) ⊎ ((one now : T) × (more : List T) × (after ≡ one ∷ more) × (new ≡ kept ++ now ∷ more) × IsToldSome one now)
