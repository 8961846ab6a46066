-- How an answer goes on by what comes behind it (own).
use Rattle.std.specs.Prelude.{◌≡◌, ◌⊎◌, ℕ, ◌+◌, ◌<◌, List, ◌∷◌, ◌++◌, length, string_bytes, Result, Err}
use Rattle.tup_rule.specs.declared.draft.Piece.{Piece}
use Rattle.tup_flags.specs.declared.answer.Answer.{Answer}
use Rattle.tup_flags.specs.declared.fault.FlagFault.{FlagFault}
use Rattle.tup_flags.specs.declared.fault.FlagFault.TheVariants.{Memory, TooLong}
use Rattle.tup_flags.specs.Pieces.{onward}

-- an answer went on with a text
pub record IsGrown (old new : Answer) (more : List ℕ) : Type 0 where
  pub pieces : new.pieces ≡ old.pieces
  pub text : string_bytes new.text ≡ string_bytes old.text ++ more
  pub room : new.room + length more ≡ old.room

-- why an answer didn't go on with a text: there was no memory, or there is no room for so many bytes
abbrev pub HasNoRoom : Answer → List ℕ → FlagFault → Type 0
HasNoRoom answer text fault = (fault ≡ Memory) ⊎ ((fault ≡ TooLong) × (answer.room < length text))

-- what an answer comes to with values that follow
abbrev pub with_values : Answer → List (Result Piece FlagFault) → Result (List Piece) FlagFault
with_values answer values = onward answer.pieces (string_bytes answer.text) answer.room values

-- an answer took a value: with whatever follows it comes to the same
abbrev pub Took : Answer → Answer → Result Piece FlagFault → Type 0
Took old new value = (more : List (Result Piece FlagFault)) → with_values old (value ∷ more) ≡ with_values new more

-- why an answer didn't take a value: there was no memory, or with whatever follows it comes to this refusal
abbrev pub IsStopped : Answer → Result Piece FlagFault → FlagFault → Type 0
IsStopped answer value fault = (fault ≡ Memory) ⊎ ((more : List (Result Piece FlagFault)) → with_values answer (value ∷ more) ≡ Err fault)
