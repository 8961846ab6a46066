-- What holds of every expansion: how its pieces lie, and that texts expand one behind the other (own).
use Rattle.std.specs.Prelude.{◌≡◌, ◌≢◌, ◌⊎◌, ℕ, ◌+◌, ◌<◌, ◌≤◌, nat_lt, if◌then◌else◌, List, [], ◌∷◌, ◌++◌, length, Result, Ok, Err, ⊤}
use Rattle.tup_rule.specs.declared.draft.Piece.{Piece}
use Rattle.tup_rule.specs.declared.draft.Piece.TheVariants.{Text, Group}
use Rattle.tup_flags.specs.declared.fault.FlagFault.{FlagFault}
use Rattle.tup_flags.specs.declared.fault.FlagFault.TheVariants.{UnknownFlag, TooLong}
use Rattle.tup_flags.specs.declared.parts.FlagParts.{FlagParts}
use Rattle.tup_flags.specs.Pieces.{text_limit, total, joined}
use Rattle.tup_flags.specs.Expansion.{expand}

-- no text is empty, and no two texts stand side by side
abbrev pub IsLeast : List Piece → Type 0
IsLeast [] = ⊤
IsLeast (Group _ ∷ more) = IsLeast more
IsLeast (Text text ∷ []) = 1 ≤ length text
IsLeast (Text text ∷ Group _ ∷ more) = (1 ≤ length text) × IsLeast more
IsLeast (Text _ ∷ Text _ ∷ _) = ⊥

-- one text, or nothing
abbrev pub IsTextAlone : List Piece → Type 0
IsTextAlone [] = ⊤
IsTextAlone (Text _ ∷ []) = ⊤
IsTextAlone (Text _ ∷ _ ∷ _) = ⊥
IsTextAlone (Group _ ∷ _) = ⊥

-- each group stands in a list of so many
abbrev pub StandIn : ℕ → List Piece → Type 0
StandIn count [] = ⊤
StandIn count (Text _ ∷ more) = StandIn count more
StandIn count (Group at ∷ more) = (at < count) × StandIn count more

-- pieces behind one another, if they aren't too long together
abbrev pub together : List Piece → List Piece → Result (List Piece) FlagFault
together front back = if nat_lt text_limit (total front + total back) then Err TooLong else Ok (joined (front ++ back))

-- two texts behind one another, by what each of them expands to
pub record InTurn (given : FlagParts) (front back : List ℕ) : Type 0 where
  -- both expand
  pub expands : (start rest : List Piece) → expand given front ≡ Ok start → expand given back ≡ Ok rest → expand given (front ++ back) ≡ together start rest
  -- the second is refused, or both are too long together
  pub refused : (start : List Piece) (fault : FlagFault) → expand given front ≡ Ok start → expand given back ≡ Err fault → (expand given (front ++ back) ≡ Err fault) ⊎ (expand given (front ++ back) ≡ Err TooLong)
  -- the first is refused; where it ends in an unknown flag, the second may go on with that
  pub stopped : (fault : FlagFault) → fault ≢ UnknownFlag → expand given front ≡ Err fault → expand given (front ++ back) ≡ Err fault
