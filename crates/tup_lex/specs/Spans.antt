-- How the parts of a rule lie in its text (own).
use Rattle.std.specs.Prelude.{ℕ, ◌<◌, ◌≤◌, List, [], ◌∷◌, IfSome, All, ⊤}
use Rattle.tup_lex.specs.declared.parts.Parts.{Parts}
use Rattle.tup_lex.specs.declared.span.Span.{Span}

-- a span that isn't empty lies in a text of so many bytes
abbrev pub IsIn : ℕ → Span → Type 0
IsIn length one = (one.from < one.to) × (one.to ≤ length)

-- spans come one after another, from a place on
abbrev pub InOrder : ℕ → List Span → Type 0
InOrder from [] = ⊤
InOrder from (one ∷ more) = (from ≤ one.from) × InOrder one.to more

-- a list of spans in a text of so many bytes
pub record AreIn (length : ℕ) (spans : List Span) : Type 0 where
  pub within : All (IsIn length) spans
  pub order : InOrder 0 spans

-- the parts of a rule of so many bytes; only the command may be empty
pub record LieIn (length : ℕ) (parts : Parts) : Type 0 where
  pub inputs : AreIn length parts.inputs
  pub order : AreIn length parts.order
  pub command : (parts.command.from ≤ parts.command.to) × (parts.command.to ≤ length)
  pub outputs : AreIn length parts.outputs
  pub extra : AreIn length parts.extra
  pub group : IfSome parts.group (IsIn length)
  pub bin : IfSome parts.bin (IsIn length)
