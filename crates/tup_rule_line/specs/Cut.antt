-- Places in a text between its characters (own).
use Rattle.std.specs.Prelude.{ℕ, ◌≤◌, List, All, IfSome}
use Rattle.std.specs.Str.{IsCharBoundary}
use Rattle.tup_lex.specs.declared.span.Span.{Span}
use Rattle.tup_lex.specs.declared.parts.Parts.{Parts}

-- a span begins and ends between characters
pub record IsCut (text : List ℕ) (span : Span) : Type 0 where
  pub order : span.from ≤ span.to
  pub from : IsCharBoundary text span.from
  pub to : IsCharBoundary text span.to

-- and so does each of the parts of a rule
pub record AreCut (text : List ℕ) (parts : Parts) : Type 0 where
  pub inputs : All (IsCut text) parts.inputs
  pub order : All (IsCut text) parts.order
  pub command : IsCut text parts.command
  pub outputs : All (IsCut text) parts.outputs
  pub extra : All (IsCut text) parts.extra
  pub group : IfSome parts.group (IsCut text)
  pub bin : IfSome parts.bin (IsCut text)
