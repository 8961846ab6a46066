-- What a text with percent flags expands to.
-- Of what is refused the first from the left is named; too long is the place at which the text so far passes the
-- limit, for which a group counts nothing.
use Rattle.std.specs.Prelude.{ℕ, List, map, Result}
use Rattle.tup_rule.specs.declared.draft.Piece.{Piece}
use Rattle.tup_flags.specs.declared.answer.Answer.{Answer}
use Rattle.tup_flags.specs.declared.fault.FlagFault.{FlagFault}
use Rattle.tup_flags.specs.declared.parts.FlagParts.{FlagParts}
use Rattle.tup_flags.specs.Answer.{with_values}
use Rattle.tup_flags.specs.Part.{parts}
use Rattle.tup_flags.specs.Flag.{value}
use Rattle.tup_flags.specs.Pieces.{outcome}

-- each part of the text in turn stands for its value
abbrev pub values : FlagParts → List ℕ → List (Result Piece FlagFault)
values given text = map (value given) (parts text)

-- what a text expands to
abbrev pub expand : FlagParts → List ℕ → Result (List Piece) FlagFault
expand given text = outcome (values given text)

-- what an answer comes to with the rest of a text
abbrev pub with_rest : FlagParts → Answer → List ℕ → Result (List Piece) FlagFault
with_rest given answer rest = with_values answer (values given rest)
