-- The parts of a rule line, from the manual; what is refused is own.
-- Every byte of a line belongs to a part or to the blanks and marks between parts. A blank command is an empty part.
-- A missing arrow is named before a bad brace.
use Rattle.std.specs.Prelude.{ℕ, ◌+◌, ◌-◌, nat_lt, Bool, false, not, ◌&&◌, if◌then◌else◌, List, [], ◌∷◌, length, take, drop, map, count_by, codes, Option, Some, None, option_map, Result, Ok, Err}
use Rattle.std.specs.List.{list_all, list_any, find, prefix_len, position_or_len, before_first, after_first}
use Rattle.bstr.specs.Find.{matches}
use Rattle.tup_lex.specs.Blank.{is_blank, trim}
use Rattle.tup_lex.specs.Word.{Word, span, span_of, words, is_bar, is_foreach, is_bin, is_group, is_gift, is_sound, inner_span}
use Rattle.tup_lex.specs.declared.fault.LexFault.{LexFault}
use Rattle.tup_lex.specs.declared.fault.LexFault.TheVariants.{NoArrow, BadBrace}
use Rattle.tup_lex.specs.declared.parts.Parts.{Parts}
use Rattle.tup_lex.specs.declared.span.Span.{Span}

-- the two places of two numbers, and none of any other count
abbrev pub just_two : List ℕ → Option (ℕ × ℕ)
just_two (first ∷ second ∷ []) = Some (first, second)
just_two _ = None

-- the places of the two arrows `|>` of a rule
abbrev pub arrows : List ℕ → Option (ℕ × ℕ)
arrows text = just_two (matches text (codes "|>") 0)

-- a part of a text that begins at a place, without the blanks at its ends
abbrev pub trimmed_span : ℕ → List ℕ → Span
trimmed_span at part = let from = at + prefix_len is_blank part in span from (from + length (trim part))

-- whether the words of the inputs part begin with `foreach`
abbrev pub says_foreach : List Word → Bool
says_foreach [] = false
says_foreach (first ∷ _) = is_foreach first

-- the words of the inputs part behind a `foreach`
abbrev pub inputs_of : List Word → List Word
inputs_of all = if says_foreach all then drop 1 all else all

-- the words of the outputs part before the first bin or group
abbrev pub made_of : List Word → List Word
made_of all = before_first is_gift all

-- that bin or group and all behind it
abbrev pub gifts_of : List Word → List Word
gifts_of all = drop (position_or_len is_gift all) all

-- whether the words of the inputs part may stand there: one bar at most, and with `foreach` no group before it
abbrev pub inputs_stand : Bool → List Word → Bool
inputs_stand foreach all =
    list_all is_sound all &&
    not (list_any is_bar (after_first is_bar all)) &&
    not (foreach && list_any is_group (before_first is_bar all))

-- whether words are bins and groups alone, one of each at most
abbrev pub may_be_given : List Word → Bool
may_be_given gifts = list_all is_gift gifts && nat_lt (count_by is_group gifts) 2 && nat_lt (count_by is_bin gifts) 2

-- whether the words of the outputs part may: one bar at most, and at the end what they are given to
abbrev pub outputs_stand : List Word → Bool
outputs_stand all =
    list_all is_sound all &&
    not (list_any is_bar (after_first is_bar (made_of all))) &&
    may_be_given (gifts_of all)

-- the parts that a rule has by its words that may stand, the place of its command, and a `foreach`
abbrev pub assembled : Bool → List Word → Span → List Word → Parts
assembled foreach inputs command right =
    let made = made_of right in let gifts = gifts_of right in
    record {
      foreach = foreach;
      inputs = map span_of (before_first is_bar inputs);
      order = map span_of (after_first is_bar inputs);
      command = command;
      outputs = map span_of (before_first is_bar made);
      extra = map span_of (after_first is_bar made);
      group = option_map span_of (find is_group gifts);
      bin = option_map inner_span (find is_bin gifts);
    }

-- the parts that the words of a rule's two sides and the place of its command make, if all may stand where they do
abbrev pub parts_of : List Word → Span → List Word → Result Parts LexFault
parts_of left command right =
    let foreach = says_foreach left in let inputs = inputs_of left in
    if inputs_stand foreach inputs && outputs_stand right then Ok (assembled foreach inputs command right) else Err BadBrace

-- the parts of a rule behind its colon
abbrev pub rule_parts : List ℕ → Result Parts LexFault
rule_parts text = elim (arrows text) [
  | Some (first, second) ↦ parts_of
      (words 0 (take first text))
      (trimmed_span (first + 2) (take (second - (first + 2)) (drop (first + 2) text)))
      (words (second + 2) (drop (second + 2) text))
  | None ↦ Err NoArrow
]
