-- The kinds of line, from the manual; where a first word ends is own. What a first word or a whole line tells comes before
-- what its first byte tells, and an assignment comes last.
use Rattle.std.specs.Prelude.{ℕ, Bool, true, false, not, if◌then◌else◌, List, take, drop, codes, bytes_eq, Some, None}
use Rattle.std.specs.List.{prefix_len}
use Rattle.tup_lex.specs.Blank.{is_blank, trim}
use Rattle.tup_vars.specs.Config.{around, behind}
use Rattle.tup_tupfile.specs.declared.kind.LineKind.{LineKind}
use Rattle.tup_tupfile.specs.declared.kind.LineKind.TheVariants as slices

-- what a line is, with what it holds
pub data Kind : Type 0 where
  -- `ifeq`, or `ifneq`, with the text behind it
  Compares : Bool → List ℕ → Kind
  -- `ifdef`, or `ifndef`, with the text behind it
  Looks : Bool → List ℕ → Kind
  Else : Kind
  Endif : Kind
  Complains : List ℕ → Kind
  IncludesRules : Kind
  Includes : List ℕ → Kind
  -- a rule, behind its colon
  Rules : List ℕ → Kind
  -- a macro line, behind its `!`: what stands before the first `=`, and behind it
  Defines : List ℕ → List ℕ → Kind
  -- an assignment: what stands before the first `=`, and behind it
  Sets : List ℕ → List ℕ → Kind
  Unknown : Kind

-- the first word of a trimmed line, up to a blank
abbrev pub first_word : List ℕ → List ℕ
first_word line = take (prefix_len (λ byte. not (is_blank byte)) line) line

-- what stands behind the first word
abbrev pub behind_word : List ℕ → List ℕ
behind_word line = trim (drop (prefix_len (λ byte. not (is_blank byte)) line) line)

-- whether the first word of a line is this one
abbrev pub says : List ℕ → List ℕ → Bool
says line word = bytes_eq (first_word line) word

-- a line that is cut at its first `=`
abbrev pub cut_line : List ℕ → (List ℕ → List ℕ → Kind) → Kind
cut_line line kind = elim (around 61 line) [ Some (left, right) ↦ kind left right | None ↦ Unknown ]

-- the kind of a line by its first byte, or by its `=`
abbrev pub marked_kind : List ℕ → Kind
marked_kind line =
    elim (behind (codes ":") line) [
      | Some rule ↦ Rules rule
      | None ↦ elim (behind (codes "!") line) [ Some body ↦ cut_line body Defines | None ↦ cut_line line Sets ]
    ]

-- the kind of a line that no first word tells
abbrev pub whole_kind : List ℕ → Kind
whole_kind line =
    if bytes_eq line (codes "else") then Else
    else if bytes_eq line (codes "endif") then Endif
    else if bytes_eq line (codes "include_rules") then IncludesRules
    else marked_kind line

-- the kind of a trimmed line
abbrev pub kind_of : List ℕ → Kind
kind_of line =
    if says line (codes "ifeq") then Compares true (behind_word line)
    else if says line (codes "ifneq") then Compares false (behind_word line)
    else if says line (codes "ifdef") then Looks true (behind_word line)
    else if says line (codes "ifndef") then Looks false (behind_word line)
    else if says line (codes "error") then Complains (behind_word line)
    else if says line (codes "include") then Includes (behind_word line)
    else whole_kind line

-- what a line's slices hold
abbrev pub in_bytes : LineKind → Kind
in_bytes (slices.Compares alike text) = Compares alike text.now
in_bytes (slices.Looks wanted text) = Looks wanted text.now
in_bytes slices.Else = Else
in_bytes slices.Endif = Endif
in_bytes (slices.Complains text) = Complains text.now
in_bytes slices.IncludesRules = IncludesRules
in_bytes (slices.Includes text) = Includes text.now
in_bytes (slices.Rules text) = Rules text.now
in_bytes (slices.Defines name body) = Defines name.now body.now
in_bytes (slices.Sets name value) = Sets name.now value.now
in_bytes slices.Unknown = Unknown
