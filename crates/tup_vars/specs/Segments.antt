-- The segments of a text: bytes as they stand, and names in brackets. The form of the names is the manual's; that a
-- bracket without its end is no text, and where a name ends, is own.
use Rattle.std.specs.Prelude.{◌≡◌, ◌≢◌, ℕ, Bool, false, ◌&&◌, ◌||◌, ◌==◌, if◌then◌else◌, List, [], ◌∷◌, ◌++◌, drop, All, Option, None, Some, option_map, ◌+◌, slice_index}
use Rattle.std.specs.List.{slice_split}
use Rattle.tup_lex.specs.Word.{begins_with}

-- one segment of a text
pub data Segment : Type 0 where
  -- bytes that stand for themselves
  Plain : List ℕ → Segment
  -- what stands between `$(` and the next `)`
  Variable : List ℕ → Segment
  -- what stands between `@(` and the next `)`
  Setting : List ℕ → Segment
  -- a bracket that isn't closed, and all behind it
  Open : List ℕ → Segment

-- `$` or `@`
abbrev pub is_mark : ℕ → Bool
is_mark byte = byte == 36 || byte == 64

-- whether the last byte of a text is a mark
abbrev pub ends_in_mark : List ℕ → Bool
ends_in_mark [] = false
ends_in_mark (byte ∷ []) = is_mark byte
ends_in_mark (byte ∷ next ∷ more) = ends_in_mark (next ∷ more)

-- what stands before the first `$(` or `@(` of a text, its mark, and what stands behind it
abbrev pub opened : List ℕ → Option (List ℕ × ℕ × List ℕ)
opened [] = None
opened (byte ∷ rest) =
    if is_mark byte && begins_with 40 rest then Some ([], byte, drop 1 rest)
    else option_map (λ (front, mark, name). (byte ∷ front, mark, name)) (opened rest)

-- whether a name begins at a place of a text
abbrev pub opens_at : List ℕ → ℕ → Bool
opens_at text at = is_mark (slice_index text at) && slice_index text (at + 1) == 40

-- the name behind a mark
abbrev pub marked : ℕ → List ℕ → Segment
marked mark name = if mark == 36 then Variable name else Setting name

-- the segments of a part of a text before a closing bracket: the bracket ends the first name that begins there
abbrev pub closed : List ℕ → List Segment
closed part = elim (opened part) [
  | Some (front, mark, name) ↦ Plain front ∷ marked mark name ∷ []
  | None ↦ Plain part ∷ Plain (41 ∷ []) ∷ []
]

-- the segments of the part behind the last closing bracket
abbrev pub last : List ℕ → List Segment
last part = elim (opened part) [
  | Some (front, mark, name) ↦ Plain front ∷ Open (mark ∷ 40 ∷ name) ∷ []
  | None ↦ Plain part ∷ []
]

-- those of the parts between closing brackets
abbrev pub segments_of : List (List ℕ) → List Segment
segments_of [] = []
segments_of (part ∷ []) = last part
segments_of (part ∷ next ∷ more) = closed part ++ segments_of (next ∷ more)

-- the segments of a text, which is cut at its closing brackets
abbrev pub segments : List ℕ → List Segment
segments text = segments_of (slice_split (λ byte. byte == 41) text)

-- the bytes of a segment
abbrev pub spelled : Segment → List ℕ
spelled (Plain bytes) = bytes
spelled (Variable name) = 36 ∷ 40 ∷ name ++ 41 ∷ []
spelled (Setting name) = 64 ∷ 40 ∷ name ++ 41 ∷ []
spelled (Open rest) = rest

-- a text without a closing bracket
abbrev pub HasNoBracket : List ℕ → Type 0
HasNoBracket text = All (λ byte. (byte == 41) ≡ false) text

-- what a segment may be: no name begins in plain bytes, no name holds its closing bracket, and none stands behind an open one
abbrev pub IsSegment : Segment → Type 0
IsSegment (Plain bytes) = opened bytes ≡ None
IsSegment (Variable name) = HasNoBracket name
IsSegment (Setting name) = HasNoBracket name
IsSegment (Open rest) = HasNoBracket rest × (opened rest ≢ None)
