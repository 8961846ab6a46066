-- What a text comes to from the middle on: pieces that are there, the text that goes on behind them, the room that is left, and the values still to come.
use Rattle.std.proofs.Common.{◌≡◌, ℕ, ◌+◌, ◌<◌, ◌≤◌, nat_lt, true, if◌then◌else◌, List, [], ◌∷◌, ◌++◌, length, map, Result, Ok, Err, refl, ap, sym, ◌∙◌, append_assoc, append-nil, arith}
use Rattle.std.proofs.lemmas.Bool.{le-ltb}
use Rattle.std.proofs.lemmas.Bool.Decides.{nat_tests}
use Rattle.tup_rule.specs.declared.draft.Piece.{Piece}
use Rattle.tup_rule.specs.declared.draft.Piece.TheVariants.{Text, Group}
use Rattle.tup_flags.specs.declared.fault.FlagFault.{FlagFault}
use Rattle.tup_flags.specs.declared.fault.FlagFault.TheVariants.{TooLong}
use Rattle.tup_flags.specs.declared.parts.FlagParts.{FlagParts}
use Rattle.tup_flags.specs.Part.{Part, Byte}
use Rattle.tup_flags.specs.Flag.{value}
use Rattle.tup_flags.specs.Pieces.{total, onto, joined, granted, refusal, unless_refused, onward}

abbrev pub Values : Type 0
Values = List (Result Piece FlagFault)

-- a text onto a text
pub onto-onto : (text next : List ℕ) (pieces : List Piece) → onto text (onto next pieces) ≡ onto (text ++ next) pieces
onto-onto [] next pieces = refl
onto-onto (b ∷ text) [] pieces = ap (λ t. onto t pieces) (sym (append-nil (b ∷ text)))
onto-onto (b ∷ text) (d ∷ next) [] = refl
onto-onto (b ∷ text) (d ∷ next) (Text more ∷ pieces) = ap (λ t. Text t ∷ pieces) (sym (append_assoc (b ∷ text) (d ∷ next) more))
onto-onto (b ∷ text) (d ∷ next) (Group at ∷ pieces) = refl

same-test : (a b c d : ℕ) → a + c ≡ b → nat_lt b (c + d) ≡ nat_lt a d
same-test a b c d e = grind (arith, nat_tests)

-- a text that there is room for
pub onward-text : (pieces : List Piece) (text next : List ℕ) (room left : ℕ) (values : Values) → left + length next ≡ room → onward pieces text room (Ok (Text next) ∷ values) ≡ onward pieces (text ++ next) left values
onward-text pieces text next room left values e =
    ap (λ b. if b then Err TooLong else unless_refused (pieces ++ onto text (onto next (joined (granted values)))) (refusal values)) (same-test left room (length next) (total (granted values)) e)
    ∙ ap (λ ps. if nat_lt left (total (granted values)) then Err TooLong else unless_refused (pieces ++ ps) (refusal values)) (onto-onto text next (joined (granted values)))

-- at the end
pub onward-end : (pieces : List Piece) (text : List ℕ) (room : ℕ) → onward pieces text room [] ≡ Ok (pieces ++ onto text [])
onward-end pieces text room = ap (λ b. if b then Err TooLong else Ok (pieces ++ onto text [])) (le-ltb room 0 (omega arith))

-- a text whose bytes stand for themselves
pub onward-bytes : (given : FlagParts) (pieces : List Piece) (text front : List ℕ) (room left : ℕ) (more : List Part) → left + length front ≡ room
    → onward pieces text room (map (value given) (map (λ b. Byte b) front ++ more)) ≡ onward pieces (text ++ front) left (map (value given) more)
onward-bytes given pieces text [] room left more e =
    ap (λ n. onward pieces text n (map (value given) more)) (omega arith) ∙ ap (λ t. onward pieces t left (map (value given) more)) (sym (append-nil text))
onward-bytes given pieces text (b ∷ front) room left more e =
    onward-text pieces text (b ∷ []) room (left + length front) (map (value given) (map (λ b. Byte b) front ++ more)) (omega arith)
    ∙ onward-bytes given pieces (text ++ b ∷ []) front (left + length front) left more refl
    ∙ ap (λ t. onward pieces t left (map (value given) more)) (append_assoc text (b ∷ []) front)

-- and for which there is no room
total-bytes : (given : FlagParts) (front : List ℕ) (more : List Part) → length front ≤ total (granted (map (value given) (map (λ b. Byte b) front ++ more)))
total-bytes given [] more = omega arith
total-bytes given (b ∷ front) more = let rest = total-bytes given front more in omega arith

pub onward-bytes-long : (given : FlagParts) (pieces : List Piece) (text front : List ℕ) (room : ℕ) (more : List Part) → room < length front
    → onward pieces text room (map (value given) (map (λ b. Byte b) front ++ more)) ≡ Err TooLong
onward-bytes-long given pieces text front room more long =
    let values = map (value given) (map (λ b. Byte b) front ++ more) in
    let over : nat_lt room (total (granted values)) ≡ true = le-over room (length front) (total (granted values)) long (total-bytes given front more) in
    ap (λ b. if b then Err TooLong else unless_refused (pieces ++ onto text (joined (granted values))) (refusal values)) over
  where
    le-over : (a b c : ℕ) → a < b → b ≤ c → nat_lt a c ≡ true
    le-over a b c h l = grind (arith, nat_tests)
