-- The text of pieces.
use Rattle.std.proofs.Common.{◌≡◌, ℕ, ◌+◌, ◌<◌, List, [], ◌∷◌, ◌++◌, length, get_or, drop, refl, sym, ap, ◌∙◌, append_assoc, append-nil}
use Rattle.std.proofs.lemmas.List.{at_drop_more}
use Rattle.tup_rule.specs.declared.draft.Piece.{Piece}
use Rattle.tup_rule.specs.declared.draft.Piece.TheVariants.{Text, Group}
use Rattle.tup_rule_line.specs.Flagged.{text_of}

text_cons : (piece : Piece) (more : List Piece) → text_of (piece ∷ []) ++ text_of more ≡ text_of (piece ∷ more)
text_cons (Text text) more = ap (λ t. t ++ text_of more) (append-nil text)
text_cons (Group at) more = refl

pub text_more : (text : List ℕ) (pieces : List Piece) (at : ℕ) (piece : Piece) → at < length pieces → piece ≡ get_or pieces at piece
    → (text ++ text_of (piece ∷ [])) ++ text_of (drop (at + 1) pieces) ≡ text ++ text_of (drop at pieces)
text_more text pieces at piece within is =
    append_assoc text (text_of (piece ∷ [])) (text_of (drop (at + 1) pieces))
    ∙ ap (λ t. text ++ t) (text_cons piece (drop (at + 1) pieces) ∙ ap (λ p. text_of (p ∷ drop (at + 1) pieces)) is ∙ sym (at_drop_more text_of pieces at piece within))
