-- What a whole text comes to, by what its front does.
use Rattle.std.proofs.Common.{◌≡◌, ◌⊎◌, inl, inr, ℕ, ◌+◌, ◌<◌, List, ◌++◌, length, map, Result, Ok, Err, [], IfOk, IfErr, ap, sym, ◌∙◌}
use Rattle.tup_rule.specs.declared.draft.Piece.{Piece}
use Rattle.tup_flags.specs.declared.fault.FlagFault.{FlagFault}
use Rattle.tup_flags.specs.declared.fault.FlagFault.TheVariants.{Memory, TooLong}
use Rattle.tup_flags.specs.declared.parts.FlagParts.{FlagParts}
use Rattle.tup_flags.specs.Part.{parts}
use Rattle.tup_flags.specs.Flag.{value}
use Rattle.tup_flags.specs.Pieces.{onto, onward}
use Rattle.tup_flags.specs.Expansion.{values}
use Rattle.tup_flags.proofs.Marks.{Lacks, bytes-before}
use Rattle.tup_flags.proofs.Onward.{onward-bytes, onward-bytes-long, onward-end}

-- bytes in front that stand for themselves
pub front-in : (given : FlagParts) (pieces later : List Piece) (text grown front behind rest : List ℕ) (room left : ℕ) → rest ≡ front ++ behind → Lacks 37 front
    → later ≡ pieces → grown ≡ text ++ front → left + length front ≡ room
    → onward pieces text room (values given rest) ≡ onward later grown left (values given behind)
front-in given pieces later text grown front behind rest room left e lacks p t r =
    ap (λ ps. onward pieces text room (map (value given) ps)) (ap parts e ∙ bytes-before front behind lacks)
    ∙ onward-bytes given pieces text front room left (parts behind) r
    ∙ ap (λ ps. onward ps (text ++ front) left (values given behind)) (sym p)
    ∙ ap (λ x. onward later x left (values given behind)) (sym t)

-- and for which there is no room
pub front-long : (given : FlagParts) (pieces : List Piece) (text front behind rest : List ℕ) (room : ℕ) (fault : FlagFault) → rest ≡ front ++ behind → Lacks 37 front
    → (fault ≡ Memory) ⊎ ((fault ≡ TooLong) × (room < length front))
    → (fault ≡ Memory) ⊎ (onward pieces text room (values given rest) ≡ Err fault)
front-long given pieces text front behind rest room fault e lacks (inl memory) = inl memory
front-long given pieces text front behind rest room fault e lacks (inr long) = inr (
    ap (λ ps. onward pieces text room (map (value given) ps)) (ap parts e ∙ bytes-before front behind lacks)
    ∙ onward-bytes-long given pieces text front room (parts behind) long.1 ∙ ap (λ f. Err f) (sym long.0)
    )

-- a refusal that is handed on
pub handed-on : (result whole now : Result (List Piece) FlagFault) (fault : FlagFault) → result ≡ Err fault → whole ≡ now → (fault ≡ Memory) ⊎ (now ≡ Err fault) → (result ≡ Err Memory) ⊎ (result ≡ whole)
handed-on result whole now fault is so (inl memory) = inl (is ∙ ap (λ f. Err f) memory)
handed-on result whole now fault is so (inr refused) = inr (is ∙ sym (so ∙ refused))

-- the end of the text
pub whole-text : (result whole : Result (List Piece) FlagFault) (pieces : List Piece) (text : List ℕ) (room : ℕ) → whole ≡ onward pieces text room []
    → IfOk result (λ all. all ≡ pieces ++ onto text []) → IfErr result (λ fault. fault ≡ Memory) → (result ≡ Err Memory) ⊎ (result ≡ whole)
whole-text (Ok all) whole pieces text room e ok err = inr (ap (λ ps. Ok ps) ok ∙ sym (e ∙ onward-end pieces text room))
whole-text (Err fault) whole pieces text room e ok err = inl (ap (λ f. Err f) err)
