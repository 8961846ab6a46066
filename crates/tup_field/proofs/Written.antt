-- How one value is written behind another.
use Rattle.std.proofs.Common.{◌≡◌, List, ℕ, ◌++◌, Result, Ok, Err, inl, inr, ap, ◌∙◌, append_assoc}
use Rattle.std.specs.Prelude.{MatchResult}
use Rattle.tup_field.specs.declared.fault.RecordFault.{RecordFault}
use Rattle.tup_field.specs.Format.{Format, IsUnwritten}
use Rattle.tup_field.specs.Parts.{◌&◌}

-- what a write tells
abbrev pub IsWritten : {A : Type 0} → Format A → A → List ℕ → List ℕ → Result (Unit {0}) RecordFault → Type 0
IsWritten f a old new result = MatchResult result (λ _. f.Fits a × (new ≡ old ++ f.spelling a)) (IsUnwritten (f.Writable a))

refused : {A B : Type 0} (f : Format A) (g : Format B) (a : A) (b : B) (fault : RecordFault) → IsUnwritten (g.Writable b) fault → IsUnwritten ((f & g).Writable (a, b)) fault
refused f g a b fault (inl memory) = inl memory
refused f g a b fault (inr bad) = inr (bad.0, λ fits. bad.1 fits.1)

pub written_then : {A B : Type 0} (f : Format A) (g : Format B) (a : A) (b : B) (old mid new : List ℕ) (result : Result (Unit {0}) RecordFault) → f.Fits a × (mid ≡ old ++ f.spelling a)
    → IsWritten g b mid new result → IsWritten (f & g) (a, b) old new result
written_then f g a b old mid new (Ok done) first second = ((first.0, second.0), second.1 ∙ ap (λ t. t ++ g.spelling b) first.1 ∙ append_assoc old (f.spelling a) (g.spelling b))
written_then f g a b old mid new (Err fault) first second = refused f g a b fault second
