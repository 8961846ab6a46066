-- A format over all of some bytes: what is taken, what is cut off and what is left.
use Rattle.std.proofs.Common.{◌≡◌, ◌≢◌, ℕ, List, [], ◌∷◌, ◌++◌, Result, Ok, Err, refl, sym, ap, ◌∙◌, append-nil}
use Rattle.tup_field.specs.declared.fault.RecordFault.{RecordFault}
use Rattle.tup_field.specs.declared.fault.RecordFault.TheVariants.{Short, BadKind, BadField, Trailing, Memory}
use Rattle.tup_field.specs.Format.{Read, Format, IsBytes, carry, IsExact, ◌>>=◌}
use Rattle.tup_field.specs.Steps.{bind_ok, ok_is}
use Rattle.tup_record.specs.Reading.{ended, whole}

is_short : (fault : RecordFault) → ¬ (fault ≢ Short) → fault ≡ Short
is_short Short twice = refl
is_short BadKind twice = absurd (twice (λ e. cc))
is_short BadField twice = absurd (twice (λ e. cc))
is_short Trailing twice = absurd (twice (λ e. cc))
is_short Memory twice = absurd (twice (λ e. cc))

no_end : (front more : List ℕ) → front ++ more ≡ [] → more ≡ []
no_end [] more e = e
no_end (b ∷ front) more e = absurd (cc)

abbrev taken : {A : Type 0} → A × List ℕ → Read A
taken x = Ok x

abbrev refused : {A : Type 0} → RecordFault → Read A
refused fault = Err fault

module _ {A : Type 0} (f : Format A) (exact : IsExact f) where
  reads : (a : A) → f.Fits a → f.reading (f.spelling a) ≡ Ok (a, [])
  reads a fits = ap f.reading (sym (append-nil (f.spelling a))) ∙ exact.again a [] fits

  cut_ok : (a : A) (x : A × List ℕ) (front more : List ℕ) → more ≢ [] → f.reading (front ++ more) ≡ Ok (a, []) → f.reading front ≡ Ok x → ⊥
  cut_ok a x front more some all e =
      let on : f.reading (front ++ more) ≡ carry more (f.reading front) = exact.stands front more (λ short. let no : taken x ≡ refused Short = sym e ∙ short in cc) in
      let same : taken (x.0, x.1 ++ more) ≡ taken (a, []) = sym (ap (carry more) e) ∙ sym on ∙ all in
      some (no_end x.1 more (ap (λ (y : A × List ℕ). y.1) (ok_is (x.0, x.1 ++ more) (a, []) same)))

  cut_err : (a : A) (fault : RecordFault) (front more : List ℕ) → f.reading (front ++ more) ≡ Ok (a, []) → f.reading front ≡ Err fault → fault ≡ Short
  cut_err a fault front more all e = is_short fault (λ other.
      let on : f.reading (front ++ more) ≡ carry more (f.reading front) = exact.stands front more (λ short. let no : refused {A = A} fault ≡ refused Short = sym e ∙ short in other (cc)) in
      let no : refused fault ≡ taken (a, []) = sym (ap (carry more) e) ∙ sym on ∙ all in cc)

  -- a spelling that is cut off is short
  cut : (a : A) (front more : List ℕ) → f.Fits a → more ≢ [] → f.spelling a ≡ front ++ more → f.reading front ≡ Err Short
  cut a front more fits some e =
      let all : f.reading (front ++ more) ≡ Ok (a, []) = ap f.reading (sym e) ∙ reads a fits in
      (elim (f.reading front) as (λ r. f.reading front ≡ r → r ≡ Err Short) [
        | Ok x ↦ λ r. absurd (cut_ok a x front more some all r)
        | Err fault ↦ λ r. ap (λ d. Err d) (cut_err a fault front more all r)
      ]) refl

  abbrev end : A × List ℕ → Result A RecordFault
  end x = ended x.0 x.1

  pub whole_again : (a : A) → f.Fits a → whole f (f.spelling a) ≡ Ok a
  whole_again a fits = ap (λ r. r >>= λ x. ended x.0 x.1) (reads a fits)

  pub whole_short : (a : A) (front more : List ℕ) → f.Fits a → more ≢ [] → f.spelling a ≡ front ++ more → whole f front ≡ Err Short
  whole_short a front more fits some e = ap (λ r. r >>= λ x. ended x.0 x.1) (cut a front more fits some e)

  pub whole_left : (a : A) (more : List ℕ) → f.Fits a → more ≢ [] → whole f (f.spelling a ++ more) ≡ Err Trailing
  whole_left a [] fits some = absurd (some refl)
  whole_left a (b ∷ more) fits some = ap (λ r. r >>= λ x. ended x.0 x.1) (exact.again a (b ∷ more) fits)

  ended_ok : (x : A × List ℕ) (a : A) → ended x.0 x.1 ≡ Ok a → x ≡ (a, [])
  ended_ok (y, []) a e = let same : y ≡ a = cc in ap (λ (z : A). (z, [])) same
  ended_ok (y, b ∷ rest) a e = absurd (cc)

  pub whole_found : (bytes : List ℕ) (a : A) → IsBytes bytes → whole f bytes ≡ Ok a → f.Fits a × (bytes ≡ f.spelling a)
  whole_found bytes a own e =
      let x = bind_ok (f.reading bytes) (λ x. ended x.0 x.1) a e in
      let all : f.reading bytes ≡ Ok (a, []) = x.1 ∙ ap (λ (y : A × List ℕ). Ok y) (ended_ok x.0 a x.2) in
      let is = exact.found bytes a [] own all in
      (is.0, is.1 ∙ append-nil (f.spelling a))
