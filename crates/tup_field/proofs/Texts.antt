-- How a text is written and read.
use Rattle.std.proofs.Common.{◌≡◌, ℕ, ◌^◌, ◌<◌, true, false, List, ◌++◌, length, IsUtf8, refl, ap, subst, ◌∙◌, append_assoc}
use Rattle.std.specs.Str.{is_utf8}
use Rattle.std.proofs.lemmas.Str.{IsUtf8-from_is_utf8, is_utf8-from_IsUtf8}
use Rattle.tup_field.specs.Parts.{number}
use Rattle.tup_field.specs.Values.{text}

pub text_written : (t old mid new : List ℕ) (n : ℕ) → IsUtf8 t → n ≡ length t → number.Fits n → mid ≡ old ++ number.spelling n → new ≡ mid ++ t → text.Fits t × (new ≡ old ++ text.spelling t)
text_written t old mid new n is e fits first second =
    ((subst (λ m. m < 2 ^ 32) e fits, is_utf8-from_IsUtf8 t is), second ∙ ap (λ m. m ++ t) first ∙ append_assoc old (number.spelling n) t ∙ ap (λ m. old ++ (number.spelling m ++ t)) e)

pub not_utf8 : (t : List ℕ) → ¬ IsUtf8 t → is_utf8 t ≡ false
not_utf8 t differs =
    (elim (is_utf8 t) as (λ b. is_utf8 t ≡ b → b ≡ false) [
      | true ↦ λ e. absurd (differs (IsUtf8-from_is_utf8 t e))
      | false ↦ λ e. refl
    ]) refl

pub utf8 : (t : List ℕ) → IsUtf8 t → is_utf8 t ≡ true
utf8 t is = is_utf8-from_IsUtf8 t is
