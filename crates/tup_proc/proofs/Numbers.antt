-- Digits that spell no number and no stamp.
use Rattle.std.proofs.Common.{◌≡◌, ◌≢◌, ℕ, ◌<◌, true, false, not, List, Result, Ok, Err, IsUtf8, bytes_eq, refl, ap, sym, subst, ◌∙◌, arith}
use Rattle.std.proofs.lemmas.Fmt.{IsAscii-decimal, parse-decimal, decimal_injective}
use Rattle.std.proofs.lemmas.Slice.Eq.{bytes_eq-Decides}
use Rattle.std.proofs.lemmas.Str.{IsUtf8-from_ascii}
use Rattle.std.specs.Fmt.{decimal}
use Rattle.std.specs.Result.{MatchResult, is_err}
use Rattle.std.specs.Str.Parse.{ParsesUnsigned}
use Rattle.hex.specs.Hex.{decode_sized, IsBytes}
use Rattle.hex.specs.declared.error.FromHexError.{FromHexError}
use Rattle.hex.proofs.HexLemmas.{decode_sized-encode_lower, decode_sized-ok, decode_sized-twice, decode_of-ok}
use Rattle.tup_stamp.specs.Hex.{hex_text}
use Rattle.tup_stamp.specs.declared.Stamp.{Stamp}
use Rattle.tup_proc.specs.Log.{IsDigest}
use Rattle.tup_proc.specs.Reading.{IsNoDigest}
use Rattle.tup_proc.proofs.Marks.{encode_lower-hex_text}

abbrev pub IsNoNumber : List ℕ → Type 0
IsNoNumber digits = (number : ℕ) → number < 4294967296 → digits ≢ decimal number

pub no_text : (digits : List ℕ) → ¬ IsUtf8 digits → IsNoNumber digits
no_text digits bad number small same = bad (subst IsUtf8 (sym same) (IsUtf8-from_ascii (decimal number) (IsAscii-decimal number (omega arith))))

pub parsed_is : {E : Type 0} (digits text : List ℕ) (number : ℕ) (r : Result ℕ E) → text ≡ digits → ParsesUnsigned 32 10 text r → number < 4294967296 → digits ≡ decimal number → r ≡ Ok number
parsed_is {E = E} digits text number r is parsed small same = parse-decimal {E = E} 32 number text r (omega arith) (omega arith) (is ∙ same) parsed

pub no_numeral : {E : Type 0} (digits text : List ℕ) (fault : E) (r : Result ℕ E) → text ≡ digits → ParsesUnsigned 32 10 text r → r ≡ Err fault → IsNoNumber digits
no_numeral digits text fault r is parsed e number small same = let found = parsed_is digits text number r is parsed small same in absurd (cc)

pub other_numeral : {E : Type 0} (digits text : List ℕ) (found : ℕ) (r : Result ℕ E) → text ≡ digits → ParsesUnsigned 32 10 text r → r ≡ Ok found → decimal found ≢ digits → IsNoNumber digits
other_numeral digits text found r is parsed e apart number small same =
    let there : r ≡ Ok number = parsed_is digits text number r is parsed small same in
    let alike : found ≡ number = cc in
    apart (ap decimal alike ∙ sym same)

pub decodes : (digits : List ℕ) (stamp : Stamp) → IsDigest stamp → digits ≡ hex_text stamp.0 → decode_sized digits 32 ≡ Ok stamp.0
decodes digits stamp is same =
    ap (λ text. decode_sized text 32) (same ∙ sym (encode_lower-hex_text stamp.0)) ∙ decode_sized-encode_lower stamp.0 32 is.size is.bytes

abbrev Decodes : List ℕ → ℕ → List ℕ → Result (Unit {0}) FromHexError → Type 0
Decodes digits n out r = MatchResult (decode_sized digits n) (λ bytes. (r ≡ Ok tt) × (out ≡ bytes)) (λ e. r ≡ Err e)

decoded : (digits out : List ℕ) (n : ℕ) (r : Result (Unit {0}) FromHexError) (stamp : Stamp) → Decodes digits n out r → n ≡ 32 → IsDigest stamp → digits ≡ hex_text stamp.0 → (r ≡ Ok tt) × (out ≡ stamp.0)
decoded digits out n r stamp told size is same =
    let there : decode_sized digits n ≡ Ok stamp.0 = ap (decode_sized digits) size ∙ decodes digits stamp is same in
    subst (λ d. MatchResult d (λ bytes. (r ≡ Ok tt) × (out ≡ bytes)) (λ e. r ≡ Err e)) there told

pub decoded_bytes : (digits out : List ℕ) (n : ℕ) (r : Result (Unit {0}) FromHexError) → Decodes digits n out r → is_err r ≡ false → IsBytes out
decoded_bytes digits out n r told fine = go (decode_sized digits n) refl told
  where
    go : (d : Result (List ℕ) FromHexError) → decode_sized digits n ≡ d → MatchResult d (λ bytes. (r ≡ Ok tt) × (out ≡ bytes)) (λ e. r ≡ Err e) → IsBytes out
    go (Ok bytes) e found =
        let size = decode_sized-ok digits n bytes e in
        subst IsBytes (sym found.1) (decode_of-ok digits bytes (sym (decode_sized-twice digits n size) ∙ e)).3
    go (Err fault) e found = let bad : is_err r ≡ true = ap is_err found in absurd (cc)

pub not_decoded : (digits out : List ℕ) (n : ℕ) (r : Result (Unit {0}) FromHexError) → Decodes digits n out r → n ≡ 32 → is_err r ≡ true → IsNoDigest digits
not_decoded digits out n r told size bad stamp is same =
    let fine : is_err r ≡ false = ap is_err (decoded digits out n r stamp told size is same).0 in absurd (cc)

pub other_digits : (digits out : List ℕ) (n : ℕ) (r : Result (Unit {0}) FromHexError) → Decodes digits n out r → n ≡ 32 → hex_text out ≢ digits → IsNoDigest digits
other_digits digits out n r told size apart stamp is same =
    apart (ap hex_text (decoded digits out n r stamp told size is same).1 ∙ sym same)

pub apart : (x y : List ℕ) → not (bytes_eq x y) ≡ true → x ≢ y
apart x y e same = let t : bytes_eq x y ≡ true = (bytes_eq-Decides x y).1 same in absurd (let u : not (bytes_eq x y) ≡ false = ap not t in cc)

pub alike : (x y : List ℕ) → not (bytes_eq x y) ≡ false → x ≡ y
alike x y e =
    (elim (bytes_eq x y) as (λ t. bytes_eq x y ≡ t → not t ≡ false → x ≡ y) [
      | true ↦ λ t n. (bytes_eq-Decides x y).0 t
      | false ↦ λ t n. absurd (cc)
    ]) refl e

pub too_large : (digits : List ℕ) (number : ℕ) → number < 4294967296 → digits ≡ decimal number → (number < 256 → ⊥) → (status : ℕ) → status < 256 → digits ≢ decimal status
too_large digits number fits is large status small same =
    let alike : number ≡ status = decimal_injective number status (omega (arith, fits)) (omega (arith, small)) (sym is ∙ same) in
    large (subst (λ n. n < 256) (sym alike) small)
