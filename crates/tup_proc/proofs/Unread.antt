-- Bytes that spell no line.
use Rattle.std.proofs.Common.{◌≡◌, ◌≢◌, ℕ, ◌<◌, Bool, true, false, ◌↔◌, IsTrue, eqb, List, [], ◌∷◌, ◌++◌, refl, sym, subst, ◌∙◌, arith}
use Rattle.std.proofs.lemmas.List.Elements.{All-nil, All-cons}
use Rattle.std.specs.Fmt.{decimal}
use Rattle.tup_stamp.specs.Hex.{hex_text}
use Rattle.tup_stamp.specs.declared.Stamp.{Stamp}
use Rattle.tup_proc.specs.Log.{spelling_of, IsLine, IsLineText, IsDigest}
use Rattle.tup_proc.specs.Reading.{Lacks, IsCut, IsUncut, IsNoDigest}
use Rattle.tup_proc.specs.declared.line.LogLine.{LogLine}
use Rattle.tup_proc.specs.declared.line.LogLine.TheVariants.{Read, Absent, Wrote, End}
use Rattle.tup_proc.proofs.Marks.{other_first, cut_at, decimal_lacks, hex_lacks}
use Rattle.tup_proc.proofs.Numbers.{IsNoNumber}

abbrev pub IsNoLine : List ℕ → Type 0
IsNoLine bytes = (line : LogLine) → IsLine line → bytes ≢ spelling_of line

-- ---- by the fields
no_read : (said : List ℕ) → ((stamp : Stamp) (text : List ℕ) → IsDigest stamp → IsLineText text → said ≢ hex_text stamp.0 ++ 32 ∷ text) → IsNoLine (82 ∷ 32 ∷ said)
no_read said none (Read stamp text) is e = none stamp text is.0 is.1 (cc)
no_read said none (Absent text) is e = absurd (other_first 82 65 _ _ refl e)
no_read said none (Wrote file text) is e = absurd (other_first 82 87 _ _ refl e)
no_read said none (End status) is e = absurd (other_first 82 69 _ _ refl e)

no_wrote : (said : List ℕ) → ((file : ℕ) (text : List ℕ) → file < 4294967296 → IsLineText text → said ≢ decimal file ++ 32 ∷ text) → IsNoLine (87 ∷ 32 ∷ said)
no_wrote said none (Read stamp text) is e = absurd (other_first 87 82 _ _ refl e)
no_wrote said none (Absent text) is e = absurd (other_first 87 65 _ _ refl e)
no_wrote said none (Wrote file text) is e = none file text is.0 is.1 (cc)
no_wrote said none (End status) is e = absurd (other_first 87 69 _ _ refl e)

pub no_end : (said : List ℕ) → ((status : ℕ) → status < 256 → said ≢ decimal status) → IsNoLine (69 ∷ 32 ∷ said)
no_end said none (Read stamp text) is e = absurd (other_first 69 82 _ _ refl e)
no_end said none (Absent text) is e = absurd (other_first 69 65 _ _ refl e)
no_end said none (Wrote file text) is e = absurd (other_first 69 87 _ _ refl e)
no_end said none (End status) is e = none status is (cc)

digest_lacks : (stamp : Stamp) → IsDigest stamp → Lacks 32 (hex_text stamp.0)
digest_lacks stamp is = hex_lacks 32 stamp.0 is.bytes refl

number_lacks : (number : ℕ) → number < 4294967296 → Lacks 32 (decimal number)
number_lacks number small = decimal_lacks 32 number (omega arith) (omega arith)

pub read_uncut : (said : List ℕ) → IsUncut 32 said → IsNoLine (82 ∷ 32 ∷ said)
read_uncut said none = no_read said (λ stamp text is fits e. none (hex_text stamp.0) text e)

pub wrote_uncut : (said : List ℕ) → IsUncut 32 said → IsNoLine (87 ∷ 32 ∷ said)
wrote_uncut said none = no_wrote said (λ file text is fits e. none (decimal file) text e)

pub read_digits : (said digits name : List ℕ) → IsCut 32 said digits name → IsNoDigest digits → IsNoLine (82 ∷ 32 ∷ said)
read_digits said digits name at none = no_read said (λ stamp text is fits e.
    none stamp is (cut_at 32 digits (hex_text stamp.0) name text at.first (digest_lacks stamp is) (sym at.is ∙ e)).0)

pub wrote_digits : (said digits name : List ℕ) → IsCut 32 said digits name → IsNoNumber digits → IsNoLine (87 ∷ 32 ∷ said)
wrote_digits said digits name at none = no_wrote said (λ file text small fits e.
    none file small (cut_at 32 digits (decimal file) name text at.first (number_lacks file small) (sym at.is ∙ e)).0)

pub read_name : (said digits name : List ℕ) → IsCut 32 said digits name → (IsLineText name → ⊥) → IsNoLine (82 ∷ 32 ∷ said)
read_name said digits name at none = no_read said (λ stamp text is fits e.
    none (subst IsLineText (sym (cut_at 32 digits (hex_text stamp.0) name text at.first (digest_lacks stamp is) (sym at.is ∙ e)).1) fits))

pub wrote_name : (said digits name : List ℕ) → IsCut 32 said digits name → (IsLineText name → ⊥) → IsNoLine (87 ∷ 32 ∷ said)
wrote_name said digits name at none = no_wrote said (λ file text small fits e.
    none (subst IsLineText (sym (cut_at 32 digits (decimal file) name text at.first (number_lacks file small) (sym at.is ∙ e)).1) fits))

-- ---- by the mark
mark_lacks : (mark : ℕ) → eqb mark 32 ≡ false → Lacks 32 (mark ∷ [])
mark_lacks mark other = All-cons (λ b. eqb b 32 ≡ false) mark [] other (All-nil (λ b. eqb b 32 ≡ false))

-- the marks of lines
pub line_uncut : (bytes : List ℕ) → IsUncut 32 bytes → IsNoLine bytes
line_uncut bytes none (Read stamp text) is e = none (82 ∷ []) (hex_text stamp.0 ++ 32 ∷ text) e
line_uncut bytes none (Absent text) is e = none (65 ∷ []) text e
line_uncut bytes none (Wrote file text) is e = none (87 ∷ []) (decimal file ++ 32 ∷ text) e
line_uncut bytes none (End status) is e = none (69 ∷ []) (decimal status) e

pub other_mark : (bytes mark said : List ℕ) → IsCut 32 bytes mark said → mark ≢ 82 ∷ [] → mark ≢ 65 ∷ [] → mark ≢ 87 ∷ [] → mark ≢ 69 ∷ [] → IsNoLine bytes
other_mark bytes mark said at r a w n (Read stamp text) is e = r (cut_at 32 mark (82 ∷ []) said (hex_text stamp.0 ++ 32 ∷ text) at.first (mark_lacks 82 refl) (sym at.is ∙ e)).0
other_mark bytes mark said at r a w n (Absent text) is e = a (cut_at 32 mark (65 ∷ []) said text at.first (mark_lacks 65 refl) (sym at.is ∙ e)).0
other_mark bytes mark said at r a w n (Wrote file text) is e = w (cut_at 32 mark (87 ∷ []) said (decimal file ++ 32 ∷ text) at.first (mark_lacks 87 refl) (sym at.is ∙ e)).0
other_mark bytes mark said at r a w n (End status) is e = n (cut_at 32 mark (69 ∷ []) said (decimal status) at.first (mark_lacks 69 refl) (sym at.is ∙ e)).0

pub unmarked : (front : List ℕ) (mark : ℕ) (test : Bool) → (IsTrue test ↔ (front ≡ mark ∷ [])) → test ≡ false → front ≢ mark ∷ []
unmarked front mark true decides fails same = absurd (cc)
unmarked front mark false decides fails same = let is : false ≡ true = decides.1 same in absurd (cc)
