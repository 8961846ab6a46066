-- What a percent sign begins, by what stands behind it.
use Rattle.std.proofs.Common.{◌≡◌, ◌≢◌, ℕ, suc, ◌<◌, List, [], ◌∷◌, ◌++◌, length, drop, get_or, map, if◌then◌else◌, Some, None, refl, ap, sym, ◌∙◌, append_assoc, append-nil, arith}
use Rattle.std.proofs.lemmas.Bool.{ne_eqb}
use Rattle.std.specs.Option.{option_map_or}
use Rattle.tup_flags.specs.declared.flag.Flag.{Flag}
use Rattle.tup_flags.specs.Part.{Byte, Flagged, Named, Unknown, Behind, Within, flag_of, parts_from, parts}

-- no element of a list is this one
abbrev pub Lacks : ℕ → List ℕ → Type 0
Lacks byte bytes = (i : ℕ) → i < length bytes → get_or bytes i 0 ≢ byte

lacks-head : (byte x : ℕ) (xs : List ℕ) → Lacks byte (x ∷ xs) → x ≢ byte
lacks-head byte x xs lacks = lacks 0 (omega arith)

lacks-tail : (byte x : ℕ) (xs : List ℕ) → Lacks byte (x ∷ xs) → Lacks byte xs
lacks-tail byte x xs lacks = λ i l. lacks (suc i) (omega arith)

-- a name that is closed
pub named-closed : (read name rest : List ℕ) → Lacks 62 name → parts_from (Within read) (name ++ 62 ∷ rest) ≡ Named (read ++ name) ∷ parts rest
named-closed read [] rest lacks = ap (λ n. Named n ∷ parts rest) (sym (append-nil read))
named-closed read (x ∷ name) rest lacks =
    ap (λ b. if b then Named read ∷ parts (name ++ 62 ∷ rest) else parts_from (Within (read ++ x ∷ [])) (name ++ 62 ∷ rest)) (ne_eqb x 62 (lacks-head 62 x name lacks))
    ∙ named-closed (read ++ x ∷ []) name rest (lacks-tail 62 x name lacks)
    ∙ ap (λ n. Named n ∷ parts rest) (append_assoc read (x ∷ []) name)

-- and one that isn't
pub named-open : (read name : List ℕ) → Lacks 62 name → parts_from (Within read) name ≡ Unknown (37 ∷ 60 ∷ read ++ name) ∷ []
named-open read [] lacks = ap (λ n. Unknown (37 ∷ 60 ∷ n) ∷ []) (sym (append-nil read))
named-open read (x ∷ name) lacks =
    ap (λ b. if b then Named read ∷ parts name else parts_from (Within (read ++ x ∷ [])) name) (ne_eqb x 62 (lacks-head 62 x name lacks))
    ∙ named-open (read ++ x ∷ []) name (lacks-tail 62 x name lacks)
    ∙ ap (λ n. Unknown (37 ∷ 60 ∷ n) ∷ []) (append_assoc read (x ∷ []) name)

flag-first : (byte : ℕ) (rest : List ℕ) → byte ≢ 60 → parts_from Behind (byte ∷ rest) ≡ option_map_or (λ flag. Flagged flag) (flag_of byte) (Unknown (37 ∷ byte ∷ [])) ∷ parts rest
flag-first byte rest other =
    ap (λ b. if b then parts_from (Within []) rest else option_map_or (λ flag. Flagged flag) (flag_of byte) (Unknown (37 ∷ byte ∷ [])) ∷ parts rest) (ne_eqb byte 60 other)

-- the character of a flag
pub flag-known : (byte : ℕ) (rest : List ℕ) (flag : Flag) → byte ≢ 60 → flag_of byte ≡ Some flag → parts_from Behind (byte ∷ rest) ≡ Flagged flag ∷ parts rest
flag-known byte rest flag other e = flag-first byte rest other ∙ ap (λ f. option_map_or (λ flag. Flagged flag) f (Unknown (37 ∷ byte ∷ [])) ∷ parts rest) e

-- and another one
pub flag-unknown : (byte : ℕ) (rest : List ℕ) → byte ≢ 60 → flag_of byte ≡ None → parts_from Behind (byte ∷ rest) ≡ Unknown (37 ∷ byte ∷ []) ∷ parts rest
flag-unknown byte rest other e = flag-first byte rest other ∙ ap (λ f. option_map_or (λ flag. Flagged flag) f (Unknown (37 ∷ byte ∷ [])) ∷ parts rest) e

-- a text by its first byte
pub first-byte : (text bytes : List ℕ) (byte : ℕ) → bytes ≡ text → 0 < length bytes → byte ≡ get_or bytes 0 byte → text ≡ byte ∷ drop 1 text
first-byte [] bytes byte same some e = absurd (omega (arith, ap length same))
first-byte (x ∷ text) bytes byte same some e = ap (λ b. b ∷ text) (sym (e ∙ ap (λ t. get_or t 0 byte) same))

pub not-open : (text : List ℕ) (byte : ℕ) → text ≡ byte ∷ drop 1 text → ((rest : List ℕ) → text ≢ 60 ∷ rest) → byte ≢ 60
not-open text byte is other = λ e. other (drop 1 text) (is ∙ ap (λ b. b ∷ drop 1 text) e)

-- bytes in front that are no percent signs
pub bytes-before : (front rest : List ℕ) → Lacks 37 front → parts (front ++ rest) ≡ map (λ b. Byte b) front ++ parts rest
bytes-before [] rest lacks = refl
bytes-before (x ∷ front) rest lacks =
    ap (λ b. if b then parts_from Behind (front ++ rest) else Byte x ∷ parts (front ++ rest)) (ne_eqb x 37 (lacks-head 37 x front lacks))
    ∙ ap (λ more. Byte x ∷ more) (bytes-before front rest (lacks-tail 37 x front lacks))
