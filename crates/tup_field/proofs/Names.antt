-- How the names of a path are written and read.
use Rattle.std.proofs.Common.{◌≡◌, ◌&&◌, ℕ, ◌+◌, ◌-◌, ◌<◌, ◌≤◌, Bool, true, false, not, cond, ltb, leb, List, [], ◌∷◌, ◌++◌, length, get_or, All, IsUtf8, Result, Ok, Err, ◌⊎◌, inl, inr, refl, ap, sym, subst, ◌∙◌, length-append, arith}
use Rattle.std.specs.Str.{is_utf8}
use Rattle.std.proofs.lemmas.Bool.{le-ltb}
use Rattle.std.proofs.lemmas.Bool.Decides.{nat_tests}
use Rattle.std.proofs.lemmas.Str.{is_utf8-from_IsUtf8}
use Rattle.tup_path.specs.declared.fault.PathFault.{PathFault}
use Rattle.tup_path.specs.declared.fault.PathFault.TheVariants as faults
use Rattle.tup_path.specs.Name.{Names, IsVisibleName}
use Rattle.tup_path.specs.Resolve.{is_visible, below}
use Rattle.tup_field.specs.declared.fault.RecordFault.TheVariants.{BadField}
use Rattle.tup_field.specs.Format.{◌>>=◌}
use Rattle.tup_field.specs.Parts.{many_at, byte, sized}
use Rattle.tup_field.specs.Values.{name}
use Rattle.tup_field.specs.ValuesLaws.{name_fits}
use Rattle.tup_field.proofs.Lists.{IsLeft, left_more, with_front, reads_more}

-- ---- what `join` tells
below_is : (path : Names) (n : List ℕ) → length path < 32 → length n ≤ 255 → below path n ≡ cond (not (is_visible n)) (Err faults.Hidden) (Ok (path ++ n ∷ []))
below_is path n room short =
    let long : ltb 255 (length n) ≡ false = le-ltb 255 (length n) short in
    let free : leb 32 (length path) ≡ false = grind (arith, nat_tests) in
    rw (long, free) refl

below_ok : (seen : Bool) (path there : Names) → cond (not seen) (Err faults.Hidden) (Ok path) ≡ Ok there → (there ≡ path) × (seen ≡ true)
below_ok true path there e = (cc, refl)
below_ok false path there e = absurd (cc)

-- a part is a name where it is visible
judged : (bytes n rest : List ℕ) → (sized byte).reading bytes ≡ Ok (n, rest) → IsUtf8 n → name.reading bytes ≡ cond (is_visible n) (Ok (n, rest)) (Err BadField)
judged bytes n rest e is =
    ap (λ r. r >>= λ a. cond (is_utf8 a.0 && is_visible a.0) (Ok a) (Err BadField)) e ∙ ap (λ t. cond (t && is_visible n) (Ok (n, rest)) (Err BadField)) (is_utf8-from_IsUtf8 n is)

name_there : (path there : Names) (n bytes rest : List ℕ) → length path < 32 → (sized byte).reading bytes ≡ Ok (n, rest) → IsUtf8 n → length n ≤ 255 → below path n ≡ Ok there
    → (there ≡ path ++ n ∷ []) × (name.reading bytes ≡ Ok (n, rest))
name_there path there n bytes rest room e is short goes =
    let ok = below_ok (is_visible n) (path ++ n ∷ []) there (sym (below_is path n room short) ∙ goes) in
    (ok.0, judged bytes n rest e is ∙ ap (λ t. cond t (Ok (n, rest)) (Err BadField)) ok.1)

abbrev Joined : Type 0
Joined = Result Names PathFault

abbrev went : Names → Joined
went there = Ok there

pub name_joined : (path there : Names) (n bytes rest : List ℕ) → length path < 32 → (sized byte).reading bytes ≡ Ok (n, rest) → IsUtf8 n → length n ≤ 255 → (went there ≡ Err faults.Memory) ⊎ (went there ≡ below path n)
    → (there ≡ path ++ n ∷ []) × (name.reading bytes ≡ Ok (n, rest))
name_joined path there n bytes rest room e is short (inl memory) = absurd (cc)
name_joined path there n bytes rest room e is short (inr goes) = name_there path there n bytes rest room e is short (sym goes)

-- ---- the loops
pub written_more : (names : Names) (old now new n : List ℕ) (i : ℕ) → All IsVisibleName names → i < length names → n ≡ get_or names i n → new ≡ now ++ name.spelling n → IsLeft name names i old now → IsLeft name names (i + 1) old new
written_more names old now new n i each lt at e so_far =
    let fits : name.Fits n = name_fits n (subst IsVisibleName (sym at) (each i n lt)) in left_more name names old i n now new lt at fits e so_far

pub read_more : (path there : Names) (depth i : ℕ) (bytes rest start n : List ℕ) → i < depth → there ≡ path ++ n ∷ [] → name.reading bytes ≡ Ok (n, rest)
    → length path ≡ i → with_front path (many_at name.reading (depth - i) bytes) ≡ many_at name.reading depth start
    → (length there ≡ i + 1) × (with_front there (many_at name.reading (depth - (i + 1)) rest) ≡ many_at name.reading depth start)
read_more path there depth i bytes rest start n lt is e deep so_far =
    subst (λ (p : Names). (length p ≡ i + 1) × (with_front p (many_at name.reading (depth - (i + 1)) rest) ≡ many_at name.reading depth start)) (sym is)
    (omega (arith, length-append path (n ∷ [])), reads_more name.reading path depth i bytes n rest (many_at name.reading depth start) lt e so_far)
