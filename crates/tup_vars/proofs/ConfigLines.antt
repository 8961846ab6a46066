-- the lines of a tup.config that set a name
use Rattle.std.proofs.Common.{◌≡◌, ◌↔◌, ℕ, ◌+◌, ◌<◌, Bool, true, false, not, eqb, ltb, if◌then◌else◌, List, [], ◌∷◌, ◌++◌, length, take, drop, get_or, All, codes, bytes_eq, Option, Some, None, refl, sym, ap, ◌∙◌, arith, length-append}
use Rattle.std.specs.List.{position_or_len, before_first, after_first, list_all}
use Rattle.std.specs.Option.{option_and_then}
use Rattle.std.proofs.lemmas.Bool.Decides.{nat_tests}
use Rattle.std.proofs.lemmas.Bool.{ne_eqb, and_parts}
use Rattle.std.proofs.lemmas.List.{take_at}
use Rattle.std.proofs.lemmas.List.Elements.{All-weaker}
use Rattle.std.proofs.lemmas.List.Sums.{split_at_first, passes_at_first, position_or_len_is, AllPass-from_list_all}
use Rattle.std.proofs.lemmas.Slice.Eq.{bytes_eq-Decides}
use Rattle.std.proofs.Math.ListN.{get_or-append}
use Rattle.std.proofs.Math.Seq.{get_or-append_seam, drop-append-add}
use Rattle.tup_lex.specs.Blank.{trim}
use Rattle.tup_vars.specs.Name.{is_name, is_name_byte}
use Rattle.tup_vars.specs.Config.{behind, around, entry, set, unset, IsSet, IsUnset}

-- two texts, if a test holds
abbrev choice : Bool → List ℕ → List ℕ → Option (List ℕ × List ℕ)
choice b one other = if b then Some (one, other) else None

same_some : (one other : List ℕ × List ℕ) → Some one ≡ Some other → one ≡ other
same_some one other e = cc

-- ---- a text round a byte
around-at : (byte : ℕ) (front rest : List ℕ) → All (λ b. eqb b byte ≡ false) front → around byte (front ++ byte ∷ rest) ≡ Some (front, rest)
around-at byte front rest none =
    let text = front ++ byte ∷ rest in
    let size : length text ≡ length front + length (byte ∷ rest) = length-append front (byte ∷ rest) in
    let here : eqb byte byte ≡ true = grind (arith, nat_tests) in
    let at : position_or_len (λ b. eqb b byte) text ≡ length front =
    position_or_len_is (λ b. eqb b byte) text (length front) 0 (omega arith)
    (λ k h. ap (λ b. eqb b byte) (get_or-append front (byte ∷ rest) 0 k h) ∙ none k 0 h)
    (λ h. ap (λ b. eqb b byte) (get_or-append_seam front byte rest 0) ∙ here) in
    let within : ltb (length front) (length text) ≡ true = grind (arith, nat_tests) in
    ap (λ n. choice (ltb n (length text)) (take n text) (drop (n + 1) text)) at
    ∙ ap (λ b. choice b (take (length front) text) (drop (length front + 1) text)) within
    ∙ (λ i. Some (take_at front (byte ∷ rest) (length front) refl i, drop-append-add front (byte ∷ rest) 1 i))

around-cut : (byte : ℕ) (text front rest : List ℕ) → around byte text ≡ Some (front, rest) → text ≡ front ++ byte ∷ rest
around-cut byte text front rest e = by_test (ltb (position_or_len (λ b. eqb b byte) text) (length text)) refl e
  where
    by_test : (b : Bool) → ltb (position_or_len (λ b. eqb b byte) text) (length text) ≡ b → choice b (before_first (λ b. eqb b byte) text) (after_first (λ b. eqb b byte) text) ≡ Some (front, rest) → text ≡ front ++ byte ∷ rest
    by_test true is e =
        let within : position_or_len (λ b. eqb b byte) text < length text = grind (arith, nat_tests) in
        let there : eqb (get_or text (position_or_len (λ b. eqb b byte) text) 0) byte ≡ true = passes_at_first (λ b. eqb b byte) text 0 within in
        let same : get_or text (position_or_len (λ b. eqb b byte) text) 0 ≡ byte = grind (arith, nat_tests) in
        let both = same_some (before_first (λ b. eqb b byte) text, after_first (λ b. eqb b byte) text) (front, rest) e in
        split_at_first (λ b. eqb b byte) text 0 within ∙ (λ i. (both i).0 ++ same i ∷ (both i).1)
    by_test false is e = absurd (cc)

-- ---- a text behind its front
behind-cut : (front text rest : List ℕ) → behind front text ≡ Some rest → text ≡ front ++ rest
behind-cut [] text rest e = cc
behind-cut (byte ∷ front) [] rest e = absurd (cc)
behind-cut (byte ∷ front) (first ∷ text) rest e = by_test (eqb first byte) refl e (behind-cut front text rest)
  where
    by_test : (b : Bool) → eqb first byte ≡ b → (if b then behind front text else None) ≡ Some rest → (behind front text ≡ Some rest → text ≡ front ++ rest) → first ∷ text ≡ byte ∷ (front ++ rest)
    by_test true is e more = let same : first ≡ byte = grind (arith, nat_tests) in (λ i. same i ∷ more e i)
    by_test false is e more = absurd (cc)

-- ---- names
entry-ok : (name value one other : List ℕ) → entry name value ≡ Some (one, other) → (is_name name ≡ true) × (name ≡ one) × (value ≡ other)
entry-ok name value one other e = by_test (is_name name) e
  where
    by_test : (b : Bool) → choice b name value ≡ Some (one, other) → (b ≡ true) × (name ≡ one) × (value ≡ other)
    by_test true e = let both = same_some (name, value) (one, other) e in (refl, ap (λ p. p.0) both, ap (λ p. p.1) both)
    by_test false e = absurd (cc)

entry-is : (name value : List ℕ) → is_name name ≡ true → entry name value ≡ Some (name, value)
entry-is name value e = ap (λ b. choice b name value) e

-- a name holds no byte that isn't one of a name
lacks : (byte : ℕ) → is_name_byte byte ≡ false → (name : List ℕ) → is_name name ≡ true → All (λ b. eqb b byte ≡ false) name
lacks byte other name e =
    All-weaker (λ b. is_name_byte b ≡ true) (λ b. eqb b byte ≡ false) (λ b is. ne_eqb b byte (λ same. let yes : is_name_byte byte ≡ true = ap is_name_byte (sym same) ∙ is in cc)) name
    (AllPass-from_list_all is_name_byte name (and_parts (not (eqb (length name) 0)) (list_all is_name_byte name) e).1)

-- ---- what stands behind a front, round a byte
abbrev parted : List ℕ → ℕ → (List ℕ → List ℕ → Option (List ℕ × List ℕ)) → List ℕ → Option (List ℕ × List ℕ)
parted front byte said line = option_and_then (λ rest. option_and_then (λ (name, value). said name value) (around byte rest)) (behind front line)

pub record IsParted (front : List ℕ) (byte : ℕ) (said : List ℕ → List ℕ → Option (List ℕ × List ℕ)) (line : List ℕ) (one : List ℕ × List ℕ) : Type 0 where
  pub name : List ℕ
  pub value : List ℕ
  pub whole : line ≡ front ++ (name ++ byte ∷ value)
  pub says : said name value ≡ Some one

parted-ok : (front : List ℕ) (byte : ℕ) (said : List ℕ → List ℕ → Option (List ℕ × List ℕ)) (line : List ℕ) (one : List ℕ × List ℕ) → parted front byte said line ≡ Some one → IsParted front byte said line one
parted-ok front byte said line one e = by_behind (behind front line) refl e
  where
    by_around : (rest : List ℕ) → behind front line ≡ Some rest → (o : Option (List ℕ × List ℕ)) → around byte rest ≡ o → option_and_then (λ (name, value). said name value) o ≡ Some one → IsParted front byte said line one
    by_around rest is None at e = absurd (cc)
    by_around rest is (Some (name, value)) at e = record { name = name; value = value; whole = behind-cut front line rest is ∙ ap (λ t. front ++ t) (around-cut byte rest name value at); says = e }

    by_behind : (o : Option (List ℕ)) → behind front line ≡ o → option_and_then (λ rest. option_and_then (λ (name, value). said name value) (around byte rest)) o ≡ Some one → IsParted front byte said line one
    by_behind None is e = absurd (cc)
    by_behind (Some rest) is e = by_around rest is (around byte rest) refl e

parted-is : (front : List ℕ) (byte : ℕ) (said : List ℕ → List ℕ → Option (List ℕ × List ℕ)) (line name value : List ℕ) → behind front line ≡ Some (name ++ byte ∷ value) → All (λ b. eqb b byte ≡ false) name → parted front byte said line ≡ said name value
parted-is front byte said line name value is none =
    ap (option_and_then (λ rest. option_and_then (λ (name, value). said name value) (around byte rest))) is ∙ ap (option_and_then (λ (name, value). said name value)) (around-at byte name value none)

-- ---- the two forms of a line
pub set-IsSet : (line name value : List ℕ) → (set line ≡ Some (name, value)) ↔ IsSet line name value
set-IsSet line name value = (from, to)
  where
    from : set line ≡ Some (name, value) → IsSet line name value
    from e =
        let p = parted-ok (codes "CONFIG_") 61 (λ name value. entry name (trim value)) line (name, value) e in
        let says = entry-ok p.name (trim p.value) name value p.says in
        (p.value, p.whole ∙ ap (λ n. codes "CONFIG_" ++ (n ++ 61 ∷ p.value)) says.1, ap is_name (sym says.1) ∙ says.0, sym says.2)

    to : IsSet line name value → set line ≡ Some (name, value)
    to is =
        parted-is (codes "CONFIG_") 61 (λ name value. entry name (trim value)) line name is.0 (ap (behind (codes "CONFIG_")) is.1) (lacks 61 refl name is.2)
        ∙ entry-is name (trim is.0) is.2 ∙ ap (λ v. Some (name, v)) (sym is.3)

abbrev said_unset : List ℕ → List ℕ → Option (List ℕ × List ℕ)
said_unset name said = if bytes_eq said (codes "is not set") then entry name (codes "n") else None

pub record IsSaid (name said one other : List ℕ) : Type 0 where
  pub text : said ≡ codes "is not set"
  pub is : entry name (codes "n") ≡ Some (one, other)

said_unset-ok : (name said one other : List ℕ) → said_unset name said ≡ Some (one, other) → IsSaid name said one other
said_unset-ok name said one other e = by_test (bytes_eq said (codes "is not set")) refl e
  where
    by_test : (b : Bool) → bytes_eq said (codes "is not set") ≡ b → (if b then entry name (codes "n") else None) ≡ Some (one, other) → IsSaid name said one other
    by_test true same e = record { text = (bytes_eq-Decides said (codes "is not set")).0 same; is = e }
    by_test false same e = absurd (cc)

pub unset-IsUnset : (line name value : List ℕ) → (unset line ≡ Some (name, value)) ↔ IsUnset line name value
unset-IsUnset line name value = (from, to)
  where
    from : unset line ≡ Some (name, value) → IsUnset line name value
    from e =
        let p = parted-ok (codes "# CONFIG_") 32 said_unset line (name, value) e in
        let said = said_unset-ok p.name p.value name value p.says in
        let one = entry-ok p.name (codes "n") name value said.is in
        (p.whole ∙ (λ i. codes "# CONFIG_" ++ (one.1 i ++ 32 ∷ said.text i)), ap is_name (sym one.1) ∙ one.0, sym one.2)

    to : IsUnset line name value → unset line ≡ Some (name, value)
    to is =
        parted-is (codes "# CONFIG_") 32 said_unset line name (codes "is not set") (ap (behind (codes "# CONFIG_")) is.0) (lacks 32 refl name is.1)
        ∙ entry-is name (codes "n") is.1 ∙ ap (λ v. Some (name, v)) (sym is.2)
