-- One step of reading after another: what each tells of the bytes.
use Rattle.std.proofs.Common.{◌≡◌, ◌≢◌, ℕ, ◌+◌, ◌<◌, ◌≤◌, cond, List, ◌++◌, length, take, drop, Result, Ok, Err, refl, sym, ap, subst, ◌∙◌, arith, inl, inr}
use Rattle.std.proofs.lemmas.Bool.{cases_lt, le-ltb, lt-ltb}
use Rattle.std.proofs.lemmas.List.{take_at, drop_at, take-append-drop, take-append-le, drop-append-le, length-append, length-take-le, get_or-append-add}
use Rattle.tup_field.specs.declared.fault.RecordFault.{RecordFault}
use Rattle.tup_field.specs.declared.fault.RecordFault.TheVariants.{Short}
use Rattle.tup_field.specs.Format.{Read, ◌>>=◌, IsBytes, carry}
use Rattle.tup_field.specs.Parts.{taken}

-- a step that did not fail
abbrev done : {A : Type 0} → A → Result A RecordFault
done x = Ok x

pub ok_is : {A : Type 0} (x y : A) → done x ≡ done y → x ≡ y
ok_is x y e = cc

-- a step that failed
abbrev failed : {A : Type 0} → RecordFault → Read A
failed fault = Err fault

fault_is : {A : Type 0} (x y : RecordFault) → failed {A = A} x ≡ failed y → x ≡ y
fault_is x y e = cc

-- the value of a step that did not fail
pub bind_ok : {A B : Type 0} (r : Result A RecordFault) (f : A → Result B RecordFault) (y : B) → (r >>= f) ≡ Ok y → (x : A) × (r ≡ Ok x) × (f x ≡ Ok y)
bind_ok (Ok x) f y e = (x, refl, e)
bind_ok (Err fault) f y e = absurd (cc)

-- what stands behind bytes is bytes
pub behind : (front rest bytes : List ℕ) → bytes ≡ front ++ rest → IsBytes bytes → IsBytes rest
behind front rest bytes e fits i = subst (λ b. b < 256) (get_or-append-add front rest i 0) (subst IsBytes e fits (length front + i))

-- ---- the three laws of reading, each of a reader alone

-- what is read is spelled so
abbrev pub Found : {A : Type 0} → (A → Type 0) → (A → List ℕ) → (List ℕ → Read A) → Type 0
Found {A} Fits spelling read = (bytes : List ℕ) (a : A) (rest : List ℕ) → IsBytes bytes → read bytes ≡ Ok (a, rest) → Fits a × (bytes ≡ spelling a ++ rest)

-- what is spelled so is read, whatever follows
abbrev pub Again : {A : Type 0} → (A → Type 0) → (A → List ℕ) → (List ℕ → Read A) → Type 0
Again {A} Fits spelling read = (a : A) (rest : List ℕ) → Fits a → read (spelling a ++ rest) ≡ Ok (a, rest)

-- only the answer that the bytes end too early changes with what follows
abbrev pub Stands : {A : Type 0} → (List ℕ → Read A) → Type 0
Stands read = (bytes more : List ℕ) → read bytes ≢ Err Short → read (bytes ++ more) ≡ carry more (read bytes)

-- ---- one reader after another

-- one reader, and another one over the bytes behind it, which knows what the first found
abbrev pub and_then : {A B : Type 0} → (List ℕ → Read A) → (A → List ℕ → Read B) → List ℕ → Read B
and_then read next bytes = read bytes >>= λ x. next x.0 x.1

pub found_then : {A B : Type 0} (FitsA : A → Type 0) (spellA : A → List ℕ) (FitsB : B → Type 0) (spellB : B → List ℕ) (read : List ℕ → Read A) (next : A → List ℕ → Read B)
    → Found FitsA spellA read
    → ((a : A) (rest : List ℕ) (b : B) (last : List ℕ) → FitsA a → IsBytes rest → next a rest ≡ Ok (b, last) → FitsB b × (spellA a ++ rest ≡ spellB b ++ last))
    → Found FitsB spellB (and_then read next)
found_then FitsA spellA FitsB spellB read next first second bytes b last fits e =
    let x = bind_ok (read bytes) (λ x. next x.0 x.1) (b, last) e in
    let one = first bytes x.0.0 x.0.1 fits x.1 in
    let two = second x.0.0 x.0.1 b last one.0 (behind (spellA x.0.0) x.0.1 bytes one.1 fits) x.2 in
    (two.0, one.1 ∙ two.1)

-- the next reader goes on where the first one ended
pub then_reads : {A B : Type 0} (read : List ℕ → Read A) (next : A → List ℕ → Read B) (bytes : List ℕ) (a : A) (rest : List ℕ) → read bytes ≡ Ok (a, rest) → and_then read next bytes ≡ next a rest
then_reads read next bytes a rest e = ap (λ r. r >>= λ x. next x.0 x.1) e

pub stands_then : {A B : Type 0} (read : List ℕ → Read A) (next : A → List ℕ → Read B) → Stands read → ((a : A) → Stands (next a)) → Stands (and_then read next)
stands_then read next first second bytes more whole =
    (elim (read bytes) as (λ r. read bytes ≡ r → (r >>= λ x. next x.0 x.1) ≢ Err Short → and_then read next (bytes ++ more) ≡ carry more (r >>= λ x. next x.0 x.1)) [
      | Ok x ↦ λ e w.
          then_reads read next (bytes ++ more) x.0 (x.1 ++ more) (first bytes more (λ short. absurd (let no : done x ≡ Err Short = sym e ∙ short in cc)) ∙ ap (carry more) e) ∙ second x.0 x.1 more w
      | Err fault ↦ λ e w.
          let same : read (bytes ++ more) ≡ Err fault = first bytes more (λ short. let is : fault ≡ Short = fault_is fault Short (sym e ∙ short) in w (ap (λ d. Err d) is)) ∙ ap (carry more) e in
          ap (λ r. r >>= λ x. next x.0 x.1) same
    ]) refl whole

-- ---- so many bytes
pub taken_whole : (n : ℕ) (bytes : List ℕ) → n ≤ length bytes → taken n bytes ≡ Ok (take n bytes, drop n bytes)
taken_whole n bytes le = ap (λ t. cond t (Err Short) (Ok (take n bytes, drop n bytes))) (le-ltb (length bytes) n le)

pub taken_short : (n : ℕ) (bytes : List ℕ) → length bytes < n → taken n bytes ≡ Err Short
taken_short n bytes lt = ap (λ t. cond t (Err Short) (Ok (take n bytes, drop n bytes))) (lt-ltb (length bytes) n lt)

pub taken_found : (n : ℕ) (bytes front rest : List ℕ) → taken n bytes ≡ Ok (front, rest) → (length front ≡ n) × (bytes ≡ front ++ rest)
taken_found n bytes front rest e =
    elim (cases_lt (length bytes) n) [
      | inl lt ↦ absurd (let short = taken_short n bytes lt in cc)
      | inr le ↦
          let same : (take n bytes, drop n bytes) ≡ (front, rest) = ok_is (take n bytes, drop n bytes) (front, rest) (sym (taken_whole n bytes le) ∙ e) in
          subst (λ (x : List ℕ × List ℕ). (length x.0 ≡ n) × (bytes ≡ x.0 ++ x.1)) same (length-take-le n bytes le, sym (take-append-drop n bytes))
    ]

pub taken_again : (n : ℕ) (front rest : List ℕ) → length front ≡ n → taken n (front ++ rest) ≡ Ok (front, rest)
taken_again n front rest e =
    let long : n ≤ length (front ++ rest) = omega (arith, length-append front rest) in
    taken_whole n (front ++ rest) long ∙ rw (take_at front rest n e, drop_at front rest n e) refl

pub taken_stands : (n : ℕ) → Stands (taken n)
taken_stands n bytes more whole =
    elim (cases_lt (length bytes) n) [
      | inl lt ↦ absurd (whole (taken_short n bytes lt))
      | inr le ↦
          let long : n ≤ length (bytes ++ more) = omega (arith, length-append bytes more) in
          taken_whole n (bytes ++ more) long ∙ rw (take-append-le n bytes more le, drop-append-le n bytes more le) refl ∙ sym (ap (carry more) (taken_whole n bytes le))
    ]
