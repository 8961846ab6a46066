-- A list of what is shown of files, grown by one file, and an answer grown by several texts.
use Rattle.std.proofs.Common.{◌≡◌, inl, inr, ℕ, ◌+◌, ◌<◌, ◌≤◌, List, [], ◌∷◌, ◌++◌, length, take, drop, get_or, refl, ap, sym, ◌∙◌, append_assoc, append-nil, length-append, take-append-drop, string_bytes, subst, Result, Ok, Err, OnOk, IfErr, arith}
use Rattle.std.proofs.lemmas.Grind.{flat_map-append}
use Rattle.std.proofs.lemmas.List.{take_more}
use Rattle.tup_path.specs.Name.{Names}
use Rattle.tup_flags.specs.Answer.{IsGrown, HasNoRoom}
use Rattle.tup_flags.specs.Shown.{shown, further, listed}
use Rattle.tup_flags.specs.declared.answer.Answer.{Answer}
use Rattle.tup_flags.specs.declared.fault.FlagFault.{FlagFault}
use Rattle.tup_flags.specs.declared.shown.Side.{Side}

-- the first file and the further ones
pub listed-first : (dir : Names) (side : Side) (path : Names) (others : List Names) → listed dir side (path ∷ others) ≡ shown dir side path ++ further dir side others
listed-first dir side path [] = sym (append-nil (shown dir side path))
listed-first dir side path (next ∷ others) = ap (λ text. shown dir side path ++ 32 ∷ text) (listed-first dir side next others)

-- one further file
pub further-more : (dir : Names) (side : Side) (paths : List Names) (at : ℕ) (path : Names) → at < length paths → path ≡ get_or paths at path
    → further dir side (take (at + 1) paths) ≡ further dir side (take at paths) ++ 32 ∷ shown dir side path
further-more dir side paths at path within is =
    ap (further dir side) (take_more paths at path within ∙ ap (λ one. take at paths ++ one ∷ []) (sym is))
    ∙ flat_map-append (λ p. 32 ∷ shown dir side p) (take at paths) (path ∷ [])
    ∙ ap (λ last. further dir side (take at paths) ++ 32 ∷ last) (append-nil (shown dir side path))

-- with one further file they have no more bytes than all
pub further-next : (dir : Names) (side : Side) (paths : List Names) (at : ℕ) (path : Names) → at < length paths → path ≡ get_or paths at path
    → length (further dir side (take at paths)) + length (32 ∷ shown dir side path) ≤ length (further dir side paths)
further-next dir side paths at path within is =
    let some = further dir side (take (at + 1) paths) in
    let rest = further dir side (drop (at + 1) paths) in
    let whole : further dir side paths ≡ some ++ rest =
    ap (further dir side) (sym (take-append-drop (at + 1) paths)) ∙ flat_map-append (λ p. 32 ∷ shown dir side p) (take (at + 1) paths) (drop (at + 1) paths) in
    let one = ap length (further-more dir side paths at path within is) in
    omega (arith, one, ap length whole, length-append some rest, length-append (further dir side (take at paths)) (32 ∷ shown dir side path))

-- ---- an answer

pub grown-none : (answer : Answer) → IsGrown answer answer []
grown-none answer = record { pieces = refl; text = sym (append-nil (string_bytes answer.text)); room = omega arith }

-- two texts one behind the other
pub grown-then : (first middle last : Answer) (front back : List ℕ) → IsGrown first middle front → IsGrown middle last back → IsGrown first last (front ++ back)
grown-then first middle last front back a b =
    let room = a.room in
    let more = b.room in
    record {
      pieces = b.pieces ∙ a.pieces;
      text = b.text ∙ ap (λ text. text ++ back) a.text ∙ append_assoc (string_bytes first.text) front back;
      room = omega (arith, length-append front back);
    }

-- where there is no room for a text behind another, there is none for a text that begins with both
pub no-room-then : (first middle : Answer) (front back whole : List ℕ) (fault : FlagFault) → IsGrown first middle front → HasNoRoom middle back fault → length front + length back ≤ length whole
    → HasNoRoom first whole fault
no-room-then first middle front back whole fault a (inl memory) within = inl memory
no-room-then first middle front back whole fault a (inr long) within = let room = a.room in let over = long.1 in inr (long.0, omega arith)

-- the same text, written otherwise
pub grown-as : (first last : Answer) (text same : List ℕ) → text ≡ same → IsGrown first last text → IsGrown first last same
grown-as first last text same e = subst (IsGrown first last) e

-- ---- calls one behind the other

pub both-grown : {X : Type 0} (result : Result X FlagFault) (first middle last : Answer) (front back whole : List ℕ) → whole ≡ front ++ back → IsGrown first middle front
    → OnOk result (IsGrown middle last back) → OnOk result (IsGrown first last whole)
both-grown (Ok _) first middle last front back whole e a b = grown-as first last (front ++ back) whole (sym e) (grown-then first middle last front back a b)
both-grown (Err _) first middle last front back whole e a b = tt

pub both-refused : {X : Type 0} (result : Result X FlagFault) (first middle : Answer) (front back whole : List ℕ) → whole ≡ front ++ back → IsGrown first middle front
    → IfErr result (HasNoRoom middle back) → IfErr result (HasNoRoom first whole)
both-refused (Ok _) first middle front back whole e a b = tt
both-refused (Err fault) first middle front back whole e a b = no-room-then first middle front back whole fault a b (omega (arith, ap length e, length-append front back))
