-- How joined pieces lie, and that pieces are joined in turn.
use Rattle.std.proofs.Common.{◌≡◌, ◌≢◌, ◌⊎◌, inl, inr, ℕ, ◌+◌, ◌<◌, ◌≤◌, nat_lt, Bool, true, false, if◌then◌else◌, List, [], ◌∷◌, ◌++◌, length, Option, Some, None, Ok, Err, refl, ap, sym, ◌∙◌, append-nil, length-append, arith}
use Rattle.std.proofs.lemmas.Bool.{ltb-true, ltb-false, lt-ltb, le-ltb}
use Rattle.tup_rule.specs.declared.draft.Piece.{Piece}
use Rattle.tup_rule.specs.declared.draft.Piece.TheVariants.{Text, Group}
use Rattle.tup_flags.specs.declared.fault.FlagFault.{FlagFault}
use Rattle.tup_flags.specs.declared.fault.FlagFault.TheVariants.{TooLong, UnknownFlag}
use Rattle.tup_flags.specs.Pieces.{text_limit, total, onto, joined, granted, refusal, unless_refused, outcome}
use Rattle.tup_flags.specs.Laws.{IsLeast, IsTextAlone, together}
use Rattle.tup_flags.proofs.Onward.{Values, onto-onto}

total-onto : (text : List ℕ) (pieces : List Piece) → total (onto text pieces) ≡ length text + total pieces
total-onto [] pieces = omega arith
total-onto (b ∷ text) [] = refl
total-onto (b ∷ text) (Text next ∷ more) = omega (arith, length-append (b ∷ text) next)
total-onto (b ∷ text) (Group at ∷ more) = omega arith

pub total-joined : (pieces : List Piece) → total (joined pieces) ≡ total pieces
total-joined [] = refl
total-joined (Text text ∷ more) = total-onto text (joined more) ∙ ap (λ n. length text + n) (total-joined more)
total-joined (Group at ∷ more) = ap (λ n. 0 + n) (total-joined more)

total-append : (front back : List Piece) → total (front ++ back) ≡ total front + total back
total-append [] back = omega arith
total-append (piece ∷ front) back = let rest = total-append front back in omega arith

least-onto : (text : List ℕ) (pieces : List Piece) → IsLeast pieces → IsLeast (onto text pieces)
least-onto [] pieces least = least
least-onto (b ∷ text) [] least = omega arith
least-onto (b ∷ text) (Text next ∷ []) least = omega (arith, length-append (b ∷ text) next)
least-onto (b ∷ text) (Text next ∷ Group at ∷ more) least = (omega (arith, length-append (b ∷ text) next), least.1)
least-onto (b ∷ text) (Text next ∷ Text other ∷ more) least = absurd least
least-onto (b ∷ text) (Group at ∷ more) least = (omega arith, least)

pub least-joined : (pieces : List Piece) → IsLeast (joined pieces)
least-joined [] = tt
least-joined (Text text ∷ more) = least-onto text (joined more) (least-joined more)
least-joined (Group at ∷ more) = least-joined more

pub alone-onto : (text : List ℕ) (pieces : List Piece) → IsTextAlone pieces → IsTextAlone (onto text pieces)
alone-onto [] pieces alone = alone
alone-onto (b ∷ text) [] alone = tt
alone-onto (b ∷ text) (Text next ∷ []) alone = tt
alone-onto (b ∷ text) (Text next ∷ other ∷ more) alone = absurd alone
alone-onto (b ∷ text) (Group at ∷ more) alone = absurd alone

joined-onto : (text : List ℕ) (pieces more : List Piece) → joined (onto text pieces ++ more) ≡ onto text (joined (pieces ++ more))
joined-onto [] pieces more = refl
joined-onto (b ∷ text) [] more = refl
joined-onto (b ∷ text) (Text next ∷ pieces) more = sym (onto-onto (b ∷ text) next (joined (pieces ++ more)))
joined-onto (b ∷ text) (Group at ∷ pieces) more = refl

joined-twice : (pieces more : List Piece) → joined (joined pieces ++ more) ≡ joined (pieces ++ more)
joined-twice [] more = refl
joined-twice (Text text ∷ pieces) more = joined-onto text (joined pieces) more ∙ ap (onto text) (joined-twice pieces more)
joined-twice (Group at ∷ pieces) more = ap (λ ps. Group at ∷ ps) (joined-twice pieces more)

joined-later : (pieces more : List Piece) → joined (pieces ++ joined more) ≡ joined (pieces ++ more)
joined-later [] more = ap joined (sym (append-nil (joined more))) ∙ joined-twice more [] ∙ ap joined (append-nil more)
joined-later (Text text ∷ pieces) more = ap (onto text) (joined-later pieces more)
joined-later (Group at ∷ pieces) more = ap (λ ps. Group at ∷ ps) (joined-later pieces more)

pub joined-both : (front back : List Piece) → joined (joined front ++ joined back) ≡ joined (front ++ back)
joined-both front back = joined-twice front (joined back) ∙ joined-later front back

-- ---- values in two

granted-on : (front back : Values) → refusal front ≡ None → granted (front ++ back) ≡ granted front ++ granted back
granted-on [] back none = refl
granted-on (Ok piece ∷ front) back none = ap (λ ps. piece ∷ ps) (granted-on front back none)
granted-on (Err fault ∷ front) back none = absurd (cc)

refusal-on : (front back : Values) → refusal front ≡ None → refusal (front ++ back) ≡ refusal back
refusal-on [] back none = refl
refusal-on (Ok piece ∷ front) back none = refusal-on front back none
refusal-on (Err fault ∷ front) back none = absurd (cc)

granted-off : (front back : Values) (fault : FlagFault) → refusal front ≡ Some fault → granted (front ++ back) ≡ granted front
granted-off [] back fault some = absurd (cc)
granted-off (Ok piece ∷ front) back fault some = ap (λ ps. piece ∷ ps) (granted-off front back fault some)
granted-off (Err other ∷ front) back fault some = refl

refusal-off : (front back : Values) (fault : FlagFault) → refusal front ≡ Some fault → refusal (front ++ back) ≡ Some fault
refusal-off [] back fault some = absurd (cc)
refusal-off (Ok piece ∷ front) back fault some = refusal-off front back fault some
refusal-off (Err other ∷ front) back fault some = some

total-on : (front back : Values) → total (granted front) ≤ total (granted (front ++ back))
total-on [] back = omega arith
total-on (Ok piece ∷ front) back = let rest = total-on front back in omega arith
total-on (Err fault ∷ front) back = omega arith

-- ---- what an outcome tells

pub record Goes (values : Values) (pieces : List Piece) : Type 0 where
  pub fits : total (granted values) ≤ text_limit
  pub refused : refusal values ≡ None
  pub is : pieces ≡ joined (granted values)

pub goes : (values : Values) (pieces : List Piece) → outcome values ≡ Ok pieces → Goes values pieces
goes values pieces e = by_test (nat_lt text_limit (total (granted values))) (refusal values) refl refl e
  where
    by_test : (long : Bool) (fault : Option FlagFault) → nat_lt text_limit (total (granted values)) ≡ long → refusal values ≡ fault
        → (if long then Err TooLong else unless_refused (joined (granted values)) fault) ≡ Ok pieces → Goes values pieces
    by_test true fault l r e = absurd (cc)
    by_test false None l r e = record { fits = ltb-false text_limit (total (granted values)) l; refused = r; is = cc }
    by_test false (Some fault) l r e = absurd (cc)

pub stops : (values : Values) (fault : FlagFault) → outcome values ≡ Err fault
    → ((text_limit < total (granted values)) × (fault ≡ TooLong)) ⊎ ((total (granted values) ≤ text_limit) × (refusal values ≡ Some fault))
stops values fault e = by_test (nat_lt text_limit (total (granted values))) (refusal values) refl refl e
  where
    by_test : (long : Bool) (other : Option FlagFault) → nat_lt text_limit (total (granted values)) ≡ long → refusal values ≡ other
        → (if long then Err TooLong else unless_refused (joined (granted values)) other) ≡ Err fault
        → ((text_limit < total (granted values)) × (fault ≡ TooLong)) ⊎ ((total (granted values) ≤ text_limit) × (refusal values ≡ Some fault))
    by_test true other l r e = inl (ltb-true text_limit (total (granted values)) l, cc)
    by_test false None l r e = absurd (cc)
    by_test false (Some other) l r e = inr (ltb-false text_limit (total (granted values)) l, cc)

outcome-long : (values : Values) → text_limit < total (granted values) → outcome values ≡ Err TooLong
outcome-long values long = ap (λ b. if b then Err TooLong else unless_refused (joined (granted values)) (refusal values)) (lt-ltb text_limit (total (granted values)) long)

outcome-fits : (values : Values) → total (granted values) ≤ text_limit → outcome values ≡ unless_refused (joined (granted values)) (refusal values)
outcome-fits values fits = ap (λ b. if b then Err TooLong else unless_refused (joined (granted values)) (refusal values)) (le-ltb text_limit (total (granted values)) fits)

-- ---- outcomes in turn

pub both-go : (front back : Values) (start rest : List Piece) → outcome front ≡ Ok start → outcome back ≡ Ok rest → outcome (front ++ back) ≡ together start rest
both-go front back start rest e d =
    let f = goes front start e in
    let b = goes back rest d in
    let ps = granted-on front back f.refused in
    let none = refusal-on front back f.refused ∙ b.refused in
    let whole : total (granted (front ++ back)) ≡ total start + total rest =
    ap total ps ∙ total-append (granted front) (granted back) ∙ ap (λ n. n + total (granted back)) (sym (ap total f.is ∙ total-joined (granted front)))
    ∙ ap (λ n. total start + n) (sym (ap total b.is ∙ total-joined (granted back))) in
    let same : joined (granted (front ++ back)) ≡ joined (start ++ rest) =
    ap joined ps ∙ sym (joined-both (granted front) (granted back)) ∙ ap (λ x. joined (x ++ joined (granted back))) (sym f.is) ∙ ap (λ x. joined (start ++ x)) (sym b.is) in
    ap (λ n. if nat_lt text_limit n then Err TooLong else unless_refused (joined (granted (front ++ back))) (refusal (front ++ back))) whole
    ∙ ap (λ x. if nat_lt text_limit (total start + total rest) then Err TooLong else unless_refused x (refusal (front ++ back))) same
    ∙ ap (λ x. if nat_lt text_limit (total start + total rest) then Err TooLong else unless_refused (joined (start ++ rest)) x) none

pub second-stops : (front back : Values) (start : List Piece) (fault : FlagFault) → outcome front ≡ Ok start → outcome back ≡ Err fault
    → (outcome (front ++ back) ≡ Err fault) ⊎ (outcome (front ++ back) ≡ Err TooLong)
second-stops front back start fault e d = by_case (stops back fault d)
  where
    f : Goes front start
    f = goes front start e

    whole : total (granted (front ++ back)) ≡ total (granted front) + total (granted back)
    whole = ap total (granted-on front back f.refused) ∙ total-append (granted front) (granted back)

    by_test : refusal back ≡ Some fault → (long : Bool) → nat_lt text_limit (total (granted (front ++ back))) ≡ long → (outcome (front ++ back) ≡ Err fault) ⊎ (outcome (front ++ back) ≡ Err TooLong)
    by_test r true l = inr (outcome-long (front ++ back) (ltb-true text_limit (total (granted (front ++ back))) l))
    by_test r false l = inl (outcome-fits (front ++ back) (ltb-false text_limit (total (granted (front ++ back))) l) ∙ ap (unless_refused (joined (granted (front ++ back)))) (refusal-on front back f.refused ∙ r))

    by_case : ((text_limit < total (granted back)) × (fault ≡ TooLong)) ⊎ ((total (granted back) ≤ text_limit) × (refusal back ≡ Some fault))
        → (outcome (front ++ back) ≡ Err fault) ⊎ (outcome (front ++ back) ≡ Err TooLong)
    by_case (inl long) = inr (outcome-long (front ++ back) (omega (arith, whole, long.0)))
    by_case (inr some) = by_test some.1 (nat_lt text_limit (total (granted (front ++ back)))) refl

-- values in front, which stop with whatever is behind them, if nothing but an unknown flag may be
pub first-stops : (front tail back : Values) (fault : FlagFault) → granted tail ≡ [] → ((other : FlagFault) → refusal tail ≡ Some other → other ≡ UnknownFlag) → fault ≢ UnknownFlag
    → outcome (front ++ tail) ≡ Err fault → outcome (front ++ back) ≡ Err fault
first-stops front tail back fault nothing unknown known e = by_case (refusal front) refl (stops (front ++ tail) fault e)
  where
    same : (o : Option FlagFault) → refusal front ≡ o → total (granted (front ++ tail)) ≡ total (granted front)
    same None r = ap total (granted-on front tail r ∙ ap (λ ps. granted front ++ ps) nothing ∙ append-nil (granted front))
    same (Some other) r = ap total (granted-off front tail other r)

    by_case : (o : Option FlagFault) → refusal front ≡ o
        → ((text_limit < total (granted (front ++ tail))) × (fault ≡ TooLong)) ⊎ ((total (granted (front ++ tail)) ≤ text_limit) × (refusal (front ++ tail) ≡ Some fault))
        → outcome (front ++ back) ≡ Err fault
    by_case o r (inl long) = outcome-long (front ++ back) (omega (arith, same o r, total-on front back, long.0)) ∙ ap (λ f. Err f) (sym long.1)
    by_case None r (inr some) = absurd (known (unknown fault (sym (refusal-on front tail r) ∙ some.1)))
    by_case (Some other) r (inr some) =
        let is : other ≡ fault = let a = refusal-off front tail other r in let b = some.1 in cc in
        outcome-fits (front ++ back) (omega (arith, ap total (granted-off front back other r), same (Some other) r, some.0))
        ∙ ap (unless_refused (joined (granted (front ++ back)))) (refusal-off front back other r ∙ ap (λ f. Some f) is)
