-- laws of what texts are expanded to
use Rattle.std.proofs.Common.{◌≡◌, ◌⊎◌, inl, inr, ℕ, suc, ◌+◌, ◌<◌, ◌≤◌, Bool, true, false, not, ◌&&◌, eqb, ltb, if◌then◌else◌, List, [], ◌∷◌, ◌++◌, length, drop, All, Option, Some, None, Result, Ok, Err, refl, sym, ap, subst, ◌∙◌, append_assoc, append-nil, length-append, arith}
use Rattle.std.specs.List.{flat_map}
use Rattle.std.specs.Option.{option_map}
use Rattle.std.proofs.lemmas.Bool.{cases_lt, and_parts, not-true}
use Rattle.std.proofs.lemmas.Bool.Decides.{nat_tests}
use Rattle.std.proofs.lemmas.Grind.{flat_map-append}
use Rattle.std.proofs.lemmas.List.Elements.{All-nil, All-cons, All-tail, All-append, All-drop}
use Rattle.std.proofs.Math.Seq.{drop-append_seam}
use Rattle.tup_lex.specs.Word.{begins_with}
use Rattle.tup_vars.specs.Segments.{Segment, Plain, Variable, Setting, Open, is_mark, ends_in_mark, opened, marked, closed, last, segments, spelled, HasNoBracket, IsSegment}
use Rattle.tup_vars.specs.Expand.{Scope, value, grown, with_segment, with_segments, expansion, is_plain, are_apart, Joins}
use Rattle.tup_vars.specs.declared.fault.VarFault.{VarFault}
use Rattle.tup_vars.specs.declared.fault.VarFault.TheVariants.{TooLong}
use Rattle.tup_vars.proofs.Joined.{and_then, with_segments-append, segments-last, segments-closed}
use Rattle.tup_vars.proofs.Openings.{Opened, further}

-- ---- a text is cut at its closing brackets
data Cut : List ℕ → Type 0 where
  ends : (text : List ℕ) → HasNoBracket text → Cut text
  goes_on : (text part more : List ℕ) → text ≡ part ++ 41 ∷ more → HasNoBracket part → Cut more → Cut text

cut-further : (byte : ℕ) → eqb byte 41 ≡ false → (text : List ℕ) → Cut text → Cut (byte ∷ text)
cut-further byte other text (ends _ none) = ends (byte ∷ text) (All-cons (λ b. eqb b 41 ≡ false) byte text other none)
cut-further byte other text (goes_on _ part more e none rest) = goes_on (byte ∷ text) (byte ∷ part) more (ap (λ t. byte ∷ t) e) (All-cons (λ b. eqb b 41 ≡ false) byte part other none) rest

cut : (text : List ℕ) → Cut text
cut [] = ends [] (All-nil (λ b. eqb b 41 ≡ false))
cut (byte ∷ text) = by_test (eqb byte 41) refl (cut text)
  where
    by_test : (b : Bool) → eqb byte 41 ≡ b → Cut text → Cut (byte ∷ text)
    by_test true e rest = goes_on (byte ∷ text) [] text (let is : byte ≡ 41 = grind (arith, nat_tests) in ap (λ b. b ∷ text) is) (All-nil (λ b. eqb b 41 ≡ false)) rest
    by_test false e rest = cut-further byte e text rest

-- ---- the segments of a text are the text
-- a name that was found stands where it was found
pub record IsFound (text front : List ℕ) (mark : ℕ) (name : List ℕ) : Type 0 where
  pub whole : text ≡ front ++ mark ∷ 40 ∷ name
  pub is : is_mark mark ≡ true

abbrev Found : List ℕ → Option Opened → Type 0
Found text None = Unit {0}
Found text (Some (front, mark, name)) = IsFound text front mark name

found-further : (byte : ℕ) (text : List ℕ) (o : Option Opened) → Found text o → Found (byte ∷ text) (further byte o)
found-further byte text None f = tt
found-further byte text (Some (front, mark, name)) f = record { whole = ap (λ t. byte ∷ t) f.whole; is = f.is }

bracket : (rest : List ℕ) → begins_with 40 rest ≡ true → rest ≡ 40 ∷ drop 1 rest
bracket [] e = absurd (let no : false ≡ true = e in cc)
bracket (byte ∷ rest) e = let is : byte ≡ 40 = grind (arith, nat_tests) in ap (λ b. b ∷ rest) is

found : (text : List ℕ) → Found text (opened text)
found [] = tt
found (byte ∷ rest) = by_test (is_mark byte && begins_with 40 rest) refl (found rest)
  where
    by_test : (b : Bool) → (is_mark byte && begins_with 40 rest) ≡ b → Found rest (opened rest) → Found (byte ∷ rest) (if b then Some ([], byte, drop 1 rest) else further byte (opened rest))
    by_test true e f = let both = and_parts (is_mark byte) (begins_with 40 rest) e in record { whole = ap (λ t. byte ∷ t) (bracket rest both.1); is = both.0 }
    by_test false e f = found-further byte rest (opened rest) f

-- a mark and its name as they are written
spelled-marked : (mark : ℕ) (name : List ℕ) → is_mark mark ≡ true → spelled (marked mark name) ≡ (mark ∷ 40 ∷ name) ++ 41 ∷ []
spelled-marked mark name is = by_test (eqb mark 36) refl
  where
    by_test : (b : Bool) → eqb mark 36 ≡ b → spelled (if b then Variable name else Setting name) ≡ (mark ∷ 40 ∷ name) ++ 41 ∷ []
    by_test true e = let here : 36 ≡ mark = grind (arith, nat_tests) in ap (λ m. (m ∷ 40 ∷ name) ++ 41 ∷ []) here
    by_test false e = let here : 64 ≡ mark = grind (arith, nat_tests) in ap (λ m. (m ∷ 40 ∷ name) ++ 41 ∷ []) here

spelled-closed : (part : List ℕ) → flat_map spelled (closed part) ≡ part ++ 41 ∷ []
spelled-closed part = by_found (opened part) (found part)
  where
    by_found : (o : Option Opened) → Found part o → flat_map spelled (elim o as (λ _. List Segment) [ Some (front, mark, name) ↦ Plain front ∷ marked mark name ∷ [] | None ↦ Plain part ∷ Plain (41 ∷ []) ∷ [] ]) ≡ part ++ 41 ∷ []
    by_found None f = refl
    by_found (Some (front, mark, name)) f =
        ap (λ t. front ++ t) (append-nil (spelled (marked mark name)) ∙ spelled-marked mark name f.is)
        ∙ sym (append_assoc front (mark ∷ 40 ∷ name) (41 ∷ [])) ∙ ap (λ t. t ++ 41 ∷ []) (sym f.whole)

spelled-last : (part : List ℕ) → flat_map spelled (last part) ≡ part
spelled-last part = by_found (opened part) (found part)
  where
    by_found : (o : Option Opened) → Found part o → flat_map spelled (elim o as (λ _. List Segment) [ Some (front, mark, name) ↦ Plain front ∷ Open (mark ∷ 40 ∷ name) ∷ [] | None ↦ Plain part ∷ [] ]) ≡ part
    by_found None f = append-nil part
    by_found (Some (front, mark, name)) f = ap (λ t. front ++ t) (append-nil (mark ∷ 40 ∷ name)) ∙ sym f.whole

pub spelled-segments : (text : List ℕ) → flat_map spelled (segments text) ≡ text
spelled-segments text = by_cut text (cut text)
  where
    by_cut : (text : List ℕ) → Cut text → flat_map spelled (segments text) ≡ text
    by_cut text (ends _ none) = ap (flat_map spelled) (segments-last text none) ∙ spelled-last text
    by_cut text (goes_on _ part more e none rest) =
        ap (λ t. flat_map spelled (segments t)) e ∙ ap (flat_map spelled) (segments-closed part more none) ∙ flat_map-append spelled (closed part) (segments more)
        ∙ ap (λ t. t ++ flat_map spelled (segments more)) (spelled-closed part) ∙ ap (λ t. (part ++ 41 ∷ []) ++ t) (by_cut more rest)
        ∙ append_assoc part (41 ∷ []) more ∙ sym e

-- ---- each segment is one
-- what stands before a name opens none
abbrev FrontIsPlain : Option Opened → Type 0
FrontIsPlain None = Unit {0}
FrontIsPlain (Some (front, mark, name)) = opened front ≡ None

-- the front of a text begins as it does
front-begins : (part more : List ℕ) → begins_with 40 part ≡ true → begins_with 40 (part ++ more) ≡ true
front-begins [] more e = absurd (let no : false ≡ true = e in cc)
front-begins (byte ∷ part) more e = e

both-tests : (a b c d : Bool) → (a ≡ true → c ≡ true) → (b ≡ true → d ≡ true) → (c && d) ≡ false → (a && b) ≡ false
both-tests true true c d ac bd e = absurd (let yes : (c && d) ≡ true = ap (λ x. x && d) (ac refl) ∙ bd refl in cc)
both-tests true false c d ac bd e = refl
both-tests false b c d ac bd e = refl

opened-other : (byte : ℕ) (rest : List ℕ) → (is_mark byte && begins_with 40 rest) ≡ false → opened (byte ∷ rest) ≡ further byte (opened rest)
opened-other byte rest e = ap (λ b. if b then Some ([], byte, drop 1 rest) else further byte (opened rest)) e

front-further : (byte : ℕ) (rest : List ℕ) (o : Option Opened) → (is_mark byte && begins_with 40 rest) ≡ false → Found rest o → FrontIsPlain o → FrontIsPlain (further byte o)
front-further byte rest None e f h = tt
front-further byte rest (Some (front, mark, name)) e f h =
    let apart : (is_mark byte && begins_with 40 front) ≡ false = both-tests (is_mark byte) (begins_with 40 front) (is_mark byte) (begins_with 40 rest) (λ x. x) (λ x. ap (begins_with 40) f.whole ∙ front-begins front (mark ∷ 40 ∷ name) x) e in
    opened-other byte front apart ∙ ap (further byte) h

front-plain : (text : List ℕ) → FrontIsPlain (opened text)
front-plain [] = tt
front-plain (byte ∷ rest) = by_test (is_mark byte && begins_with 40 rest) refl (front-plain rest)
  where
    by_test : (b : Bool) → (is_mark byte && begins_with 40 rest) ≡ b → FrontIsPlain (opened rest) → FrontIsPlain (if b then Some ([], byte, drop 1 rest) else further byte (opened rest))
    by_test true e h = refl
    by_test false e h = front-further byte rest (opened rest) e (found rest) h

-- the name of a part without a closing bracket has none
name-whole : (part front : List ℕ) (mark : ℕ) (name : List ℕ) → HasNoBracket part → IsFound part front mark name → HasNoBracket (mark ∷ 40 ∷ name)
name-whole part front mark name none f =
    let at : drop (length front) part ≡ mark ∷ 40 ∷ name = ap (drop (length front)) f.whole ∙ drop-append_seam front (mark ∷ 40 ∷ name) in
    subst HasNoBracket at (All-drop (λ b. eqb b 41 ≡ false) (length front) part none)

opened-marked : (mark : ℕ) (name : List ℕ) → is_mark mark ≡ true → opened (mark ∷ 40 ∷ name) ≡ Some ([], mark, name)
opened-marked mark name is = ap (λ b. if b && true then Some ([], mark, name) else further mark (opened (40 ∷ name))) is

IsSegment-marked : (mark : ℕ) (name : List ℕ) → HasNoBracket name → IsSegment (marked mark name)
IsSegment-marked mark name none = by_test (eqb mark 36)
  where
    by_test : (b : Bool) → IsSegment (if b then Variable name else Setting name)
    by_test true = none
    by_test false = none

tail-whole : (mark : ℕ) (name : List ℕ) → HasNoBracket (mark ∷ 40 ∷ name) → HasNoBracket name
tail-whole mark name none = All-tail (λ b. eqb b 41 ≡ false) 40 name (All-tail (λ b. eqb b 41 ≡ false) mark (40 ∷ name) none)

each-closed : (part : List ℕ) → HasNoBracket part → All IsSegment (closed part)
each-closed part none = by_found (opened part) refl (found part) (front-plain part)
  where
    by_found : (o : Option Opened) → opened part ≡ o → Found part o → FrontIsPlain o → All IsSegment (elim o as (λ _. List Segment) [ Some (front, mark, name) ↦ Plain front ∷ marked mark name ∷ [] | None ↦ Plain part ∷ Plain (41 ∷ []) ∷ [] ])
    by_found None is f h = All-cons IsSegment (Plain part) (Plain (41 ∷ []) ∷ []) is (All-cons IsSegment (Plain (41 ∷ [])) [] refl (All-nil IsSegment))
    by_found (Some (front, mark, name)) is f h =
        All-cons IsSegment (Plain front) (marked mark name ∷ []) h
        (All-cons IsSegment (marked mark name) [] (IsSegment-marked mark name (tail-whole mark name (name-whole part front mark name none f))) (All-nil IsSegment))

each-last : (part : List ℕ) → HasNoBracket part → All IsSegment (last part)
each-last part none = by_found (opened part) refl (found part) (front-plain part)
  where
    by_found : (o : Option Opened) → opened part ≡ o → Found part o → FrontIsPlain o → All IsSegment (elim o as (λ _. List Segment) [ Some (front, mark, name) ↦ Plain front ∷ Open (mark ∷ 40 ∷ name) ∷ [] | None ↦ Plain part ∷ [] ])
    by_found None is f h = All-cons IsSegment (Plain part) [] is (All-nil IsSegment)
    by_found (Some (front, mark, name)) is f h =
        All-cons IsSegment (Plain front) (Open (mark ∷ 40 ∷ name) ∷ []) h
        (All-cons IsSegment (Open (mark ∷ 40 ∷ name)) [] (name-whole part front mark name none f, (λ e. let some = opened-marked mark name f.is in cc)) (All-nil IsSegment))

pub each-segments : (text : List ℕ) → All IsSegment (segments text)
each-segments text = by_cut text (cut text)
  where
    by_cut : (text : List ℕ) → Cut text → All IsSegment (segments text)
    by_cut text (ends _ none) = subst (All IsSegment) (sym (segments-last text none)) (each-last text none)
    by_cut text (goes_on _ part more e none rest) =
        subst (All IsSegment) (sym (ap segments e ∙ segments-closed part more none)) (All-append IsSegment (closed part) (segments more) (each-closed part none) (by_cut more rest))

-- ---- texts that grow
grown-fits : (text more : List ℕ) → length text + length more ≤ 1048576 → grown text more ≡ Ok (text ++ more)
grown-fits text more h = let e : ltb 1048576 (length text + length more) ≡ false = grind (arith, nat_tests) in ap (λ b. if b then Err TooLong else Ok (text ++ more)) e

grown-long : (text more : List ℕ) → 1048576 < length text + length more → grown text more ≡ Err TooLong
grown-long text more h = let e : ltb 1048576 (length text + length more) ≡ true = grind (arith, nat_tests) in ap (λ b. if b then Err TooLong else Ok (text ++ more)) e

pub record HasGrown (text more longer : List ℕ) : Type 0 where
  pub whole : longer ≡ text ++ more
  pub fits : length text + length more ≤ 1048576

grown-ok : (text more longer : List ℕ) → grown text more ≡ Ok longer → HasGrown text more longer
grown-ok text more longer e = by_size (cases_lt 1048576 (length text + length more))
  where
    by_size : (1048576 < length text + length more) ⊎ (length text + length more ≤ 1048576) → HasGrown text more longer
    by_size (inl long) = absurd (let no = grown-long text more long in cc)
    by_size (inr fits) = record { whole = (let is = grown-fits text more fits in cc); fits = fits }

-- more in two parts
grown-two : (text one two : List ℕ) → grown text (one ++ two) ≡ and_then (grown text one) (λ longer. grown longer two)
grown-two text one two = by_size (cases_lt 1048576 (length text + length one))
  where
    both : length (one ++ two) ≡ length one + length two
    both = length-append one two

    longer : length (text ++ one) ≡ length text + length one
    longer = length-append text one

    by_all : length text + length one ≤ 1048576 → (1048576 < length text + length (one ++ two)) ⊎ (length text + length (one ++ two) ≤ 1048576) → grown text (one ++ two) ≡ grown (text ++ one) two
    by_all fits (inl long) = grown-long text (one ++ two) long ∙ sym (grown-long (text ++ one) two (omega (arith, both, longer)))
    by_all fits (inr all) = grown-fits text (one ++ two) all ∙ ap Ok (sym (append_assoc text one two)) ∙ sym (grown-fits (text ++ one) two (omega (arith, both, longer)))

    by_size : (1048576 < length text + length one) ⊎ (length text + length one ≤ 1048576) → grown text (one ++ two) ≡ and_then (grown text one) (λ longer. grown longer two)
    by_size (inl long) = grown-long text (one ++ two) (omega (arith, both)) ∙ sym (ap (λ r. and_then r (λ longer. grown longer two)) (grown-long text one long))
    by_size (inr fits) = by_all fits (cases_lt 1048576 (length text + length (one ++ two))) ∙ sym (ap (λ r. and_then r (λ longer. grown longer two)) (grown-fits text one fits))

-- ---- texts without marks
opened-plain : (text : List ℕ) → is_plain text ≡ true → opened text ≡ None
opened-plain [] e = refl
opened-plain (byte ∷ rest) e = by_mark (is_mark byte) e (opened-plain rest)
  where
    by_mark : (b : Bool) → (not b && is_plain rest) ≡ true → (is_plain rest ≡ true → opened rest ≡ None) → (if b && begins_with 40 rest then Some ([], byte, drop 1 rest) else further byte (opened rest)) ≡ None
    by_mark true e none = absurd (let no : false ≡ true = e in cc)
    by_mark false e none = ap (further byte) (none e)

plain-append : (front back : List ℕ) → is_plain (front ++ back) ≡ true → (is_plain front ≡ true) × (is_plain back ≡ true)
plain-append [] back e = (refl, e)
plain-append (byte ∷ front) back e = by_mark (not (is_mark byte)) e (plain-append front back)
  where
    by_mark : (b : Bool) → (b && is_plain (front ++ back)) ≡ true → (is_plain (front ++ back) ≡ true → (is_plain front ≡ true) × (is_plain back ≡ true)) → ((b && is_plain front) ≡ true) × (is_plain back ≡ true)
    by_mark true e both = both e
    by_mark false e both = absurd (let no : false ≡ true = e in cc)

pub expansion-plain : (names : Scope) (text : List ℕ) → is_plain text ≡ true → length text ≤ 1048576 → expansion names text ≡ Ok text
expansion-plain names text plain fits = by_cut [] text (cut text) plain (omega arith)
  where
    by_cut : (done text : List ℕ) → Cut text → is_plain text ≡ true → length done + length text ≤ 1048576 → with_segments names done (segments text) ≡ Ok (done ++ text)
    by_cut done text (ends _ none) plain fits =
        ap (with_segments names done) (segments-last text none ∙ ap (λ o. elim o as (λ _. List Segment) [ Some (front, mark, name) ↦ Plain front ∷ Open (mark ∷ 40 ∷ name) ∷ [] | None ↦ Plain text ∷ [] ]) (opened-plain text plain))
        ∙ ap (λ r. elim r as (λ _. Result (List ℕ) VarFault) [ Ok longer ↦ Ok longer | Err fault ↦ Err fault ]) (grown-fits done text fits)
    by_cut done text (goes_on _ part more e none rest) plain fits =
        let parts = plain-append part (41 ∷ more) (ap is_plain (sym e) ∙ plain) in
        let size : length text ≡ length part + suc (length more) = ap length e ∙ length-append part (41 ∷ more) in
        let size1 : length (done ++ part) ≡ length done + length part = length-append done part in
        let size2 : length ((done ++ part) ++ 41 ∷ []) ≡ length (done ++ part) + 1 = length-append (done ++ part) (41 ∷ []) in
        let first : with_segments names done (closed part) ≡ Ok ((done ++ part) ++ 41 ∷ []) =
        ap (λ o. with_segments names done (elim o as (λ _. List Segment) [ Some (front, mark, name) ↦ Plain front ∷ marked mark name ∷ [] | None ↦ Plain part ∷ Plain (41 ∷ []) ∷ [] ])) (opened-plain part parts.0)
        ∙ ap (λ r. elim r as (λ _. Result (List ℕ) VarFault) [ Ok longer ↦ with_segments names longer (Plain (41 ∷ []) ∷ []) | Err fault ↦ Err fault ]) (grown-fits done part (omega arith))
        ∙ ap (λ r. elim r as (λ _. Result (List ℕ) VarFault) [ Ok longer ↦ Ok longer | Err fault ↦ Err fault ]) (grown-fits (done ++ part) (41 ∷ []) (omega arith)) in
        ap (λ t. with_segments names done (segments t)) e ∙ ap (with_segments names done) (segments-closed part more none) ∙ with_segments-append names done (closed part) (segments more)
        ∙ ap (λ r. and_then r (λ longer. with_segments names longer (segments more))) first
        ∙ by_cut ((done ++ part) ++ 41 ∷ []) more rest parts.1 (omega arith)
        ∙ ap Ok (append_assoc (done ++ part) (41 ∷ []) more ∙ append_assoc done part (41 ∷ more) ∙ ap (λ t. done ++ t) (sym e))

-- ---- two texts one behind the other
-- what is found behind a text
abbrev behind : List ℕ → Option Opened → Option Opened
behind text found = option_map (λ (front, mark, name). (text ++ front, mark, name)) found

behind-none : (o : Option Opened) → o ≡ behind [] o
behind-none None = refl
behind-none (Some (front, mark, name)) = refl

behind-byte : (byte : ℕ) (text : List ℕ) (o : Option Opened) → further byte (behind text o) ≡ behind (byte ∷ text) o
behind-byte byte text None = refl
behind-byte byte text (Some (front, mark, name)) = refl

further-none : (byte : ℕ) (o : Option Opened) → further byte o ≡ None → o ≡ None
further-none byte None e = refl
further-none byte (Some (front, mark, name)) e = absurd (cc)

-- where nothing is found in a text, nothing begins at its first byte
no_opening : (byte : ℕ) (rest : List ℕ) → opened (byte ∷ rest) ≡ None → ((is_mark byte && begins_with 40 rest) ≡ false) × (opened rest ≡ None)
no_opening byte rest e = by_test (is_mark byte && begins_with 40 rest) e
  where
    by_test : (b : Bool) → (if b then Some ([], byte, drop 1 rest) else further byte (opened rest)) ≡ None → (b ≡ false) × (opened rest ≡ None)
    by_test true e = absurd (cc)
    by_test false e = (refl, further-none byte (opened rest) e)

opened-behind : (text more : List ℕ) → opened text ≡ None → (ends_in_mark text && begins_with 40 more) ≡ false → opened (text ++ more) ≡ behind text (opened more)
opened-behind [] more none apart = behind-none (opened more)
opened-behind (byte ∷ []) more none apart = opened-other byte more apart
opened-behind (byte ∷ next ∷ text) more none apart =
    let first = no_opening byte (next ∷ text) none in
    opened-other byte (next ∷ (text ++ more)) first.0 ∙ ap (further byte) (opened-behind (next ∷ text) more first.1 apart) ∙ behind-byte byte (next ∷ text) (opened more)

-- a plain segment in two parts
plain-two : (names : Scope) (done one two longer : List ℕ) (more : List Segment) → grown done one ≡ Ok longer → with_segments names done (Plain (one ++ two) ∷ more) ≡ with_segments names longer (Plain two ∷ more)
plain-two names done one two longer more e =
    ap (λ r. elim r as (λ _. Result (List ℕ) VarFault) [ Ok longer ↦ with_segments names longer more | Err fault ↦ Err fault ]) (grown-two done one two ∙ ap (λ r. and_then r (λ longer. grown longer two)) e)

last-behind : (names : Scope) (done text longer part : List ℕ) → grown done text ≡ Ok longer → opened (text ++ part) ≡ behind text (opened part) → with_segments names done (last (text ++ part)) ≡ with_segments names longer (last part)
last-behind names done text longer part e at =
    ap (λ o. with_segments names done (elim o as (λ _. List Segment) [ Some (front, mark, name) ↦ Plain front ∷ Open (mark ∷ 40 ∷ name) ∷ [] | None ↦ Plain (text ++ part) ∷ [] ])) at ∙ by_found (opened part)
  where
    by_found : (o : Option Opened) → with_segments names done (elim (behind text o) as (λ _. List Segment) [ Some (front, mark, name) ↦ Plain front ∷ Open (mark ∷ 40 ∷ name) ∷ [] | None ↦ Plain (text ++ part) ∷ [] ])
        ≡ with_segments names longer (elim o as (λ _. List Segment) [ Some (front, mark, name) ↦ Plain front ∷ Open (mark ∷ 40 ∷ name) ∷ [] | None ↦ Plain part ∷ [] ])
    by_found None = plain-two names done text part longer [] e
    by_found (Some (front, mark, name)) = plain-two names done text front longer (Open (mark ∷ 40 ∷ name) ∷ []) e

closed-behind : (names : Scope) (done text longer part : List ℕ) → grown done text ≡ Ok longer → opened (text ++ part) ≡ behind text (opened part) → with_segments names done (closed (text ++ part)) ≡ with_segments names longer (closed part)
closed-behind names done text longer part e at =
    ap (λ o. with_segments names done (elim o as (λ _. List Segment) [ Some (front, mark, name) ↦ Plain front ∷ marked mark name ∷ [] | None ↦ Plain (text ++ part) ∷ Plain (41 ∷ []) ∷ [] ])) at ∙ by_found (opened part)
  where
    by_found : (o : Option Opened) → with_segments names done (elim (behind text o) as (λ _. List Segment) [ Some (front, mark, name) ↦ Plain front ∷ marked mark name ∷ [] | None ↦ Plain (text ++ part) ∷ Plain (41 ∷ []) ∷ [] ])
        ≡ with_segments names longer (elim o as (λ _. List Segment) [ Some (front, mark, name) ↦ Plain front ∷ marked mark name ∷ [] | None ↦ Plain part ∷ Plain (41 ∷ []) ∷ [] ])
    by_found None = plain-two names done text part longer (Plain (41 ∷ []) ∷ []) e
    by_found (Some (front, mark, name)) = plain-two names done text front longer (marked mark name ∷ []) e

-- the last part of a text that stands for something opens no bracket
last-ok : (names : Scope) (done text longer : List ℕ) → with_segments names done (last text) ≡ Ok longer → (opened text ≡ None) × (grown done text ≡ Ok longer)
last-ok names done text longer e = by_found (opened text) refl e
  where
    only : (r : Result (List ℕ) VarFault) → (elim r as (λ _. Result (List ℕ) VarFault) [ Ok more ↦ Ok more | Err fault ↦ Err fault ]) ≡ Ok longer → r ≡ Ok longer
    only (Ok more) e = e
    only (Err fault) e = e

    never : (rest : List ℕ) (r : Result (List ℕ) VarFault) → (elim r as (λ _. Result (List ℕ) VarFault) [ Ok more ↦ with_segments names more (Open rest ∷ []) | Err fault ↦ Err fault ]) ≡ Ok longer → ⊥
    never rest (Ok more) e = cc
    never rest (Err fault) e = cc

    by_found : (o : Option Opened) → opened text ≡ o → with_segments names done (elim o as (λ _. List Segment) [ Some (front, mark, name) ↦ Plain front ∷ Open (mark ∷ 40 ∷ name) ∷ [] | None ↦ Plain text ∷ [] ]) ≡ Ok longer
        → (o ≡ None) × (grown done text ≡ Ok longer)
    by_found None is e = (refl, only (grown done text) e)
    by_found (Some (front, mark, name)) is e = absurd (never (mark ∷ 40 ∷ name) (grown done front) e)

-- the back of a text ends as it does
back-ends : (part more : List ℕ) → ends_in_mark more ≡ true → ends_in_mark (part ++ more) ≡ true
back-ends [] more e = e
back-ends (byte ∷ []) [] e = absurd (let no : false ≡ true = e in cc)
back-ends (byte ∷ []) (next ∷ more) e = e
back-ends (byte ∷ next ∷ part) more e = back-ends (next ∷ part) more e

-- behind a text without a closing bracket
behind-last : (names : Scope) (done text longer more : List ℕ) → HasNoBracket text → (ends_in_mark text && begins_with 40 more) ≡ false → with_segments names done (last text) ≡ Ok longer → with_segments names done (segments (text ++ more)) ≡ with_segments names longer (segments more)
behind-last names done text longer more none apart e = by_cut (cut more)
  where
    both : (opened text ≡ None) × (grown done text ≡ Ok longer)
    both = last-ok names done text longer e

    by_cut : Cut more → with_segments names done (segments (text ++ more)) ≡ with_segments names longer (segments more)
    by_cut (ends _ none2) =
        ap (with_segments names done) (segments-last (text ++ more) (All-append (λ b. eqb b 41 ≡ false) text more none none2))
        ∙ last-behind names done text longer more both.1 (opened-behind text more both.0 apart)
        ∙ ap (with_segments names longer) (sym (segments-last more none2))
    by_cut (goes_on _ part rest is none2 _) =
        let near : (ends_in_mark text && begins_with 40 part) ≡ false = both-tests (ends_in_mark text) (begins_with 40 part) (ends_in_mark text) (begins_with 40 more) (λ x. x) (λ x. ap (begins_with 40) is ∙ front-begins part (41 ∷ rest) x) apart in
        ap (λ t. with_segments names done (segments t)) (ap (λ t. text ++ t) is ∙ sym (append_assoc text part (41 ∷ rest)))
        ∙ ap (with_segments names done) (segments-closed (text ++ part) rest (All-append (λ b. eqb b 41 ≡ false) text part none none2))
        ∙ with_segments-append names done (closed (text ++ part)) (segments rest)
        ∙ ap (λ r. and_then r (λ longer. with_segments names longer (segments rest))) (closed-behind names done text longer part both.1 (opened-behind text part both.0 near))
        ∙ sym (with_segments-append names longer (closed part) (segments rest))
        ∙ ap (with_segments names longer) (sym (segments-closed part rest none2))
        ∙ ap (λ t. with_segments names longer (segments t)) (sym is)

and_then-ok : (r : Result (List ℕ) VarFault) (next : List ℕ → Result (List ℕ) VarFault) (longer : List ℕ) → and_then r next ≡ Ok longer → (mid : List ℕ) × (r ≡ Ok mid) × (next mid ≡ Ok longer)
and_then-ok (Ok mid) next longer e = (mid, refl, e)
and_then-ok (Err fault) next longer e = absurd (cc)

-- behind any text that stands for something
behind-text : (names : Scope) (done text longer more : List ℕ) → Cut text → (ends_in_mark text && begins_with 40 more) ≡ false → with_segments names done (segments text) ≡ Ok longer → with_segments names done (segments (text ++ more)) ≡ with_segments names longer (segments more)
behind-text names done text longer more (ends _ none) apart e = behind-last names done text longer more none apart (ap (with_segments names done) (sym (segments-last text none)) ∙ e)
behind-text names done text longer more (goes_on _ part rest is none cut_rest) apart e =
    let turn : with_segments names done (segments text) ≡ and_then (with_segments names done (closed part)) (λ longer. with_segments names longer (segments rest)) =
    ap (λ t. with_segments names done (segments t)) is ∙ ap (with_segments names done) (segments-closed part rest none) ∙ with_segments-append names done (closed part) (segments rest) in
    let mid = and_then-ok (with_segments names done (closed part)) (λ longer. with_segments names longer (segments rest)) longer (sym turn ∙ e) in
    let near : (ends_in_mark rest && begins_with 40 more) ≡ false = both-tests (ends_in_mark rest) (begins_with 40 more) (ends_in_mark text) (begins_with 40 more)
    (λ x. ap ends_in_mark is ∙ back-ends part (41 ∷ rest) (back-ends (41 ∷ []) rest x)) (λ x. x) apart in
    ap (λ t. with_segments names done (segments t)) (ap (λ t. t ++ more) is ∙ append_assoc part (41 ∷ rest) more)
    ∙ ap (with_segments names done) (segments-closed part (rest ++ more) none) ∙ with_segments-append names done (closed part) (segments (rest ++ more))
    ∙ ap (λ r. and_then r (λ longer. with_segments names longer (segments (rest ++ more)))) mid.1
    ∙ behind-text names mid.0 rest longer more cut_rest near mid.2

-- ---- a text with more in front
with_segment-ok : (names : Scope) (text : List ℕ) (segment : Segment) (longer : List ℕ) → with_segment names text segment ≡ Ok longer → (more : List ℕ) × (value names segment ≡ Ok more) × (grown text more ≡ Ok longer)
with_segment-ok names text segment longer e = by_value (value names segment) e
  where
    by_value : (r : Result (List ℕ) VarFault) → (elim r as (λ _. Result (List ℕ) VarFault) [ Ok more ↦ grown text more | Err fault ↦ Err fault ]) ≡ Ok longer → (more : List ℕ) × (r ≡ Ok more) × (grown text more ≡ Ok longer)
    by_value (Ok more) e = (more, refl, e)
    by_value (Err fault) e = absurd (cc)

with_segments-ok : (names : Scope) (text : List ℕ) (segment : Segment) (more : List Segment) (longer : List ℕ) → with_segments names text (segment ∷ more) ≡ Ok longer → (mid : List ℕ) × (with_segment names text segment ≡ Ok mid) × (with_segments names mid more ≡ Ok longer)
with_segments-ok names text segment more longer e = by_first (with_segment names text segment) e
  where
    by_first : (r : Result (List ℕ) VarFault) → (elim r as (λ _. Result (List ℕ) VarFault) [ Ok mid ↦ with_segments names mid more | Err fault ↦ Err fault ]) ≡ Ok longer → (mid : List ℕ) × (r ≡ Ok mid) × (with_segments names mid more ≡ Ok longer)
    by_first (Ok mid) e = (mid, refl, e)
    by_first (Err fault) e = absurd (cc)

no_shorter : (names : Scope) (text : List ℕ) (all : List Segment) (longer : List ℕ) → with_segments names text all ≡ Ok longer → length text ≤ length longer
no_shorter names text [] longer e = let same : text ≡ longer = cc in let size : length text ≡ length longer = ap length same in omega arith
no_shorter names text (segment ∷ more) longer e =
    let first = with_segments-ok names text segment more longer e in
    let one = with_segment-ok names text segment first.0 first.1 in
    let has = grown-ok text one.0 first.0 one.2 in
    let size : length first.0 ≡ length text + length one.0 = ap length has.whole ∙ length-append text one.0 in
    let rest = no_shorter names first.0 more longer first.2 in
    omega arith

with_segments-behind : (names : Scope) (front text : List ℕ) (all : List Segment) (longer : List ℕ) → with_segments names text all ≡ Ok longer → length front + length longer ≤ 1048576 → with_segments names (front ++ text) all ≡ Ok (front ++ longer)
with_segments-behind names front text [] longer e fits = let same : text ≡ longer = cc in ap (λ t. Ok (front ++ t)) same
with_segments-behind names front text (segment ∷ more) longer e fits =
    let first = with_segments-ok names text segment more longer e in
    let one = with_segment-ok names text segment first.0 first.1 in
    let has = grown-ok text one.0 first.0 one.2 in
    let size : length first.0 ≡ length text + length one.0 = ap length has.whole ∙ length-append text one.0 in
    let small = no_shorter names first.0 more longer first.2 in
    let front_size : length (front ++ text) ≡ length front + length text = length-append front text in
    let here : with_segment names (front ++ text) segment ≡ Ok (front ++ first.0) =
    ap (λ r. elim r as (λ _. Result (List ℕ) VarFault) [ Ok more ↦ grown (front ++ text) more | Err fault ↦ Err fault ]) one.1
    ∙ grown-fits (front ++ text) one.0 (omega arith) ∙ ap Ok (append_assoc front text one.0 ∙ ap (λ t. front ++ t) (sym has.whole)) in
    ap (λ r. elim r as (λ _. Result (List ℕ) VarFault) [ Ok mid ↦ with_segments names mid more | Err fault ↦ Err fault ]) here
    ∙ with_segments-behind names front first.0 more longer first.2 fits

pub expansion-joins : (names : Scope) (front back : List ℕ) → are_apart front back ≡ true → Joins names front back
expansion-joins names front back apart first second one two fits =
    behind-text names [] front first back (cut front) (not-true (ends_in_mark front && begins_with 40 back) apart) one
    ∙ ap (λ t. with_segments names t (segments back)) (sym (append-nil first)) ∙ with_segments-behind names first [] (segments back) second two fits
