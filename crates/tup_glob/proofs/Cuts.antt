-- A name matches where it can be cut, and the part of the first operator is the shortest.
use Rattle.std.proofs.Common.{◌≡◌, ℕ, suc, ◌+◌, ◌-◌, ◌≤◌, Bool, true, false, ◌&&◌, List, [], ◌∷◌, ◌++◌, length, Option, Some, None, is_some, not, if◌then◌else◌, refl, ap, sym, subst, ◌∙◌, length-append, arith}
use Rattle.std.proofs.lemmas.Bool.{false≢true, and_parts, and_from, eqb-true}
use Rattle.std.proofs.lemmas.Str.{encodes-chars, encodes-append}
use Rattle.std.specs.List.{list_all}
use Rattle.std.specs.Option.{option_map}
use Rattle.std.specs.Str.{chars, IsUtf8, encode_utf8_all}
use Rattle.tup_lex.specs.declared.span.Span.{Span}
use Rattle.tup_lex.specs.Word.{span}
use Rattle.tup_glob.specs.declared.symbol.Symbol.{Symbol}
use Rattle.tup_glob.specs.declared.symbol.Symbol.TheVariants.{Char, Run, One, Set}
use Rattle.tup_glob.specs.declared.symbol.Range.{Range}
use Rattle.tup_glob.specs.Symbol.{accepts, is_literal}
use Rattle.tup_glob.specs.Match.{first_rest, matches}
use Rattle.tup_glob.specs.Part.{ends_of, part_of, place, matched_part}
use Rattle.tup_glob.specs.Cut.{StandsFor, CanBeCut, IsCutAt, IsMatchedPart}

-- ---- the longest rest that passes
-- what stands before it is the shortest text before such a rest
pub record IsFirst (test : List ℕ → Bool) (text run rest : List ℕ) : Type 0 where
  pub whole : text ≡ run ++ rest
  pub passes : test rest ≡ true
  pub shortest : (run' rest' : List ℕ) → text ≡ run' ++ rest' → test rest' ≡ true → length run ≤ length run'

first_later : (test : List ℕ → Bool) (char : ℕ) (text run rest : List ℕ) → test (char ∷ text) ≡ false → IsFirst test text run rest → IsFirst test (char ∷ text) (char ∷ run) rest
first_later test char text run rest fails is = record {
  whole = ap (λ t. char ∷ t) is.whole;
  passes = is.passes;
  shortest = λ run' rest' whole passes. elim run' as (λ r. char ∷ text ≡ r ++ rest' → suc (length run) ≤ length r) [
    | [] ↦ λ e. absurd (false≢true (sym fails ∙ ap test e ∙ passes))
    | head ∷ tail ↦ λ e. let same : text ≡ tail ++ rest' = cc in let least = is.shortest tail rest' same passes in omega arith
  ] whole;
}

first_step : (test : List ℕ → Bool) (char : ℕ) (text rest : List ℕ) (here : Bool) → test (char ∷ text) ≡ here →
    (if here then Some (char ∷ text) else first_rest test text) ≡ Some rest → (first_rest test text ≡ Some rest → (run : List ℕ) × IsFirst test text run rest) →
    (run : List ℕ) × IsFirst test (char ∷ text) run rest
first_step test char text rest true here found later =
    let same : char ∷ text ≡ rest = cc in
    ([], record { whole = same; passes = ap test (sym same) ∙ here; shortest = λ run' rest' whole passes. omega arith })
first_step test char text rest false here found later =
    let next = later found in (char ∷ next.0, first_later test char text next.0 rest here next.1)

first_none : (test : List ℕ → Bool) (rest : List ℕ) (here : Bool) → test [] ≡ here → (if here then Some [] else None) ≡ Some rest → (run : List ℕ) × IsFirst test [] run rest
first_none test rest true here found =
    let same : [] ≡ rest = cc in
    ([], record { whole = same; passes = ap test (sym same) ∙ here; shortest = λ run' rest' whole passes. omega arith })
first_none test rest false here found = absurd cc

pub first_rest_is : (test : List ℕ → Bool) (text rest : List ℕ) → first_rest test text ≡ Some rest → (run : List ℕ) × IsFirst test text run rest
first_rest_is test [] rest found = first_none test rest (test []) refl found
first_rest_is test (char ∷ text) rest found = first_step test char text rest (test (char ∷ text)) refl found (first_rest_is test text rest)

-- where some rest passes, one is found
found_later : (here : Bool) (text : List ℕ) (later : Option (List ℕ)) → is_some later ≡ true → is_some (if here then Some text else later) ≡ true
found_later true text later e = refl
found_later false text later e = e

some_rest : (test : List ℕ → Bool) (run rest : List ℕ) → test rest ≡ true → is_some (first_rest test (run ++ rest)) ≡ true
some_rest test [] [] passes = ap (λ b. is_some {T = List ℕ} (if b then Some [] else None)) passes
some_rest test [] (char ∷ rest) passes = ap (λ b. is_some (if b then Some (char ∷ rest) else first_rest test rest)) passes
some_rest test (char ∷ run) rest passes = found_later (test (char ∷ (run ++ rest))) (char ∷ (run ++ rest)) (first_rest test (run ++ rest)) (some_rest test run rest passes)

-- ---- a name matches where it can be cut
cut_one : (symbol : Symbol) (more : List Symbol) (char : ℕ) (rest : List ℕ) → StandsFor symbol (char ∷ []) → CanBeCut more rest → CanBeCut (symbol ∷ more) (char ∷ rest)
cut_one symbol more char rest stands cut = (char ∷ [], rest, refl, stands, cut)

-- of a text that was found, if one was
found_text : (o : Option (List ℕ)) → is_some o ≡ true → (rest : List ℕ) × (o ≡ Some rest)
found_text None e = absurd cc
found_text (Some rest) e = (rest, refl)

pub cut_from_matches : (symbols : List Symbol) (name : List ℕ) → matches symbols name ≡ true → CanBeCut symbols name
cut_from_matches [] [] e = refl
cut_from_matches [] (char ∷ rest) e = absurd cc
cut_from_matches (Run ∷ more) name e =
    let found = found_text (first_rest (matches more) name) e in
    let first = first_rest_is (matches more) name found.0 found.1 in
    (first.0, found.0, first.1.whole, tt, cut_from_matches more found.0 first.1.passes)
cut_from_matches (Char own ∷ more) [] e = absurd cc
cut_from_matches (One ∷ more) [] e = absurd cc
cut_from_matches (Set negated members ∷ more) [] e = absurd cc
cut_from_matches (Char own ∷ more) (char ∷ rest) e =
    let facts = and_parts (accepts (Char own) char) (matches more rest) e in
    cut_one (Char own) more char rest (char, refl, facts.0) (cut_from_matches more rest facts.1)
cut_from_matches (One ∷ more) (char ∷ rest) e = cut_one One more char rest (char, refl, refl) (cut_from_matches more rest e)
cut_from_matches (Set negated members ∷ more) (char ∷ rest) e =
    let facts = and_parts (accepts (Set negated members) char) (matches more rest) e in
    cut_one (Set negated members) more char rest (char, refl, facts.0) (cut_from_matches more rest facts.1)

-- one character and what follows it
behind_one : (name part rest : List ℕ) (char : ℕ) → name ≡ part ++ rest → part ≡ char ∷ [] → name ≡ char ∷ rest
behind_one name part rest char whole one = whole ∙ ap (λ p. p ++ rest) one

pub matches_from_cut : (symbols : List Symbol) (name : List ℕ) → CanBeCut symbols name → matches symbols name ≡ true
matches_from_cut [] name cut = ap (matches []) cut
matches_from_cut (Run ∷ more) name (part, rest, whole, stands, cut) =
    ap (λ n. is_some (first_rest (matches more) n)) whole ∙ some_rest (matches more) part rest (matches_from_cut more rest cut)
matches_from_cut (Char own ∷ more) name (part, rest, whole, (char, one, accepted), cut) =
    ap (matches (Char own ∷ more)) (behind_one name part rest char whole one) ∙ and_from (accepts (Char own) char) (matches more rest) accepted (matches_from_cut more rest cut)
matches_from_cut (One ∷ more) name (part, rest, whole, (char, one, accepted), cut) =
    ap (matches (One ∷ more)) (behind_one name part rest char whole one) ∙ matches_from_cut more rest cut
matches_from_cut (Set negated members ∷ more) name (part, rest, whole, (char, one, accepted), cut) =
    ap (matches (Set negated members ∷ more)) (behind_one name part rest char whole one)
    ∙ and_from (accepts (Set negated members) char) (matches more rest) accepted (matches_from_cut more rest cut)

-- ---- the part of the first operator
-- a name that is cut, by what is left from the part on and behind it
pub record IsCutFrom (symbols : List Symbol) (name from behind : List ℕ) : Type 0 where
  pub before : List ℕ
  pub part : List ℕ
  pub from_is : from ≡ part ++ behind
  pub cut : IsCutAt symbols name before part behind

cut_char : (own char : ℕ) (more : List Symbol) (rest from behind : List ℕ) → own ≡ char → IsCutFrom more rest from behind → IsCutFrom (Char own ∷ more) (char ∷ rest) from behind
cut_char own char more rest from behind same is = record {
  before = char ∷ is.before;
  part = is.part;
  from_is = is.from_is;
  cut = record {
    whole = ap (λ t. char ∷ t) is.cut.whole;
    parts = (is.before, ap (λ c. c ∷ is.before) (sym same), is.cut.parts);
    shortest = λ before' part' rest' whole parts.
        let same_text : char ∷ rest ≡ own ∷ (parts.0 ++ (part' ++ rest')) = whole ∙ ap (λ b. b ++ (part' ++ rest')) parts.1 in
        let same_rest : rest ≡ parts.0 ++ (part' ++ rest') = cc in is.cut.shortest parts.0 part' rest' same_rest parts.2;
  };
}

cut_run : (more : List Symbol) (name behind : List ℕ) → first_rest (matches more) name ≡ Some behind → IsCutFrom (Run ∷ more) name name behind
cut_run more name behind found =
    let first = first_rest_is (matches more) name behind found in
    record {
      before = [];
      part = first.0;
      from_is = first.1.whole;
      cut = record {
        whole = first.1.whole;
        parts = (refl, tt, cut_from_matches more behind first.1.passes);
        shortest = λ before' part' rest' whole parts. first.1.shortest part' rest' (whole ∙ ap (λ b. b ++ (part' ++ rest')) parts.0) (matches_from_cut more rest' parts.2);
      };
    }

-- no text for which one character stands is shorter than one
one_long : (char : ℕ) (text : List ℕ) → text ≡ char ∷ [] → 1 ≤ length text
one_long char text one = let long : length text ≡ 1 = ap length one in omega arith

cut_any : (more : List Symbol) (char : ℕ) (rest : List ℕ) → matches more rest ≡ true → IsCutFrom (One ∷ more) (char ∷ rest) (char ∷ rest) rest
cut_any more char rest e = record {
  before = [];
  part = char ∷ [];
  from_is = refl;
  cut = record {
    whole = refl;
    parts = (refl, (char, refl, refl), cut_from_matches more rest e);
    shortest = λ before' part' rest' whole parts. one_long parts.1.0 part' parts.1.1;
  };
}

cut_set : (negated : Bool) (members : List Range) (more : List Symbol) (char : ℕ) (rest : List ℕ) → accepts (Set negated members) char ≡ true → matches more rest ≡ true →
    IsCutFrom (Set negated members ∷ more) (char ∷ rest) (char ∷ rest) rest
cut_set negated members more char rest accepted e = record {
  before = [];
  part = char ∷ [];
  from_is = refl;
  cut = record {
    whole = refl;
    parts = (refl, (char, refl, accepted), cut_from_matches more rest e);
    shortest = λ before' part' rest' whole parts. one_long parts.1.0 part' parts.1.1;
  };
}

-- equal pairs have equal parts
same_pair : (x y : List ℕ × List ℕ) → Some x ≡ Some y → (x.0 ≡ y.0) × (x.1 ≡ y.1)
same_pair x y e = let same : x ≡ y = cc in (ap (λ p. p.0) same, ap (λ p. p.1) same)

run_found : (o : Option (List ℕ)) (name from behind : List ℕ) → ◌≡◌ {A = Option (List ℕ × List ℕ)} (option_map (λ rest. (name, rest)) o) (Some (from, behind)) → (name ≡ from) × (o ≡ Some behind)
run_found None name from behind e = absurd cc
run_found (Some rest) name from behind e = let same = same_pair (name, rest) (from, behind) e in (same.0, ap (λ r. Some r) same.1)

same_ends : (symbols : List Symbol) (name from behind from' behind' : List ℕ) → ◌≡◌ {A = Option (List ℕ × List ℕ)} (Some (from', behind')) (Some (from, behind)) → IsCutFrom symbols name from' behind' → IsCutFrom symbols name from behind
same_ends symbols name from behind from' behind' e is =
    let same = same_pair (from', behind') (from, behind) e in
    let P : List ℕ → Type 0 = λ f. IsCutFrom symbols name f behind in
    let Q : List ℕ → Type 0 = λ b. IsCutFrom symbols name from' b in
    subst P same.0 (subst Q same.1 is)

ends_are_cut : (symbols : List Symbol) (name from behind : List ℕ) → matches symbols name ≡ true → ends_of symbols name ≡ Some (from, behind) → IsCutFrom symbols name from behind
ends_are_cut [] name from behind matched e = absurd cc
ends_are_cut (Run ∷ more) name from behind matched e =
    let found = run_found (first_rest (matches more) name) name from behind e in
    let P : List ℕ → Type 0 = λ f. IsCutFrom (Run ∷ more) name f behind in
    subst P found.0 (cut_run more name behind found.1)
ends_are_cut (Char own ∷ more) [] from behind matched e = absurd cc
ends_are_cut (One ∷ more) [] from behind matched e = absurd cc
ends_are_cut (Set negated members ∷ more) [] from behind matched e = absurd cc
ends_are_cut (Char own ∷ more) (char ∷ rest) from behind matched e =
    let facts = and_parts (accepts (Char own) char) (matches more rest) matched in
    cut_char own char more rest from behind (eqb-true own char facts.0) (ends_are_cut more rest from behind facts.1 e)
ends_are_cut (One ∷ more) (char ∷ rest) from behind matched e = same_ends (One ∷ more) (char ∷ rest) from behind (char ∷ rest) rest e (cut_any more char rest matched)
ends_are_cut (Set negated members ∷ more) (char ∷ rest) from behind matched e =
    let facts = and_parts (accepts (Set negated members) char) (matches more rest) matched in
    same_ends (Set negated members ∷ more) (char ∷ rest) from behind (char ∷ rest) rest e (cut_set negated members more char rest facts.0 facts.1)

-- ---- a pattern that matches has such a part, unless it has no operator
run_is_found : (o : Option (List ℕ)) (name : List ℕ) → is_some o ≡ true → is_some {T = List ℕ × List ℕ} (option_map (λ rest. (name, rest)) o) ≡ true
run_is_found None name e = absurd cc
run_is_found (Some rest) name e = refl

ends_are_some : (symbols : List Symbol) (name : List ℕ) → matches symbols name ≡ true → is_some (ends_of symbols name) ≡ not (list_all is_literal symbols)
ends_are_some [] name matched = refl
ends_are_some (Run ∷ more) name matched = run_is_found (first_rest (matches more) name) name matched
ends_are_some (Char own ∷ more) [] matched = absurd cc
ends_are_some (Char own ∷ more) (char ∷ rest) matched = ends_are_some more rest (and_parts (accepts (Char own) char) (matches more rest) matched).1
ends_are_some (One ∷ more) name matched = refl
ends_are_some (Set negated members ∷ more) name matched = refl

-- what a part that is found says of the name
pub part_is_some : (symbols : List Symbol) (name : List ℕ) → is_some (part_of symbols name) ≡ (matches symbols name && not (list_all is_literal symbols))
part_is_some symbols name =
    (elim (matches symbols name) as (λ m. matches symbols name ≡ m → is_some (if m then ends_of symbols name else None) ≡ (m && not (list_all is_literal symbols))) [
      | true ↦ ends_are_some symbols name
      | false ↦ λ e. refl
    ]) refl

part_is_cut : (symbols : List Symbol) (name from behind : List ℕ) → part_of symbols name ≡ Some (from, behind) → IsCutFrom symbols name from behind
part_is_cut symbols name from behind =
    (elim (matches symbols name) as (λ m. matches symbols name ≡ m → (if m then ends_of symbols name else None) ≡ Some (from, behind) → IsCutFrom symbols name from behind) [
      | true ↦ ends_are_cut symbols name from behind
      | false ↦ λ e found. absurd cc
    ]) refl

-- ---- the same in bytes
-- how many bytes stand before the part, and how many it has
record AreLengths (symbols : List Symbol) (name from behind : List ℕ) (is : IsCutFrom symbols (chars name) (chars from) (chars behind)) : Type 0 where
  to_part : length name ≡ length (encode_utf8_all is.before) + length from
  behind_part : length from ≡ length (encode_utf8_all is.part) + length behind

lengths : (symbols : List Symbol) (name from behind : List ℕ) → IsUtf8 name → IsUtf8 from → IsUtf8 behind → (is : IsCutFrom symbols (chars name) (chars from) (chars behind)) →
    AreLengths symbols name from behind is
lengths symbols name from behind name_utf8 from_utf8 behind_utf8 is =
    let from_bytes : from ≡ encode_utf8_all is.part ++ behind =
    sym (encodes-chars from from_utf8) ∙ ap encode_utf8_all is.from_is ∙ encodes-append is.part (chars behind) ∙ ap (λ b. encode_utf8_all is.part ++ b) (encodes-chars behind behind_utf8) in
    let name_bytes : name ≡ encode_utf8_all is.before ++ from =
    sym (encodes-chars name name_utf8) ∙ ap encode_utf8_all (is.cut.whole ∙ ap (λ t. is.before ++ t) (sym is.from_is)) ∙ encodes-append is.before (chars from)
    ∙ ap (λ b. encode_utf8_all is.before ++ b) (encodes-chars from from_utf8) in
    record {
      to_part = ap length name_bytes ∙ length-append (encode_utf8_all is.before) from;
      behind_part = ap length from_bytes ∙ length-append (encode_utf8_all is.part) behind;
    }

-- the span between two rests of a name
abbrev pub span_between : List ℕ → List ℕ → List ℕ → Span
span_between name from behind = span (length name - length from) (length name - length behind)

-- what is known of the part's ends
pub record IsPart (symbols : List Symbol) (name from behind : List ℕ) : Type 0 where
  pub from_within : length from ≤ length name
  pub behind_within : length behind ≤ length name
  pub value : Some (span_between name from behind) ≡ matched_part symbols name
  pub cut : IsMatchedPart symbols (chars name) (span_between name from behind)

pub is_part : (symbols : List Symbol) (name from behind : List ℕ) → IsUtf8 name → IsUtf8 from → IsUtf8 behind → part_of symbols (chars name) ≡ Some (chars from, chars behind) →
    IsPart symbols name from behind
is_part symbols name from behind name_utf8 from_utf8 behind_utf8 found =
    let is = part_is_cut symbols (chars name) (chars from) (chars behind) found in
    let are = lengths symbols name from behind name_utf8 from_utf8 behind_utf8 is in
    let to_part = are.to_part in
    let behind_part = are.behind_part in
    let in_name : List ℕ × List ℕ → Span = λ part. span (place (length name) part.0) (place (length name) part.1) in
    record {
      from_within = omega arith;
      behind_within = omega arith;
      value = sym (
          ap (option_map in_name) found
          ∙ ap (λ t. Some (span (length name - length t) (place (length name) (chars behind)))) (encodes-chars from from_utf8)
          ∙ ap (λ t. Some (span (length name - length from) (length name - length t))) (encodes-chars behind behind_utf8)
          );
      cut = record { before = is.before; part = is.part; rest = chars behind; cut = is.cut; from = omega arith; to = omega arith };
    }
