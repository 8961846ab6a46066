-- The files that a glob gives.
use Rattle.std.proofs.Common.{◌≡◌, ℕ, ◌+◌, ◌<◌, ◌≤◌, Bool, true, false, cond, if◌then◌else◌, List, [], ◌∷◌, ◌++◌, length, get_or, drop, fold, map, filter_map, Option, Some, None, IsUtf8, refl, sym, ap, ◌∙◌, subst, arith, length-append, append_assoc}
use lib.Utf8.{scalar, scalars}
use Rattle.std.specs.BTreeSet.{insert_key}
use Rattle.std.specs.Str.{IsCharBoundary, chars, encode_utf8_all}
use Rattle.std.proofs.lemmas.Bool.{and_parts}
use Rattle.std.proofs.lemmas.List.{at_drop_more, at_drop_all, map-append}
use Rattle.std.proofs.lemmas.List.Elements.{filter-append, filter_map-append}
use Rattle.std.proofs.lemmas.List.Sums.{fold-append}
use Rattle.std.proofs.lemmas.Str.{IsCharBoundary-at_seam, encodes-append, encodes-chars, scalars-chars}
use Rattle.tup_path.specs.Name.{Names}
use Rattle.tup_path.specs.Order.{by_bytes}
use Rattle.tup_lex.specs.Word.{last_name}
use Rattle.tup_lex.specs.declared.kind.ParseKind.TheVariants.{MissingInput}
use Rattle.tup_lex.specs.declared.span.Span.{Span}
use Rattle.tup_rule.specs.declared.draft.Draft.{Draft}
use Rattle.tup_glob.specs.declared.symbol.Symbol.{Symbol}
use Rattle.tup_glob.specs.Cut.{IsMatchedPart}
use Rattle.tup_query.specs.declared.fault.ParseFault.{ParseFault}
use Rattle.tup_rule_line.specs.declared.found.Input.{Input}
use Rattle.tup_rule_line.specs.declared.found.Found.{Found}
use Rattle.tup_query.specs.Reads.{Reads, gives, and_then}
use Rattle.tup_query.specs.Ask.{names_at}
use Rattle.tup_rule_line.specs.Cut.{IsCut}
use Rattle.tup_query.specs.Spot.{Spot}
use Rattle.tup_rule_line.specs.State.{made_by}
use Rattle.tup_rule_line.specs.Folder.{name_in, led_to_folder}
use Rattle.tup_rule_line.specs.Found.{inputs_alone}
use Rattle.tup_rule_line.specs.Glob.{is_wanted, wanted, names_among, in_order, names_of_files, matching, glob_of, matched_in, globbed}

-- ---- what an operator matched
scalars-behind : (front back : List ℕ) → scalars (front ++ back) ≡ true → scalars back ≡ true
scalars-behind [] back e = e
scalars-behind (char ∷ front) back e = scalars-behind front back (and_parts (scalar char) (scalars (front ++ back)) e).1

seam : (name front back : List ℕ) → IsUtf8 name → chars name ≡ front ++ back → IsCharBoundary name (length (encode_utf8_all front))
seam name front back utf8 e =
    IsCharBoundary-at_seam name (encode_utf8_all front) (encode_utf8_all back) (sym (encodes-chars name utf8) ∙ ap encode_utf8_all e ∙ encodes-append front back)
    (back, (scalars-behind front back (ap scalars (sym e) ∙ scalars-chars name utf8), refl))

-- what the first operator of a glob matched begins and ends between characters
pub matched-cut : (symbols : List Symbol) (name : List ℕ) (span : Span) → IsUtf8 name → IsMatchedPart symbols (chars name) span → IsCut name span
matched-cut symbols name span utf8 is =
    let both : chars name ≡ (is.before ++ is.part) ++ is.rest = is.cut.whole ∙ sym (append_assoc is.before is.part is.rest) in
    let end : length (encode_utf8_all (is.before ++ is.part)) ≡ span.to =
    ap length (encodes-append is.before is.part) ∙ length-append (encode_utf8_all is.before) (encode_utf8_all is.part) ∙ ap (λ n. n + length (encode_utf8_all is.part)) (sym is.from) ∙ sym is.to in
    record {
      order = omega (arith, is.to);
      from = subst (IsCharBoundary name) (sym is.from) (seam name is.before (is.part ++ is.rest) utf8 is.cut.whole);
      to = subst (IsCharBoundary name) end (seam name (is.before ++ is.part) is.rest utf8 both);
    }

-- ---- outputs that stand in a folder
-- of more names those are wanted that are wanted of each part
wanted-append : (glob : Option (List Symbol)) (names more : List (List ℕ)) → wanted glob (names ++ more) ≡ wanted glob names ++ wanted glob more
wanted-append None names more = refl
wanted-append (Some symbols) names more = filter-append (is_wanted (Some symbols)) names more

-- names of a folder with the wanted ones of more paths put among them
abbrev pub with_names : Option (List Symbol) → Names → List (List ℕ) → List Names → List (List ℕ)
with_names glob dir names paths = fold (insert_key by_bytes) names (wanted glob (names_among dir paths))

-- one name put among others, if it is wanted
pub one_wanted : (glob : Option (List Symbol)) (names : List (List ℕ)) (name : List ℕ) → fold (insert_key by_bytes) names (wanted glob (name ∷ [])) ≡ cond (is_wanted glob name) (insert_key by_bytes names name) names
one_wanted None names name = refl
one_wanted (Some symbols) names name = by (is_wanted (Some symbols) name)
  where
    by : (b : Bool) → fold (insert_key by_bytes) names (cond b (name ∷ []) []) ≡ cond b (insert_key by_bytes names name) names
    by true = refl
    by false = refl

-- no name put among others
pub none_wanted : (glob : Option (List Symbol)) (names : List (List ℕ)) → fold (insert_key by_bytes) names (wanted glob []) ≡ names
none_wanted None names = refl
none_wanted (Some symbols) names = refl

-- the names of some paths, and then those of more
both_parts : (glob : Option (List Symbol)) (dir : Names) (names : List (List ℕ)) (paths more : List Names) → with_names glob dir names (paths ++ more) ≡ with_names glob dir (with_names glob dir names paths) more
both_parts glob dir names paths more =
    ap (λ (found : List (List ℕ)). fold (insert_key by_bytes) names (wanted glob found)) (filter_map-append (name_in dir) paths more)
    ∙ ap (fold (insert_key by_bytes) names) (wanted-append glob (names_among dir paths) (names_among dir more))
    ∙ fold-append (insert_key by_bytes) names (wanted glob (names_among dir paths)) (wanted glob (names_among dir more))

-- the names of one rule, and then those of the others
pub made_more : (glob : Option (List Symbol)) (dir : Names) (names : List (List ℕ)) (drafts : List Draft) (index : ℕ) (draft : Draft) → index < length drafts → draft ≡ get_or drafts index draft
    → with_names glob dir names (made_by (drop index drafts)) ≡ with_names glob dir (with_names glob dir names draft.outputs) (made_by (drop (index + 1) drafts))
made_more glob dir names drafts index draft within is =
    at_drop_more (λ (ds : List Draft). with_names glob dir names (made_by ds)) drafts index draft within
    ∙ ap (λ (d : Draft). with_names glob dir names (made_by (d ∷ drop (index + 1) drafts))) (sym is)
    ∙ both_parts glob dir names draft.outputs (made_by (drop (index + 1) drafts))

pub made_end : (glob : Option (List Symbol)) (dir : Names) (names : List (List ℕ)) (drafts : List Draft) (index : ℕ) → length drafts ≤ index → with_names glob dir names (made_by (drop index drafts)) ≡ names
made_end glob dir names drafts index past = at_drop_all (λ (ds : List Draft). with_names glob dir names (made_by ds)) drafts index past ∙ none_wanted glob names

-- the name of one path, and then those of the others
pub named_more : (glob : Option (List Symbol)) (dir : Names) (names : List (List ℕ)) (paths : List Names) (index : ℕ) (path : Names) → index < length paths → path ≡ get_or paths index path
    → with_names glob dir names (drop index paths) ≡ with_names glob dir (with_names glob dir names (path ∷ [])) (drop (index + 1) paths)
named_more glob dir names paths index path within is =
    at_drop_more (with_names glob dir names) paths index path within
    ∙ ap (λ (p : Names). with_names glob dir names (p ∷ drop (index + 1) paths)) (sym is)
    ∙ both_parts glob dir names (path ∷ []) (drop (index + 1) paths)

pub named_end : (glob : Option (List Symbol)) (dir : Names) (names : List (List ℕ)) (paths : List Names) (index : ℕ) → length paths ≤ index → with_names glob dir names (drop index paths) ≡ names
named_end glob dir names paths index past = at_drop_all (with_names glob dir names) paths index past ∙ none_wanted glob names

-- wanted names in order, and then those of more names
pub in_order-more : (glob : Option (List Symbol)) (names more : List (List ℕ)) → in_order (wanted glob (names ++ more)) ≡ fold (insert_key by_bytes) (in_order (wanted glob names)) (wanted glob more)
in_order-more glob names more = ap in_order (wanted-append glob names more) ∙ fold-append (insert_key by_bytes) [] (wanted glob names) (wanted glob more)

-- ---- the files that match
-- what comes of the names that are told, and of all names
abbrev pub behind_told : List Draft → Names → List (List ℕ) → Reads ParseFault (List (List ℕ))
behind_told drafts dir names = gives (in_order (names ++ names_among dir (made_by drafts)))

abbrev pub behind_names : List Symbol → Names → List (List ℕ) → Reads ParseFault Found
behind_names symbols dir names = gives (inputs_alone (filter_map (matching dir symbols) names))

pub matched_by : (drafts : List Draft) (symbols : List Symbol) (dir : Names) → matched_in drafts symbols dir ≡ and_then (and_then (names_at dir) (behind_told drafts dir)) (behind_names symbols dir)
unfolding matched_in names_of_files
matched_by drafts symbols dir = refl

-- what comes of a glob's pattern
abbrev pub behind_glob : Spot → List Draft → List ℕ → List Symbol → Reads ParseFault Found
behind_glob at drafts word symbols = and_then (led_to_folder at MissingInput word) (λ dir. matched_in drafts symbols dir)

pub globbed_by : (at : Spot) (drafts : List Draft) (word : List ℕ) → globbed at drafts word ≡ and_then (glob_of at (last_name word)) (behind_glob at drafts word)
unfolding globbed
globbed_by at drafts word = refl

-- the files that match among more names
pub matches_more : {A : Type 0} (value : A → List ℕ) (h : List ℕ → Option Input) (seen : List A) (one : A) → filter_map h (map value (seen ++ one ∷ [])) ≡ filter_map h (map value seen) ++ filter_map h (value one ∷ [])
matches_more value h seen one = ap (filter_map h) (map-append value seen (one ∷ [])) ∙ filter_map-append h (map value seen) (value one ∷ [])
