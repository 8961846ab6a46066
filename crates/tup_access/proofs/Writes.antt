-- The loops over writes and outputs: one more write, and the first element that passes a test.
use Rattle.std.proofs.Common.{◌≡◌, ℕ, zero, suc, ◌+◌, ◌<◌, Bool, true, false, cond, not, ◌||◌, if◌then◌else◌, List, [], ◌∷◌, ◌++◌, length, take, get_or, map, Option, None, Some, Result, Ok, Err, Bor, ◌⊎◌, inl, inr, refl, sym, ap, ◌∙◌, arith}
use Rattle.std.specs.List.{find}
use Rattle.std.specs.Option.{is_none, is_some, unwrap_or}
use Rattle.std.specs.Result.{result_ok}
use Rattle.std.specs.BTreeMap.{get, is_at}
use Rattle.std.proofs.lemmas.Bool.{cases_Bool, or_left, or_right, true≢false}
use Rattle.std.proofs.lemmas.List.{take_more, map-append}
use Rattle.std.proofs.lemmas.List.Folds.{find-append, list_any_more}
use Rattle.tup_path.specs.declared.fault.PathFault.{PathFault}
use Rattle.tup_path.specs.Name.{Names, Content}
use Rattle.tup_path.specs.Order.{by_names, same_path, same_path-by_names}
use Rattle.tup_path.proofs.Same.{same_path-decides}
use Rattle.tup_path.specs.Resolve.{resolve}
use Rattle.tup_rule.specs.declared.rule.Rule.{Rule}
use Rattle.tup_rule.specs.Rule.{among, writes}
use Rattle.tup_access.specs.declared.refusal.Refusal.{Refusal}
use Rattle.tup_access.specs.declared.refusal.Refusal.TheVariants.{Bad, Memory}
use Rattle.tup_access.specs.declared.verdict.Verdict.TheVariants.{Unwritten}
use Rattle.tup_access.specs.Judge.{last_written, names_path, names_output, foreign_write, unwritten}
use Rattle.tup_access.specs.Written.{LastWrites, content_in, HasOutputs, HasLast, AreAllOwn, IsOutputOf}
use Rattle.tup_access.specs.Refusal.{RefusesWrite, RefusesText, RefusesOutput}

-- ---- the first that passes a test

-- after others that don't
pub find-first : {X : Type 0} (p : X → Bool) (xs : List X) (i : ℕ) (x : X) → find p (take i xs) ≡ None → i < length xs → x ≡ get_or xs i x → p x ≡ true → find p xs ≡ Some x
find-first p [] i x none less here e = absurd (omega arith)
find-first p (y ∷ xs) zero x none less here e = let first : p y ≡ true = ap p (sym here) ∙ e in rw first (ap Some (sym here))
find-first p (y ∷ xs) (suc i) x none less here e = by (p y) none (λ rest. find-first p xs i x rest (omega arith) here e)
  where
    by : (b : Bool) → (if b then Some y else find p (take i xs)) ≡ None → (find p (take i xs) ≡ None → find p xs ≡ Some x) → (if b then Some y else find p xs) ≡ Some x
    by true h rest = cc
    by false h rest = rest h

-- one more that doesn't
pub find_more : {X : Type 0} (p : X → Bool) (xs : List X) (i : ℕ) (x : X) → find p (take i xs) ≡ None → i < length xs → x ≡ get_or xs i x → p x ≡ false → find p (take (i + 1) xs) ≡ None
find_more p xs i x none less here e = rw (take_more xs i x less) (rw (sym here) (rw find-append (rw none (rw e refl))))

-- ---- what was written last

-- after one more write
pub last_written-push : (rule : Rule) (path : Names) (written : List (List ℕ × Content)) (w : List ℕ × Content) →
    last_written rule path (written ++ w ∷ []) ≡ cond (names_path rule path w.0) (Some w.1) (last_written rule path written)
last_written-push rule path [] w = refl
last_written-push rule path (v ∷ written) w = rw (last_written-push rule path written w) (by (names_path rule path w.0))
  where
    by : (b : Bool) → (elim (cond b (Some w.1) (last_written rule path written)) [ Some content ↦ Some content | None ↦ if names_path rule path v.0 then Some v.1 else None ])
        ≡ cond b (Some w.1) (last_written rule path (v ∷ written))
    by true = refl
    by false = refl

-- a path is the one that the map was asked for, or another
at_place : (x y : Names) → ((x ≡ y) × (is_at (by_names x) y ≡ true) × (same_path x y ≡ true)) ⊎ ((is_at (by_names x) y ≡ false) × (same_path x y ≡ false))
at_place x y =
    elim (cases_Bool (same_path x y)) [
      | inl same ↦ inl ((same_path-decides x y).0 same, sym (same_path-by_names x y) ∙ same, same)
      | inr apart ↦ inr (sym (same_path-by_names x y) ∙ apart, apart)
    ]

-- the outputs of a rule, none written

pub record HasFirst (paths : List Names) (last : LastWrites) : Type 0 where
  pub outputs : (path : Names) → is_some (get by_names last path) ≡ among path paths
  pub contents : (path : Names) → content_in last path ≡ None

pub first_none : (last : LastWrites) → last.entries ≡ [] → HasFirst [] last
first_none last none = record { outputs = λ path. rw none refl; contents = λ path. rw none refl }

pub first_more : (outputs : List Names) (i : ℕ) (output copy : Names) (old new : LastWrites) → HasFirst (take i outputs) old → i < length outputs → output ≡ get_or outputs i output → copy ≡ output
    → ((q : Names) → get by_names new q ≡ cond (is_at (by_names copy) q) (Some None) (get by_names old q)) → HasFirst (take (i + 1) outputs) new
first_more outputs i output copy old new first less here copied updates = record {
  outputs = λ path.
      let more : among path (take (i + 1) outputs) ≡ (among path (take i outputs) || same_path path output) = list_any_more (same_path path) outputs i output less ∙ ap (λ (x : Names). among path (take i outputs) || same_path path x) (sym here) in
      elim (at_place copy path) [
        | inl same ↦ rw (updates path, same.1, more) (sym (or_right _ _ ((same_path-decides path output).1 (sym same.0 ∙ copied))))
        | inr apart ↦ rw (updates path, apart.0, more) (first.outputs path ∙ sym (or_false (among path (take i outputs)) (same_path path output) (turned path output (rw (← copied) apart.1))))
      ];
  contents = λ path. elim (at_place copy path) [
    | inl same ↦ rw (updates path, same.1) refl
    | inr apart ↦ rw (updates path, apart.0) (first.contents path)
  ];
}
  where
    or_false : (x y : Bool) → y ≡ false → (x || y) ≡ x
    or_false true y none = refl
    or_false false y none = none

    turned : (x y : Names) → same_path y x ≡ false → same_path x y ≡ false
    turned x y apart = elim (cases_Bool (same_path x y)) [
      | inl same ↦ absurd (true≢false (sym ((same_path-decides y x).1 (sym ((same_path-decides x y).0 same))) ∙ apart))
      | inr other ↦ other
    ]

-- one more write to an output
pub last_more : (rule : Rule) (written : List (List ℕ × Content)) (w : List ℕ × Content) (path : Names) (content : Bor Content) (old new : LastWrites) → HasLast rule written old → IsOutputOf rule w.0 path
    → content.now ≡ w.1 → ((q : Names) → get by_names new q ≡ cond (is_at (by_names path) q) (Some (Some content)) (get by_names old q)) → HasLast rule (written ++ w ∷ []) new
last_more rule written w path content old new last output is updates = record {
  outputs = record {
    each = λ q. elim (at_place path q) [
      | inl same ↦ rw (updates q, same.1) (sym (own q same.0))
      | inr apart ↦ rw (updates q, apart.0) (last.outputs.each q)
    ];
  };
  contents = λ q mine. elim (at_place path q) [
    | inl same ↦ rw (updates q, same.1, last_written-push rule q written w, names_at q ∙ same.2) (ap Some is)
    | inr apart ↦ rw (updates q, apart.0, last_written-push rule q written w, names_at q ∙ apart.1) (last.contents q mine)
  ];
}
  where
    names_at : (q : Names) → names_path rule q w.0 ≡ same_path path q
    names_at q = rw (output.named, names_path) refl

    own : (q : Names) → path ≡ q → writes rule q ≡ true
    own q same = ap (writes rule) (sym same) ∙ (rw (output.named, names_output) at output.own)

-- ---- the loops

pub write_refused : (rule : Rule) (written : List (List ℕ × Content)) (i : ℕ) (w : List ℕ × Content) (refusal : Refusal) → foreign_write rule (take i written) ≡ None → i < length written → w ≡ get_or written i w
    → RefusesText rule w.0 refusal → RefusesWrite (foreign_write rule written) refusal
write_refused rule written i w refusal none less here (inl memory) = rw memory tt
write_refused rule written i w refusal none less here (inr foreign) =
    rw foreign.1 (w, find-first (λ (v : List ℕ × Content). not (names_output rule v.0)) written i w none less here (ap not foreign.0), refl)

-- one more write that names an output
pub own_more : (rule : Rule) (written : List (List ℕ × Content)) (i : ℕ) (w : List ℕ × Content) (path : Names) (content : Bor Content) (old new : LastWrites) → AreAllOwn rule (take i written) old → i < length written → w ≡ get_or written i w
    → IsOutputOf rule w.0 path → ((q : Names) → get by_names new q ≡ cond (is_at (by_names path) q) (Some (Some content)) (get by_names old q)) → content.now ≡ w.1 → AreAllOwn rule (take (i + 1) written) new
own_more rule written i w path content old new all less here output updates is =
    let longer : take (i + 1) written ≡ take i written ++ w ∷ [] = take_more written i w less ∙ ap (λ (x : List ℕ × Content). take i written ++ x ∷ []) (sym here) in
    record {
      own = find_more (λ (v : List ℕ × Content). not (names_output rule v.0)) written i w all.own less here (ap not output.own);
      has = rw longer (last_more rule (take i written) w path content old new all.has output is updates);
    }

-- a text that names no path, and one whose path isn't in the map

pub text_nowhere : (rule : Rule) (text : List ℕ) (found : Option Names) → found ≡ result_ok (resolve rule.dir text) → found ≡ None → names_output rule text ≡ false
text_nowhere rule text found is none = by (resolve rule.dir text) (sym is ∙ none)
  where
    by : (r : Result Names PathFault) → result_ok r ≡ None → elim r as (λ _. Bool) [ Ok named ↦ writes rule named | Err fault ↦ false ] ≡ false
    by (Ok named) e = cc
    by (Err fault) e = refl

pub text_foreign : (rule : Rule) (text : List ℕ) (found : Option Names) (path : Names) (last : LastWrites) → HasOutputs rule last → found ≡ result_ok (resolve rule.dir text) → found ≡ Some path
    → is_some (get by_names last path) ≡ false → names_output rule text ≡ false
text_foreign rule text found path last has is some foreign = by (resolve rule.dir text) (sym is ∙ some)
  where
    by : (r : Result Names PathFault) → result_ok r ≡ Some path → elim r as (λ _. Bool) [ Ok named ↦ writes rule named | Err fault ↦ false ] ≡ false
    by (Ok named) e = let same : named ≡ path = cc in ap (writes rule) same ∙ sym (has.each path) ∙ foreign
    by (Err fault) e = refl

-- what the map has for an output of the rule
pub content_at : (rule : Rule) (written : List (List ℕ × Content)) (last : LastWrites) (i : ℕ) (path : Names) → HasLast rule written last → i < length rule.outputs → path ≡ get_or rule.outputs i path
    → content_in last path ≡ last_written rule path written
content_at rule written last i path has less here = has.contents path (one_of rule.outputs i path less here)
  where
    one_of : (paths : List Names) (i : ℕ) (path : Names) → i < length paths → path ≡ get_or paths i path → among path paths ≡ true
    one_of [] i path less here = absurd (omega arith)
    one_of (p ∷ paths) zero path less here = or_left _ _ ((same_path-decides path p).1 here)
    one_of (p ∷ paths) (suc i) path less here = or_right _ _ (one_of paths i path (omega arith) here)

pub output_refused : (rule : Rule) (written : List (List ℕ × Content)) (i : ℕ) (path : Names) (refusal : Refusal) (last : Option Content) → last ≡ last_written rule path written → find (λ (p : Names). is_none (last_written rule p written)) (take i rule.outputs) ≡ None → i < length rule.outputs → path ≡ get_or rule.outputs i path
    → (refusal ≡ Memory) ⊎ ((last ≡ None) × (refusal ≡ Bad (Unwritten path))) → RefusesOutput (unwritten rule written) refusal
output_refused rule written i path refusal last is none less here (inl memory) = rw memory tt
output_refused rule written i path refusal last is none less here (inr missing) =
    rw missing.1 (path, find-first (λ (p : Names). is_none (last_written rule p written)) rule.outputs i path none less here (ap is_none (sym is ∙ missing.0)), refl)

pub output_there : (rule : Rule) (written : List (List ℕ × Content)) (i : ℕ) (path : Names) (content : Content) → last_written rule path written ≡ Some content → find (λ (p : Names). is_none (last_written rule p written)) (take i rule.outputs) ≡ None
    → i < length rule.outputs → path ≡ get_or rule.outputs i path → find (λ (p : Names). is_none (last_written rule p written)) (take (i + 1) rule.outputs) ≡ None
output_there rule written i path content is none less here = find_more (λ (p : Names). is_none (last_written rule p written)) rule.outputs i path none less here (rw is refl)

pub files_more : (rule : Rule) (written : List (List ℕ × Content)) (i : ℕ) (path : Names) (file : Names × Content) → file.0 ≡ path → last_written rule path written ≡ Some file.1 → i < length rule.outputs → path ≡ get_or rule.outputs i path
    → map (λ (p : Names). (p, unwrap_or (last_written rule p written) [])) (take i rule.outputs) ++ file ∷ [] ≡ map (λ (p : Names). (p, unwrap_or (last_written rule p written) [])) (take (i + 1) rule.outputs)
files_more rule written i path file first is less here =
    let f : Names → Names × Content = λ p. (p, unwrap_or (last_written rule p written) []) in
    let whole : file ≡ f path = λ j. (first j, unwrap_or (sym is j) []) in
    let grown : take (i + 1) rule.outputs ≡ take i rule.outputs ++ path ∷ [] = take_more rule.outputs i path less ∙ ap (λ (x : Names). take i rule.outputs ++ x ∷ []) (sym here) in
    rw (grown, map-append) (ap (λ (x : Names × Content). map f (take i rule.outputs) ++ x ∷ []) whole)
