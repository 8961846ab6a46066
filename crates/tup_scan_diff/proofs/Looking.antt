-- The rules to begin with after a scan are found among few, or among all.
use Rattle.std.specs.Prelude.{◌≡◌, ◌≢◌, ◌⊎◌, ◌↔◌, ◌+◌, ◌<◌, ◌≤◌, ℕ, Bool, true, false, not, List, [], ◌∷◌, ◌++◌, Option, None, Some, Contains, is_none, is_some, length, map, filter}
use Rattle.std.proofs.Common.{refl, sym, ap, subst, ◌∙◌, inl, inr, take, get_or, arith}
use Rattle.std.specs.BTreeSet.{BTreeSet}
use Rattle.std.specs.Cmp.{nat_cmp_total}
use Rattle.std.specs.FinMap as finite
use Rattle.std.specs.FinMap.{nat_cmp-IsAntisymmetric}
use Rattle.std.specs.Ordering.{nat_cmp}
use Rattle.std.proofs.lemmas.Bool.{cases_lt, lt-ltb, ltb-true, true≢false}
use Rattle.std.proofs.lemmas.List.{take_all, take_more}
use Rattle.std.proofs.lemmas.List.Elements.{Contains-append_left, Contains-append_right, Contains-push, Contains-push_cases}
use Rattle.std.proofs.lemmas.Option.{none-some, same_Some}
use Rattle.tup_path.specs.Name.{Names}
use Rattle.tup_path.specs.Order.{by_names}
use Rattle.tup_path.proofs.Same.{by_names-decides}
use Rattle.tup_stamp.specs.declared.Stamp.{Stamp}
use Rattle.tup_graph.specs.declared.edit.Edit.{Edit}
use Rattle.tup_graph.specs.Above.{HasAsked}
use Rattle.tup_graph.specs.Graph.{GraphState, is_flagged, is_rule}
use Rattle.tup_graph.specs.Kept.{Asked}
use Rattle.tup_graph.specs.Scan.{BeginsAt, IsTouched}
use Rattle.tup_graph.specs.Turned.{IsTurnedRun}
use Rattle.tup_graph.specs.Transactions.{seen_so}
use Rattle.tup_readers.specs.Index.{HasWritten}
use Rattle.tup_readers.specs.Suspects.{HasAllOthers}
use Rattle.tup_readers.proofs.Entries.{entry_found as number_found, found_entry as found_number, none_in, in_front, behind_front, front_or_behind}
use Rattle.tup_readers.proofs.Filtering.{in_filter}
use Rattle.tup_closure.specs.Grows.{Grows}
use Rattle.tup_closure.proofs.Growing.{grows_as, grows_nothing, grows_on}
use Rattle.tup_closure.proofs.Members.{contained, number-decides}
use Rattle.tup_scan_diff.specs.Edits.{gone_edits, is_gone, is_news, is_same, news_edits, not_seen, seen_edits}
use Rattle.tup_scan_diff.specs.Present.{graph_of, seeing, stamps_in}
use Rattle.tup_scan_diff.specs.Touched.{AsksOneOf, FindsRoots, IsRootIn, IsUserOf, SeesOtherwise, UsesOneOf, file_of, record_of}
use Rattle.tup_scan_diff.specs.Turned.{HasTurned}
use Rattle.tup_scan_diff.specs.declared.present.Present.{Present}
use Rattle.tup_scan_diff.proofs.Editing.{entry_found, same_is}

-- ---- one after another

-- a number has an entry
abbrev pub HasEntry : List (ℕ × Unit {0}) → ℕ → Type 0
HasEntry entries number = (flag : Unit {0}) × Contains entries (number, flag)

-- a root is added
pub root_pushed : {Root : Type 0} (old new : List ℕ) (number : ℕ) → new ≡ old ++ number ∷ [] → Root → Grows (λ n. (n ≡ number) × Root) (Contains old) (Contains new)
root_pushed {Root} old new number is root = subst (λ (l : List ℕ). Grows (λ n. (n ≡ number) × Root) (Contains old) (Contains l)) (sym is) (record {
  only = only;
  all = λ n h. subst (Contains (old ++ number ∷ [])) (sym h.0) (Contains-push old number);
  kept = λ n h. Contains-append_left old (number ∷ []) n h;
})
  where
    only : (n : ℕ) → Contains (old ++ number ∷ []) n → Contains old n ⊎ ((n ≡ number) × Root)
    only n h = elim (Contains-push_cases old number n h) [ inl before ↦ inl before | inr last ↦ inr (sym last, root) ]

module _ (present : Present) where
  -- these were looked at
  abbrev Finds : (ℕ → Type 0) → (ℕ → Type 0) → (ℕ → Type 0) → Type 0
  Finds Looked A B = Grows (λ n. Looked n × IsRootIn present n) A B

  -- and more
  looked : {A B C P Q R : ℕ → Type 0} → ((n : ℕ) → R n → P n ⊎ Q n) → ((n : ℕ) → P n → R n) → ((n : ℕ) → Q n → R n) → Finds P A B → Finds Q B C → Finds R A C
  looked {A} {B} {C} {P} {Q} {R} cases left right one two = grows_as to from (grows_on one two)
    where
      to : (n : ℕ) → (P n × IsRootIn present n) ⊎ (Q n × IsRootIn present n) → R n × IsRootIn present n
      to n (inl h) = (left n h.0, h.1)
      to n (inr h) = (right n h.0, h.1)

      from : (n : ℕ) → R n × IsRootIn present n → (P n × IsRootIn present n) ⊎ (Q n × IsRootIn present n)
      from n h = elim (cases n h.0) [ inl p ↦ inl (p, h.1) | inr q ↦ inr (q, h.1) ]

  -- the same rules, told otherwise
  pub looked_as : {A B P Q : ℕ → Type 0} → ((n : ℕ) → P n ↔ Q n) → Finds P A B → Finds Q A B
  looked_as same = grows_as (λ n h. ((same n).0 h.0, h.1)) (λ n h. ((same n).1 h.0, h.1))

  -- none were
  pub none_looked : {A P : ℕ → Type 0} → ((n : ℕ) → P n → ⊥) → Finds P A A
  none_looked none = grows_nothing (λ n h. none n h.0)

  pub no_numbers : {A : ℕ → Type 0} → Finds (Contains []) A A
  no_numbers = none_looked (λ n h. none_in n h)

  pub no_entries : {A : ℕ → Type 0} → Finds (HasEntry []) A A
  no_entries = none_looked (λ n h. none_in (n, h.0) h.1)

  -- one was
  at_one : {A B : ℕ → Type 0} (number : ℕ) → Grows (λ n. (n ≡ number) × IsRootIn present number) A B → Finds (λ n. n ≡ number) A B
  at_one number = grows_as (λ n h. (h.0, subst (IsRootIn present) (sym h.0) h.1)) (λ n h. (h.0, subst (IsRootIn present) h.0 h.1))

  pub number_looked : {A B C : ℕ → Type 0} (list : List ℕ) (number : ℕ) → Finds (Contains list) A B → Grows (λ n. (n ≡ number) × IsRootIn present number) B C → Finds (Contains (list ++ number ∷ [])) A C
  number_looked list number so_far one = looked cases (λ n. Contains-append_left list (number ∷ []) n) (λ n is. subst (Contains (list ++ number ∷ [])) (sym is) (Contains-push list number)) so_far (at_one number one)
    where
      cases : (n : ℕ) → Contains (list ++ number ∷ []) n → Contains list n ⊎ (n ≡ number)
      cases n h = elim (Contains-push_cases list number n h) [ inl before ↦ inl before | inr last ↦ inr (sym last) ]

  pub entry_looked : {A B C : ℕ → Type 0} (entries : List (ℕ × Unit {0})) (number : ℕ) (flag : Unit {0}) → Finds (HasEntry entries) A B → Grows (λ n. (n ≡ number) × IsRootIn present number) B C
      → Finds (HasEntry (entries ++ (number, flag) ∷ [])) A C
  entry_looked entries number flag so_far one = looked cases (λ n h. (h.0, Contains-append_left entries ((number, flag) ∷ []) (n, h.0) h.1)) last_one so_far (at_one number one)
    where
      cases : (n : ℕ) → HasEntry (entries ++ (number, flag) ∷ []) n → HasEntry entries n ⊎ (n ≡ number)
      cases n (other, h) = elim (Contains-push_cases entries (number, flag) (n, other) h) [ inl before ↦ inl (other, before) | inr last ↦ inr (ap (λ (y : ℕ × Unit {0}). y.0) (sym last)) ]

      last_one : (n : ℕ) → n ≡ number → HasEntry (entries ++ (number, flag) ∷ []) n
      last_one n is = (flag, subst (λ (k : ℕ). Contains (entries ++ (number, flag) ∷ []) (k, flag)) (sym is) (Contains-push entries (number, flag)))

  -- number after number
  pub none_below : {A : ℕ → Type 0} → Finds (λ n. n < 0) A A
  none_below = none_looked (λ n h. omega (arith, h))

  pub next_looked : {A B C : ℕ → Type 0} (number : ℕ) → Finds (λ n. n < number) A B → Grows (λ n. (n ≡ number) × IsRootIn present number) B C → Finds (λ n. n < number + 1) A C
  next_looked number so_far one = looked cases (λ n h. omega (arith, h)) (λ n is. omega (arith, is)) so_far (at_one number one)
    where
      cases : (n : ℕ) → n < number + 1 → n < number ⊎ (n ≡ number)
      cases n h = elim (cases_lt n number) [ inl less ↦ inl less | inr not_less ↦ inr (omega (arith, h, not_less)) ]

  pub every_looked : {A B : ℕ → Type 0} (count : ℕ) → count ≡ length present.nodes.now.rules → Finds (λ n. n < count) A B → Finds (λ n. is_rule present.nodes.now n ≡ true) A B
  every_looked {A} {B} count all so_far = looked_as (λ n. (lt-ltb n (length present.nodes.now.rules), ltb-true n (length present.nodes.now.rules))) (subst (λ (k : ℕ). Finds (λ n. n < k) A B) all so_far)

  -- all roots are among all rules
  pub among_every : (Start Found : List ℕ) → Start ≡ [] → Finds (λ n. is_rule present.nodes.now n ≡ true) (Contains Start) (Contains Found) → (n : ℕ) → Contains Found n ↔ IsRootIn present n
  among_every Start Found empty every n = (to, λ root. every.all n (root.0, root))
    where
      to : Contains Found n → IsRootIn present n
      to h = elim (every.only n h) [ inl before ↦ absurd (none_in n (subst (λ (l : List ℕ). Contains l n) empty before)) | inr found ↦ found.1 ]

  pub users_looked : {A B C P Q : ℕ → Type 0} (h : GraphState) (path : Names) → ((n : ℕ) → P n ↔ HasAsked h n path) → ((n : ℕ) → Q n ↔ HasWritten h n path) → Finds P A B → Finds Q B C → Finds (IsUserOf h path) A C
  users_looked {A} {B} {C} {P} {Q} h path readers writers = looked cases (λ n p. inl ((readers n).0 p)) (λ n q. inr ((writers n).0 q))
    where
      cases : (n : ℕ) → IsUserOf h path n → P n ⊎ Q n
      cases n (inl asked) = inl ((readers n).1 asked)
      cases n (inr written) = inr ((writers n).1 written)

  -- those who use the path that an edit sees otherwise, if it does
  pub at_path : {A B : ℕ → Type 0} (h : GraphState) (edit : Edit) (path : Names) → Some path ≡ file_of (record_of edit) → Finds (IsUserOf h path) A B → Finds (λ n. (p : Names) × SeesOtherwise edit p × IsUserOf h p n) A B
  at_path h edit path there = looked_as (λ n. (
    λ uses. (path, sym there, uses),
    λ (p, sees, uses). subst (λ (q : Names). IsUserOf h q n) (same_Some p path (sym sees ∙ sym there)) uses,
  ))

  pub at_no_path : {A : ℕ → Type 0} (h : GraphState) (edit : Edit) → None ≡ file_of (record_of edit) → Finds (λ n. (p : Names) × SeesOtherwise edit p × IsUserOf h p n) A A
  at_no_path h edit there = none_looked (λ n (p, sees, uses). none-some p (there ∙ sees))

  -- edit after edit
  edit_looked : {A B C : ℕ → Type 0} (h : GraphState) (edits : List Edit) (edit : Edit) → Finds (UsesOneOf h edits) A B → Finds (λ n. (path : Names) × SeesOtherwise edit path × IsUserOf h path n) B C → Finds (UsesOneOf h (edits ++ edit ∷ [])) A C
  edit_looked h edits edit = looked cases (λ n (e, there, path, sees, uses). (e, Contains-append_left edits (edit ∷ []) e there, path, sees, uses)) (λ n (path, sees, uses). (edit, Contains-push edits edit, path, sees, uses))
    where
      cases : (n : ℕ) → UsesOneOf h (edits ++ edit ∷ []) n → UsesOneOf h edits n ⊎ ((path : Names) × SeesOtherwise edit path × IsUserOf h path n)
      cases n (e, there, path, sees, uses) = elim (Contains-push_cases edits edit e there) [
        | inl before ↦ inl (e, before, path, sees, uses)
        | inr last ↦ inr (path, subst (λ (x : Edit). SeesOtherwise x path) (sym last) sees, uses)
      ]

  pub no_edits : {A : ℕ → Type 0} (h : GraphState) → Finds (UsesOneOf h []) A A
  no_edits h = none_looked (λ n (edit, there, path, sees, uses). none_in edit there)

  pub edit_taken : {A B C : ℕ → Type 0} (h : GraphState) (edits : List Edit) (i : ℕ) (edit d : Edit) → i < length edits → edit ≡ get_or edits i d → Finds (UsesOneOf h (take i edits)) A B
      → Finds (λ n. (path : Names) × SeesOtherwise edit path × IsUserOf h path n) B C → Finds (UsesOneOf h (take (i + 1) edits)) A C
  edit_taken {A} {B} {C} h edits i edit d less is so_far one =
      subst (λ (l : List Edit). Finds (UsesOneOf h l) A C) (sym (take_more edits i d less ∙ ap (λ (x : Edit). take i edits ++ x ∷ []) (sym is)))
      (edit_looked h (take i edits) edit so_far one)

  pub edits_taken : {A B : ℕ → Type 0} (h : GraphState) (edits : List Edit) (i : ℕ) → length edits ≤ i → Finds (UsesOneOf h (take i edits)) A B → Finds (UsesOneOf h edits) A B
  edits_taken {A} {B} h edits i whole = subst (λ (l : List Edit). Finds (UsesOneOf h l) A B) (take_all i edits whole)

  -- path after path
  pub no_paths : {A : ℕ → Type 0} (h : GraphState) → Finds (AsksOneOf h []) A A
  no_paths h = none_looked (λ n (path, there, asked). none_in path there)

  pub path_looked : {A B C : ℕ → Type 0} (h : GraphState) (paths : List Names) (path : Names) → Finds (AsksOneOf h paths) A B → Finds (λ n. HasAsked h n path) B C → Finds (AsksOneOf h (paths ++ path ∷ [])) A C
  path_looked h paths path = looked cases (λ n (q, there, asked). (q, Contains-append_left paths (path ∷ []) q there, asked)) (λ n asked. (path, Contains-push paths path, asked))
    where
      cases : (n : ℕ) → AsksOneOf h (paths ++ path ∷ []) n → AsksOneOf h paths n ⊎ HasAsked h n path
      cases n (q, there, asked) = elim (Contains-push_cases paths path q there) [
        | inl before ↦ inl (q, before, asked)
        | inr last ↦ inr (subst (HasAsked h n) (sym last) asked)
      ]

-- ---- flags

pub flag_entries : (flags : finite.FinMap nat_cmp (Unit {0})) (n : ℕ) → HasEntry (finite.entries flags) n ↔ (finite.contains_key flags n ≡ true)
flag_entries flags n = (
  λ (flag, h). ap is_some (found_number nat_cmp_total nat_cmp-IsAntisymmetric flags n flag h),
  λ e. either (finite.get flags n) refl e,
)
  where
    either : (found : Option (Unit {0})) → finite.get flags n ≡ found → is_some found ≡ true → HasEntry (finite.entries flags) n
    either (Some flag) there e = (flag, number_found nat_cmp_total nat_cmp-IsAntisymmetric flags n flag there)
    either None there e = absurd (true≢false (sym e))

-- ---- a path that has another stamp now is one of the edits by which files are seen

mapped : {X Y : Type 0} (f : X → Y) (xs : List X) (x : X) → Contains xs x → Contains (map f xs) (f x)
mapped f [] x h = absurd (none_in x h)
mapped f (first ∷ xs) x h = elim (front_or_behind first x xs h) [
  | inl same ↦ subst (Contains (f first ∷ map f xs)) (ap f same) (in_front (f first) (map f xs))
  | inr later ↦ behind_front (f first) (f x) (map f xs) (mapped f xs x later)
]

module _ (g : GraphState) (stamps : finite.FinMap by_names Stamp) where
  abbrev IsEdited : Names → Type 0
  IsEdited path = (edit : Edit) × Contains (seen_edits g stamps) edit × SeesOtherwise edit path

  news : (path : Names) (s : Stamp) → finite.get stamps path ≡ Some s → is_same (finite.get g.seen path) s ≡ false → IsEdited path
  news path s here other = (
    seen_so (path, s),
    Contains-append_left (news_edits g (finite.entries stamps)) (gone_edits stamps (finite.entries g.seen)) (seen_so (path, s))
        (mapped seen_so (filter (is_news g) (finite.entries stamps)) (path, s) (in_filter (is_news g) (finite.entries stamps) (path, s) (entry_found stamps path s here) (ap not other))),
    refl,
  )

  gone : (path : Names) (s : Stamp) → finite.get g.seen path ≡ Some s → finite.get stamps path ≡ None → IsEdited path
  gone path s there none = (
    not_seen (path, s),
    Contains-append_right (news_edits g (finite.entries stamps)) (gone_edits stamps (finite.entries g.seen)) (not_seen (path, s))
        (mapped not_seen (filter (is_gone stamps) (finite.entries g.seen)) (path, s) (in_filter (is_gone stamps) (finite.entries g.seen) (path, s) (entry_found g.seen path s there) (ap is_none none))),
    refl,
  )

  pub same_or_edited : (path : Names) → (finite.get stamps path ≡ finite.get g.seen path) ⊎ IsEdited path
  same_or_edited path = now (finite.get stamps path) refl
    where
      before : (found : Option Stamp) → finite.get g.seen path ≡ found → finite.get stamps path ≡ None → (finite.get stamps path ≡ finite.get g.seen path) ⊎ IsEdited path
      before None there none = inl (none ∙ sym there)
      before (Some s) there none = inr (gone path s there none)

      seen : (s : Stamp) (b : Bool) → is_same (finite.get g.seen path) s ≡ b → finite.get stamps path ≡ Some s → (finite.get stamps path ≡ finite.get g.seen path) ⊎ IsEdited path
      seen s true same here = inl (here ∙ sym (same_is (finite.get g.seen path) s same))
      seen s false other here = inr (news path s here other)

      now : (found : Option Stamp) → finite.get stamps path ≡ found → (finite.get stamps path ≡ finite.get g.seen path) ⊎ IsEdited path
      now None none = before (finite.get g.seen path) refl none
      now (Some s) here = seen s (is_same (finite.get g.seen path) s) refl here

  module _ (suspects : BTreeSet ℕ) (all : HasAllOthers g.seen g.runs suspects) where
    -- a touched rule is a suspect, or uses a path that was edited
    touched_found : (n : ℕ) → IsTouched (seeing g stamps) n → Contains suspects.keys n ⊎ UsesOneOf g (seen_edits g stamps) n
    touched_found n (rule, run, here, ran, what) = elim what [ inl asks ↦ asked asks | inr wrote ↦ written wrote ]
      where
        asked : ((path : Names) × (given : Option Stamp) × Asked rule run path given × (given ≢ finite.get stamps path)) → Contains suspects.keys n ⊎ UsesOneOf g (seen_edits g stamps) n
        asked (path, given, ask, differs) = elim (same_or_edited path) [
          | inl same ↦ inl (contained nat_cmp number-decides suspects n (all n run ran (inl (path, given, ask.0, λ is. differs (is ∙ sym same)))))
          | inr (edit, there, sees) ↦ inr (edit, there, path, sees, inl (run, given, ran, ask.0))
        ]

        written : ((path : Names) × (given : Stamp) × Contains run.writes (path, given) × (Some given ≢ finite.get stamps path)) → Contains suspects.keys n ⊎ UsesOneOf g (seen_edits g stamps) n
        written (path, given, in_it, differs) = elim (same_or_edited path) [
          | inl same ↦ inl (contained nat_cmp number-decides suspects n (all n run ran (inr (path, given, in_it, λ is. differs (is ∙ sym same)))))
          | inr (edit, there, sees) ↦ inr (edit, there, path, sees, inr (run, given, ran, in_it))
        ]

-- ---- all roots were found

module _ (present : Present) (turned : HasTurned present) (suspects : BTreeSet ℕ) (all : HasAllOthers present.nodes.now.seen present.nodes.now.runs suspects) where
  abbrev nodes : GraphState
  nodes = present.nodes.now

  -- who was told of a folder that came or went asks one of them
  turned_found : (n : ℕ) → IsTurnedRun nodes (graph_of present) n → AsksOneOf nodes present.turned.keys n
  turned_found n (rule, run, here, ran, (path, asked, is)) = (path, contained by_names by_names-decides present.turned path ((turned path).1 is), (run, None, ran, asked.0))

  pub roots_found : (Start Flagged Suspected Used Found : List ℕ) → Start ≡ [] → FindsRoots present (λ n. is_flagged nodes n ≡ true) Start Flagged → FindsRoots present (Contains suspects.keys) Flagged Suspected
      → FindsRoots present (UsesOneOf nodes (seen_edits nodes (stamps_in present))) Suspected Used → FindsRoots present (AsksOneOf nodes present.turned.keys) Used Found → (n : ℕ) → Contains Found n ↔ IsRootIn present n
  roots_found Start Flagged Suspected Used Found empty flags suspected users askers n = (to, from)
    where
      in_start : Contains Start n → IsRootIn present n
      in_start h = absurd (none_in n (subst (λ (l : List ℕ). Contains l n) empty h))

      in_flagged : Contains Flagged n → IsRootIn present n
      in_flagged h = elim (flags.only n h) [ inl before ↦ in_start before | inr found ↦ found.1 ]

      in_suspected : Contains Suspected n → IsRootIn present n
      in_suspected h = elim (suspected.only n h) [ inl before ↦ in_flagged before | inr found ↦ found.1 ]

      in_used : Contains Used n → IsRootIn present n
      in_used h = elim (users.only n h) [ inl before ↦ in_suspected before | inr found ↦ found.1 ]

      to : Contains Found n → IsRootIn present n
      to h = elim (askers.only n h) [ inl before ↦ in_used before | inr found ↦ found.1 ]

      begun : IsRootIn present n → BeginsAt nodes (graph_of present) n → Contains Found n
      begun root (inl flagged) = askers.kept n (users.kept n (suspected.kept n (flags.all n (flagged, root))))
      begun root (inr (inl touched)) = elim (touched_found nodes (stamps_in present) suspects all n touched) [
        | inl suspect ↦ askers.kept n (users.kept n (suspected.all n (suspect, root)))
        | inr uses ↦ askers.kept n (users.all n (uses, root))
      ]
      begun root (inr (inr told)) = askers.all n (turned_found n told, root)

      from : IsRootIn present n → Contains Found n
      from root = begun root root.1
