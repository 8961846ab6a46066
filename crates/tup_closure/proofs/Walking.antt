-- Walks from rules to those that read what they make.
use Rattle.std.specs.Prelude.{◌≡◌, ◌⊎◌, ◌↔◌, ℕ, zero, suc, ◌+◌, ◌-◌, ◌<◌, true, false, List, [], ◌∷◌, ◌++◌, Option, None, Some, Contains, length, slice_get, sum_by, unwrap_or, option_map}
use Rattle.std.proofs.Common.{refl, sym, ap, subst, ◌∙◌, inl, inr, take, get_or, arith, length-append}
use Rattle.std.proofs.lemmas.Bool.{true≢false, ltb-true}
use Rattle.std.proofs.lemmas.List.Elements.{Contains-push, Contains-push_cases, Contains-append_left}
use Rattle.std.proofs.lemmas.List.Sums.{sum_by_push}
use Rattle.std.specs.BTreeSet.{BTreeSet, contains, insert_key, IsOrdered, Updates}
use Rattle.std.specs.List.{list_any}
use Rattle.std.specs.List.Sorted.{IsStrictlySortedBy}
use Rattle.std.specs.Ordering.{nat_cmp, eq_by_cmp}
use Rattle.tup_path.specs.Name.{Names}
use Rattle.tup_rule.specs.declared.rule.Rule.{Rule}
use Rattle.tup_rule.proofs.Laws.{among-decides}
use Rattle.tup_graph.specs.Above.{AboveOver, HasAsked, HasReadOf, IsAbove}
use Rattle.tup_graph.specs.Graph.{GraphState, is_rule, outputs_of}
use Rattle.tup_readers.proofs.Entries.{none_in}
use Rattle.tup_closure.specs.Readers.{AreRunsOfRules, HasAskedOneOf}
use Rattle.tup_closure.specs.Grows.{Grows}
use Rattle.tup_closure.specs.Walk.{IsReached, IsWaiting, GoesTo, IsDone, IsWalk}
use Rattle.tup_closure.specs.declared.walk.Walk.{Walk}
use Rattle.tup_closure.proofs.Growing.{grows_on, grows_as, grows_nothing}
use Rattle.tup_closure.proofs.Counting.{counted, sum_inserted}
use Rattle.tup_closure.proofs.Members.{contained, in_set, in_empty, inserted, few_below, number-decides}
use Rattle.tup_closure.proofs.Asked.{asked_more}

-- ---- one way behind another

pub goes_on : {P Q : ℕ → Type 0} {a b c : Walk} → GoesTo P a b → GoesTo Q b c → GoesTo (λ n. P n ⊎ Q n) a c
goes_on {P} {Q} {a} {b} {c} one two = record {
  reached = grows_on one.reached two.reached;
  waits = λ n r. waits n (two.waits n r);
  still = λ n w. two.still n (one.still n w);
  no_others = λ n w. others n (two.no_others n w);
  weighs = λ weight. let first = one.weighs weight in let second = two.weighs weight in omega arith;
  more = let first = one.more in let second = two.more in omega arith;
  ordered = λ o. two.ordered (one.ordered o);
}
  where
    waits : (n : ℕ) → IsReached b n ⊎ IsWaiting c n → IsReached a n ⊎ IsWaiting c n
    waits n (inr w) = inr w
    waits n (inl r) = elim (one.waits n r) [ inl was ↦ inl was | inr w ↦ inr (two.still n w) ]

    others : (n : ℕ) → IsWaiting b n ⊎ Q n → IsWaiting a n ⊎ (P n ⊎ Q n)
    others n (inr q) = inr (inr q)
    others n (inl w) = elim (one.no_others n w) [ inl was ↦ inl was | inr p ↦ inr (inl p) ]

pub goes_as : {P Q : ℕ → Type 0} {a b : Walk} → ((n : ℕ) → P n → Q n) → ((n : ℕ) → Q n → P n) → GoesTo P a b → GoesTo Q a b
goes_as {P} {Q} {a} {b} to from one = record {
  reached = grows_as to from one.reached;
  waits = one.waits;
  still = one.still;
  no_others = λ n w. others n (one.no_others n w);
  weighs = one.weighs;
  more = one.more;
  ordered = one.ordered;
}
  where
    others : (n : ℕ) → IsWaiting a n ⊎ P n → IsWaiting a n ⊎ Q n
    others n (inl was) = inl was
    others n (inr p) = inr (to n p)

-- a walk that goes on to no rule
pub goes_nowhere : {Rules : ℕ → Type 0} (a : Walk) → ((n : ℕ) → Rules n → ⊥) → GoesTo Rules a a
goes_nowhere a none = record {
  reached = grows_nothing none;
  waits = λ n r. inl r;
  still = λ n w. w;
  no_others = λ n w. inl w;
  weighs = λ weight. refl;
  more = omega arith;
  ordered = λ o. o;
}

-- ---- one number

-- a walk comes to a rule to which it had come before
pub goes_to_old : (n : ℕ) (a b : Walk) → b.reached.keys ≡ a.reached.keys → b.waiting.items ≡ a.waiting.items → contains nat_cmp a.reached n ≡ true → GoesTo (λ m. m ≡ n) a b
goes_to_old n a b keys waits here = record {
  reached = record {
    only = λ m r. inl (was m r);
    all = λ m e. stays m (subst (IsReached a) (sym e) here);
    kept = stays;
  };
  waits = λ m r. inl (was m r);
  still = λ m w. subst (λ (l : List ℕ). Contains l m) (sym waits) w;
  no_others = λ m w. inl (subst (λ (l : List ℕ). Contains l m) waits w);
  weighs = λ weight.
      let left = ap (sum_by weight) waits in
      let came = ap (sum_by weight) keys in
      omega arith;
  more = let same = ap (λ (l : List ℕ). length l) keys in omega arith;
  ordered = λ o. subst (λ (l : List ℕ). IsStrictlySortedBy nat_cmp l) (sym keys) o;
}
  where
    was : (m : ℕ) → IsReached b m → IsReached a m
    was m r = subst (λ (l : List ℕ). list_any (eq_by_cmp nat_cmp m) l ≡ true) keys r

    stays : (m : ℕ) → IsReached a m → IsReached b m
    stays m r = subst (λ (l : List ℕ). list_any (eq_by_cmp nat_cmp m) l ≡ true) (sym keys) r

-- a walk comes to a new rule, which waits then
pub goes_to_new : (n : ℕ) (a b : Walk) → Updates nat_cmp a.reached b.reached n true → b.reached.keys ≡ insert_key nat_cmp a.reached.keys n → contains nat_cmp a.reached n ≡ false
    → IsOrdered nat_cmp b.reached → b.waiting.items ≡ a.waiting.items ++ n ∷ [] → GoesTo (λ m. m ≡ n) a b
goes_to_new n a b up keys new order pushed = record {
  reached = grown;
  waits = λ m r. elim (grown.only m r) [ inl was ↦ inl was | inr e ↦ inr (subst (IsWaiting b) (sym e) last) ];
  still = λ m w. subst (λ (l : List ℕ). Contains l m) (sym pushed) (Contains-append_left a.waiting.items (n ∷ []) m w);
  no_others = λ m w. elim (Contains-push_cases a.waiting.items n m (subst (λ (l : List ℕ). Contains l m) pushed w)) [ inl before ↦ inl before | inr here ↦ inr (sym here) ];
  weighs = λ weight.
      let left : sum_by weight b.waiting.items ≡ sum_by weight a.waiting.items + weight n = ap (sum_by weight) pushed ∙ sum_by_push weight a.waiting.items n in
      let came : sum_by weight b.reached.keys ≡ weight n + sum_by weight a.reached.keys = ap (sum_by weight) keys ∙ sum_inserted weight a.reached.keys n new in
      omega arith;
  more =
      let came : sum_by (λ _. 1) b.reached.keys ≡ 1 + sum_by (λ _. 1) a.reached.keys = ap (sum_by (λ _. 1)) keys ∙ sum_inserted (λ _. 1) a.reached.keys n new in
      let before = counted a.reached.keys in
      let after = counted b.reached.keys in
      omega arith;
  ordered = λ _. order;
}
  where
    grown : Grows (λ m. m ≡ n) (IsReached a) (IsReached b)
    grown = inserted nat_cmp number-decides a.reached b.reached n up

    last : IsWaiting b n
    last = subst (λ (l : List ℕ). Contains l n) (sym pushed) (Contains-push a.waiting.items n)

-- ---- one more number, and one more path

pub number_more : (xs : List ℕ) (x : ℕ) (a b c : Walk) → GoesTo (Contains xs) a b → GoesTo (λ n. n ≡ x) b c → GoesTo (Contains (xs ++ x ∷ [])) a c
number_more xs x a b c first one = goes_as to from (goes_on first one)
  where
    to : (n : ℕ) → Contains xs n ⊎ (n ≡ x) → Contains (xs ++ x ∷ []) n
    to n (inl h) = Contains-append_left xs (x ∷ []) n h
    to n (inr e) = subst (Contains (xs ++ x ∷ [])) (sym e) (Contains-push xs x)

    from : (n : ℕ) → Contains (xs ++ x ∷ []) n → Contains xs n ⊎ (n ≡ x)
    from n h = elim (Contains-push_cases xs x n h) [ inl before ↦ inl before | inr last ↦ inr (sym last) ]

pub path_more : (g : GraphState) (paths : List Names) (i : ℕ) (path d : Names) (a b c : Walk) → i < length paths → path ≡ get_or paths i d
    → GoesTo (HasAskedOneOf g (take i paths)) a b → GoesTo (λ n. HasAsked g n path) b c → GoesTo (HasAskedOneOf g (take (i + 1) paths)) a c
path_more g paths i path d a b c less is first one =
    goes_as (λ n. (asked_more g n paths i path d less is).0) (λ n. (asked_more g n paths i path d less is).1) (goes_on first one)

-- ---- a walk from some roots

pub nothing_in : (walk : Walk) (n : ℕ) → walk.reached.keys ≡ [] → IsReached walk n → ⊥
nothing_in walk n empty is = true≢false (sym is ∙ in_empty nat_cmp number-decides walk.reached n empty)

pub no_order : (keys : List ℕ) → keys ≡ [] → IsStrictlySortedBy nat_cmp keys
unfolding IsStrictlySortedBy
no_order [] e = tt
no_order (k ∷ keys) e = absurd (cc)

pub begun : (g : GraphState) (roots : List ℕ) (a b : Walk) → a.reached.keys ≡ [] → a.waiting.items ≡ [] → ((root : ℕ) → Contains roots root → is_rule g root ≡ true) → GoesTo (Contains roots) a b → IsWalk g (Contains roots) b
begun g roots a b empty idle rules goes = record {
  sound = λ n r. elim (goes.reached.only n r) [ inl was ↦ absurd (nothing_in a n empty was) | inr root ↦ (zero, root) ];
  roots = goes.reached.all;
  done = λ n r. elim (goes.waits n r) [ inl was ↦ absurd (nothing_in a n empty was) | inr w ↦ inl w ];
  inside = λ n w. elim (goes.no_others n w) [
    | inl was ↦ absurd (none_in n (subst (λ (l : List ℕ). Contains l n) idle was))
    | inr root ↦ goes.reached.all n root
  ];
  rules = λ n r. elim (goes.reached.only n r) [ inl was ↦ absurd (nothing_in a n empty was) | inr root ↦ rules n root ];
  ordered = goes.ordered (no_order a.reached.keys empty);
}

-- who asked an output of a rule reads what it makes, and the other way round
abbrev outputs : Option Rule → List Names
outputs found = unwrap_or (option_map (λ (rule : Rule). rule.outputs) found) []

module _ (g : GraphState) where
  read_by : (number n : ℕ) (found : Option Rule) → slice_get g.rules number ≡ found → HasAskedOneOf g (outputs found) n → (maker : Rule) × (slice_get g.rules number ≡ Some maker) × HasReadOf g n maker
  read_by number n None here (path, h, asked) = absurd (none_in path h)
  read_by number n (Some maker) here (path, h, asked) = (maker, here, (path, asked, (among-decides path maker.outputs).1 h))

  asked_for : (number n : ℕ) (maker : Rule) → slice_get g.rules number ≡ Some maker → HasReadOf g n maker → HasAskedOneOf g (outputs_of g number) n
  asked_for number n maker here (path, asked, wrote) = (path, subst (λ (found : Option Rule). Contains (outputs found) path) (sym here) ((among-decides path maker.outputs).0 wrote), asked)

  module _ (runs : AreRunsOfRules g) (Root : ℕ → Type 0) (old mid new : Walk) (number : ℕ) (same : mid.reached ≡ old.reached) (popped : old.waiting.items ≡ mid.waiting.items ++ number ∷ [])
      (walk : IsWalk g Root old) (goes : GoesTo (HasAskedOneOf g (outputs_of g number)) mid new) where
    was : (n : ℕ) → IsReached mid n → IsReached old n
    was n r = subst (λ (s : BTreeSet ℕ). contains nat_cmp s n ≡ true) same r

    stays : (n : ℕ) → IsReached old n → IsReached new n
    stays n r = goes.reached.kept n (subst (λ (s : BTreeSet ℕ). contains nat_cmp s n ≡ true) (sym same) r)

    this : IsReached old number
    this = walk.inside number (subst (λ (l : List ℕ). Contains l number) (sym popped) (Contains-push mid.waiting.items number))

    asked_above : (n : ℕ) → HasAskedOneOf g (outputs_of g number) n → IsAbove g Root n
    asked_above n asked =
        let (maker, here, read) = read_by number n (slice_get g.rules number) refl asked in
        let (reads, over) = walk.sound number this in
        (suc reads, (number, maker, over, here, read))

    all_read : (n : ℕ) → number ≡ n → IsDone g new n
    all_read n e = λ maker reader here read. goes.reached.all reader (asked_for number reader maker (subst (λ (m : ℕ). slice_get g.rules m ≡ Some maker) (sym e) here) read)

    waited : (n : ℕ) → IsWaiting old n → IsWaiting new n ⊎ IsDone g new n
    waited n w = elim (Contains-push_cases mid.waiting.items number n (subst (λ (l : List ℕ). Contains l n) popped w)) [
      | inl still ↦ inl (goes.still n still)
      | inr last ↦ inr (all_read n last)
    ]

    pub gone_on : IsWalk g Root new
    gone_on = record {
      sound = λ n r. elim (goes.reached.only n r) [ inl before ↦ walk.sound n (was n before) | inr asked ↦ asked_above n asked ];
      roots = λ n root. stays n (walk.roots n root);
      done = λ n r. elim (goes.waits n r) [
        | inl before ↦ elim (walk.done n (was n before)) [
          | inl w ↦ waited n w
          | inr done ↦ inr (λ maker reader here read. stays reader (done maker reader here read))
        ]
        | inr w ↦ inl w
      ];
      inside = λ n w. elim (goes.no_others n w) [
        | inl before ↦ stays n (walk.inside n (subst (λ (l : List ℕ). Contains l n) (sym popped) (Contains-append_left mid.waiting.items (number ∷ []) n before)))
        | inr asked ↦ goes.reached.all n asked
      ];
      rules = λ n r. elim (goes.reached.only n r) [
        | inl before ↦ walk.rules n (was n before)
        | inr asked ↦ runs n asked.2.0 asked.2.2
      ];
      ordered = goes.ordered (subst (λ (s : BTreeSet ℕ). IsOrdered nat_cmp s) (sym same) walk.ordered);
    }

    pub nearer : (length g.rules - length new.reached.keys) + length new.waiting.items < (length g.rules - length old.reached.keys) + length old.waiting.items
    nearer =
        let few = few_below new.reached (length g.rules) gone_on.ordered (λ n r. ltb-true n (length g.rules) (gone_on.rules n r)) in
        let one_less = ap (λ (l : List ℕ). length l) popped ∙ length-append mid.waiting.items (number ∷ []) in
        let keys = ap (λ (s : BTreeSet ℕ). length s.keys) same in
        let many = goes.weighs (λ _. 1) in
        let waited = counted old.waiting.items in
        let left = counted mid.waiting.items in
        let waits = counted new.waiting.items in
        let came = counted mid.reached.keys in
        let comes = counted new.reached.keys in
        let more = goes.more in
        omega arith

-- a walk on which nobody waits has come to all rules above the roots
module _ (g : GraphState) (Root : ℕ → Type 0) (walk : Walk) (is : IsWalk g Root walk) (idle : walk.waiting.items ≡ []) where
  reached_over : (reads n : ℕ) → AboveOver reads g Root n → IsReached walk n
  reached_over zero n root = is.roots n root
  reached_over (suc reads) n (before, maker, over, here, read) = elim (is.done before (reached_over reads before over)) [
    | inl w ↦ absurd (none_in before (subst (λ (l : List ℕ). Contains l before) idle w))
    | inr done ↦ done maker n here read
  ]

  pub all_above : (numbers : List ℕ) → numbers ≡ walk.reached.keys → (n : ℕ) → Contains numbers n ↔ IsAbove g Root n
  all_above numbers same n = (
    λ h. is.sound n (in_set nat_cmp number-decides walk.reached n (subst (λ (l : List ℕ). Contains l n) same h)),
    λ (reads, over). subst (λ (l : List ℕ). Contains l n) (sym same) (contained nat_cmp number-decides walk.reached n (reached_over reads n over)),
  )

pub none_left : (waiting : List ℕ) → length waiting ≡ 0 → waiting ≡ []
none_left [] e = refl
none_left (number ∷ waiting) e = absurd (omega arith)
