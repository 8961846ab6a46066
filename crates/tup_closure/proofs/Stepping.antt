-- The steps of a walk over recorded reads.
use Rattle.std.specs.Prelude.{◌≡◌, ℕ, zero, suc, ◌+◌, ◌<◌, ◌≤◌, List, [], ◌∷◌, ◌++◌, Some, Result, Ok, Err, OnOk, OnErr, Contains, length, slice_get, sum_by}
use Rattle.std.proofs.Common.{refl, sym, ap, subst, ◌∙◌, inl, inr, take, drop, get_or, arith}
use Rattle.std.proofs.lemmas.List.{take-append-drop}
use Rattle.std.proofs.lemmas.List.Elements.{Contains-append_left}
use Rattle.std.proofs.lemmas.List.Sums.{sum_by_more, sum_by_more_le, sum_by_push}
use Rattle.std.specs.BTreeSet.{BTreeSet}
use Rattle.std.specs.FinMap as finite
use Rattle.std.specs.Ordering.{nat_cmp}
use Rattle.tup_path.specs.Name.{Names}
use Rattle.tup_rule.specs.declared.rule.Rule.{Rule}
use Rattle.tup_record.specs.declared.run.RunRecord.{RunRecord}
use Rattle.tup_graph.specs.Above.{AboveOver, IsAbove}
use Rattle.tup_graph.specs.Graph.{GraphState, outputs_of}
use Rattle.tup_closure.specs.Steps.{HasStepped, HasSteppedAtMost, IsListOf, looks, looks_at, readers_of}
use Rattle.tup_closure.specs.Walk.{GoesTo, IsCounted, IsWalk}
use Rattle.tup_closure.specs.declared.walk.Walk.{Walk}
use Rattle.tup_closure.proofs.Counting.{as_long, listed_as, no_longer, weighs_no_more}
use Rattle.tup_closure.proofs.Members.{contained, in_set, number-decides}
use Rattle.tup_closure.proofs.Walking.{all_above, no_order, nothing_in}

-- what holds anyway holds of an answer
pub if_ok : {T E P : Type 0} (r : Result T E) → P → OnOk r P
if_ok (Ok x) p = p
if_ok (Err e) p = tt

pub if_err : {T E P : Type 0} (r : Result T E) → P → OnErr r P
if_err (Ok x) p = tt
if_err (Err e) p = p

-- some of the first numbers are some of all
pub taken_within : (xs : List ℕ) (i n : ℕ) → Contains (take i xs) n → Contains xs n
taken_within xs i n h = subst (λ (l : List ℕ). Contains l n) (take-append-drop i xs) (Contains-append_left (take i xs) (drop i xs) n h)

-- ---- what a walk has counted

-- the looks at the readers of what a rule makes
abbrev looks_of : GraphState → ℕ → ℕ
looks_of g number = looks_at g (outputs_of g number)

-- what a walk has come to weighs no more than all rules above the roots
reached_within : (g : GraphState) (Root : ℕ → Type 0) (walk : Walk) → IsWalk g Root walk → (reached : List ℕ) → IsListOf (IsAbove g Root) reached → (weight : ℕ → ℕ)
    → sum_by weight walk.reached.keys ≤ sum_by weight reached
reached_within g Root walk is reached are weight =
    weighs_no_more walk.reached.keys reached (record { ascending = is.ordered; members = λ n. (in_set nat_cmp number-decides walk.reached n, contained nat_cmp number-decides walk.reached n) }) are is.sound weight

-- the steps of a walk are at most the steps of a walk
pub at_most : {g : GraphState} {Root : ℕ → Type 0} {before after : ℕ} → HasStepped g Root before after → HasSteppedAtMost g Root before after
at_most {g} {Root} {before} {after} is roots reached are_roots are_above =
    let as_many : length is.roots ≡ length roots = as_long is.roots roots is.are_roots are_roots in
    let within : looks g is.reached ≤ looks g reached = weighs_no_more is.reached reached is.are_above are_above (λ n above. above) (looks_of g) in
    let steps = is.steps in
    omega arith

-- the rules to which a walk has come, once it has come to its roots
pub come_to : {Root : ℕ → Type 0} (a b : Walk) → a.reached.keys ≡ [] → GoesTo Root a b → IsListOf Root b.reached.keys
come_to {Root} a b empty goes = record {
  ascending = goes.ordered (no_order a.reached.keys empty);
  members = λ n. (
    λ h. elim (goes.reached.only n (in_set nat_cmp number-decides b.reached n h)) [ inl was ↦ absurd (nothing_in a n empty was) | inr root ↦ root ],
    λ root. contained nat_cmp number-decides b.reached n (goes.reached.all n root),
  );
}

-- as many came as there are roots, and no more came before all did
pub came_within : {Some_roots Root : ℕ → Type 0} (a b : Walk) (roots : List ℕ) → a.reached.keys ≡ [] → ((n : ℕ) → Some_roots n → Root n) → GoesTo Some_roots a b → IsListOf Root roots → length b.reached.keys ≤ length roots
came_within a b roots empty within goes are = no_longer b.reached.keys roots (come_to a b empty goes) are within

-- the looks at the readers of one path more, and of all paths
pub looked_more : (g : GraphState) (paths : List Names) (i : ℕ) (path : Names) (start now after : ℕ) → i < length paths → path ≡ get_or paths i path
    → now ≡ start + looks_at g (take i paths) → after ≡ now + length (readers_of g path) → after ≡ start + looks_at g (take (i + 1) paths)
looked_more g paths i path start now after less is before looked =
    let more : looks_at g (take (i + 1) paths) ≡ looks_at g (take i paths) + length (readers_of g (get_or paths i path)) = sum_by_more (λ p. length (readers_of g p)) paths i path less in
    let these : length (readers_of g path) ≡ length (readers_of g (get_or paths i path)) = ap (λ p. length (readers_of g p)) is in
    omega arith

pub looked_less : (g : GraphState) (paths : List Names) (i : ℕ) (path : Names) (start now after : ℕ) → i < length paths → path ≡ get_or paths i path
    → now ≡ start + looks_at g (take i paths) → after ≤ now + length (readers_of g path) → after ≤ start + looks_at g paths
looked_less g paths i path start now after less is before looked =
    let within : looks_at g (take i paths) + length (readers_of g (get_or paths i path)) ≤ looks_at g paths = sum_by_more_le (λ p. length (readers_of g p)) paths i path less in
    let these : length (readers_of g path) ≡ length (readers_of g (get_or paths i path)) = ap (λ p. length (readers_of g p)) is in
    omega arith

-- who was refused at a root has taken no more than a step for each
pub fewer_roots : {Some_roots Root : ℕ → Type 0} (a b : Walk) → ((n : ℕ) → Some_roots n → Root n) → (start before after : ℕ) → a.reached.keys ≡ [] → GoesTo Some_roots a b → before ≡ start + length b.reached.keys → after ≡ before
    → (roots : List ℕ) → IsListOf Root roots → after ≤ start + length roots
fewer_roots a b within start before after empty goes ticked same roots are =
    let came : length b.reached.keys ≤ length roots = came_within a b roots empty within goes are in
    omega arith

module _ (g : GraphState) (Root : ℕ → Type 0) (start : ℕ) where
  -- a walk that has come to its roots
  pub begun_counted : (a b : Walk) (steps : ℕ) → a.reached.keys ≡ [] → a.waiting.items ≡ [] → GoesTo Root a b → steps ≡ start + length b.reached.keys → IsCounted g Root start b steps
  begun_counted a b steps empty idle goes ticked = record {
    roots = b.reached.keys;
    are_roots = come_to a b empty goes;
    so_far =
        let weighs : looks g b.waiting.items + looks g a.reached.keys ≡ looks g a.waiting.items + looks g b.reached.keys = goes.weighs (looks_of g) in
        let none : looks g a.reached.keys ≡ 0 = ap (looks g) empty in
        let rests : looks g a.waiting.items ≡ 0 = ap (looks g) idle in
        omega arith;
  }

  module _ (old mid new : Walk) (number before after : ℕ) (same : mid.reached ≡ old.reached) (popped : old.waiting.items ≡ mid.waiting.items ++ number ∷ []) (is : IsCounted g Root start old before) where
    this : looks g old.waiting.items ≡ looks g mid.waiting.items + looks_of g number
    this = ap (looks g) popped ∙ sum_by_push (looks_of g) mid.waiting.items number

    -- a walk that has looked at those who read what one of its rules makes
    pub counted_on : {Rules : ℕ → Type 0} → GoesTo Rules mid new → after ≡ before + looks_of g number → IsCounted g Root start new after
    counted_on goes ticked = record {
      roots = is.roots;
      are_roots = is.are_roots;
      so_far =
          let weighs : looks g new.waiting.items + looks g mid.reached.keys ≡ looks g mid.waiting.items + looks g new.reached.keys = goes.weighs (looks_of g) in
          let kept : looks g mid.reached.keys ≡ looks g old.reached.keys = ap (λ (s : BTreeSet ℕ). looks g s.keys) same in
          let one = this in
          let so_far = is.so_far in
          omega arith;
    }

    -- one that was refused has looked at no more
    pub no_more : IsWalk g Root old → after ≤ before + looks_of g number → HasSteppedAtMost g Root start after
    no_more walk ticked roots reached are_roots are_above =
        let as_many : length is.roots ≡ length roots = as_long is.roots roots is.are_roots are_roots in
        let within : looks g old.reached.keys ≤ looks g reached = reached_within g Root old walk reached are_above (looks_of g) in
        let one = this in
        let so_far = is.so_far in
        omega arith

  module _ (walk : Walk) (steps : ℕ) (is : IsCounted g Root start walk steps) (on : IsWalk g Root walk) (idle : walk.waiting.items ≡ []) where
    none_waits : looks g walk.waiting.items ≡ 0
    none_waits = ap (looks g) idle

    -- a walk on which nobody waits has taken its steps
    pub all_counted : HasStepped g Root start steps
    all_counted = record {
      roots = is.roots;
      reached = walk.reached.keys;
      are_roots = is.are_roots;
      are_above = record { ascending = on.ordered; members = all_above g Root walk on idle walk.reached.keys refl };
      steps =
          let so_far = is.so_far in
          let none = none_waits in
          omega arith;
    }

    pub all_at_most : HasSteppedAtMost g Root start steps
    all_at_most = at_most all_counted

-- who was refused at the roots has taken at most a step for each
pub roots_at_most : (g : GraphState) (Root : ℕ → Type 0) (before after : ℕ) → ((roots : List ℕ) → IsListOf Root roots → after ≤ before + length roots) → HasSteppedAtMost g Root before after
roots_at_most g Root before after fewer = λ roots reached are_roots are_above. let few : after ≤ before + length roots = fewer roots are_roots in omega arith

-- who was refused before it looked has taken no step
pub none_stepped : (g : GraphState) (Root : ℕ → Type 0) (steps : ℕ) → HasSteppedAtMost g Root steps steps
none_stepped g Root steps = λ roots reached are_roots are_above. omega arith

-- ---- other words for the graph and its roots

-- a graph with the same rules and records, and roots that take these in
pub above_as : (a b : GraphState) (R S : ℕ → Type 0) → a.rules ≡ b.rules → a.runs ≡ b.runs → ((n : ℕ) → R n → S n) → (reads n : ℕ) → AboveOver reads a R n → AboveOver reads b S n
above_as a b R S rules runs roots zero n root = roots n root
above_as a b R S rules runs roots (suc reads) n (before, maker, over, here, (path, (run, given, ran, asked), wrote)) = (
  before,
  maker,
  above_as a b R S rules runs roots reads before over,
  subst (λ (l : List Rule). slice_get l before ≡ Some maker) rules here,
  (path, (run, given, subst (λ (m : finite.FinMap nat_cmp RunRecord). finite.get m n ≡ Some run) runs ran, asked), wrote),
)

module _ (g h : GraphState) (Root Other : ℕ → Type 0) (rules : g.rules ≡ h.rules) (runs : g.runs ≡ h.runs) (to : (n : ℕ) → Root n → Other n) (from : (n : ℕ) → Other n → Root n) where
  above_to : (n : ℕ) → IsAbove g Root n → IsAbove h Other n
  above_to n (reads, over) = (reads, above_as g h Root Other rules runs to reads n over)

  above_from : (n : ℕ) → IsAbove h Other n → IsAbove g Root n
  above_from n (reads, over) = (reads, above_as h g Other Root (sym rules) (sym runs) from reads n over)

  same_looks : (numbers : List ℕ) → looks g numbers ≡ looks h numbers
  same_looks numbers = λ i. looks (record g { rules = rules i; runs = runs i }) numbers

  -- the same steps
  pub stepped_as : (before after : ℕ) → HasStepped g Root before after → HasStepped h Other before after
  stepped_as before after is = record {
    roots = is.roots;
    reached = is.reached;
    are_roots = listed_as is.roots to from is.are_roots;
    are_above = listed_as is.reached above_to above_from is.are_above;
    steps = is.steps ∙ ap (λ n. before + length is.roots + n) (same_looks is.reached);
  }

  pub at_most_as : (before after : ℕ) → HasSteppedAtMost g Root before after → HasSteppedAtMost h Other before after
  at_most_as before after is = λ roots reached are_roots are_above.
      subst (λ n. after ≤ before + length roots + n) (same_looks reached) (is roots reached (listed_as roots from to are_roots) (listed_as reached above_from above_to are_above))
