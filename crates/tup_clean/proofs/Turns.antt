-- Rules that are taken in turn: one more, those up to the first bad one, and that all are Good once none is ready.
use Rattle.std.proofs.Common.{◌≡◌, inl, inr, ℕ, zero, suc, ◌<◌, Bool, true, false, if◌then◌else◌, List, [], ◌∷◌, ◌++◌, length, map, Option, None, Some, IsSome, is_some, replicate, refl, sym, ap, ◌∙◌, subst}
use Rattle.std.proofs.lemmas.Bool.{false≢true, and_from, and_parts}
use Rattle.std.proofs.lemmas.List.{length-set, length-replicate, map-append}
use Rattle.std.proofs.lemmas.List.Elements.{filter_map-append}
use Rattle.std.proofs.lemmas.List.Folds.{list_all-append}
use Rattle.std.proofs.lemmas.Option.{same_Some, slice_get_within}
use Rattle.std.specs.FinMap as finite
use Rattle.std.specs.List.{slice_get, slice_set, list_all, cons_option}
use Rattle.tup_path.specs.Tree.{Tree}
use Rattle.tup_clean.specs.Buildable.{NoneWaitsForItself}
use Rattle.tup_rule.specs.declared.rule.Rule.{Rule}
use Rattle.tup_rule.specs.Producer.{DeclaredProducer}
use Rattle.tup_runner.specs.Next.{Next}
use Rattle.tup_access.specs.declared.verdict.Verdict.{Verdict}
use Rattle.tup_access.specs.declared.verdict.Verdict.TheVariants.{Good, Failed, IllegalRead, IllegalWrite, Unwritten, TooManyReads}
use Rattle.tup_access.specs.Verdict.{verdict}
use Rattle.tup_clean.specs.AnyOrder.{AreProducersGood}
use Rattle.tup_clean.specs.Clean.{Build, is_good, good_at, first_ready, given, builds_on, start, clean, succeeds}
use Rattle.tup_clean.specs.Taken.{Taken, rules_taken, with_verdicts, verdicts_of, AreTakenFrom, AreTaken, AllGood, AllTaken, takes_on, takes, up_to_bad}
use Rattle.tup_clean.proofs.Acyclic.{placed, by_producers}
use Rattle.tup_clean.proofs.Building.{step-some, step-none, takes-some, takes-none}
use Rattle.tup_clean.proofs.MayTake.{may_first}
use Rattle.tup_clean.proofs.Places.{some_place, set_cases, all_replicate}
use Rattle.tup_clean.proofs.Standing.{ready_stands}
use Rattle.tup_clean.proofs.Whole.{is_good_at, none_at_start}

-- ---- one more

pub taken_more : (rules : List Rule) (verdicts : List (Option Verdict)) (taken : List Taken) (one : Taken) → AreTakenFrom rules verdicts taken → first_ready rules (with_verdicts verdicts taken) ≡ Some one.0 →
    AreTakenFrom rules verdicts (taken ++ one ∷ [])
taken_more rules verdicts [] one are ready = (ready, tt)
taken_more rules verdicts (first ∷ taken) one are ready = (are.0, taken_more rules (slice_set verdicts first.0 (Some first.1)) taken one are.1 ready)

pub verdicts_more : (verdicts : List (Option Verdict)) (taken : List Taken) (one : Taken) → with_verdicts verdicts (taken ++ one ∷ []) ≡ slice_set (with_verdicts verdicts taken) one.0 (Some one.1)
verdicts_more verdicts [] one = refl
verdicts_more verdicts (first ∷ taken) one = verdicts_more (slice_set verdicts first.0 (Some first.1)) taken one

-- the rules at the places of two lists
pub rules_taken-append : (rules : List Rule) (taken more : List Taken) → rules_taken rules (taken ++ more) ≡ rules_taken rules taken ++ rules_taken rules more
rules_taken-append rules taken more = filter_map-append (λ (one : Taken). slice_get rules one.0) taken more

rules_taken-one : (rules : List Rule) (one : Taken) (rule : Rule) → slice_get rules one.0 ≡ Some rule → rules_taken rules (one ∷ []) ≡ rule ∷ []
rules_taken-one rules one rule here = ap (λ (o : Option Rule). cons_option o []) here

-- what is told of each of them
pub told_append : {A : Type 0} (tell : Rule → A) (rules : List Rule) (taken more : List Taken) → map tell (rules_taken rules (taken ++ more)) ≡ map tell (rules_taken rules taken) ++ map tell (rules_taken rules more)
told_append tell rules taken more = ap (map tell) (rules_taken-append rules taken more) ∙ map-append tell (rules_taken rules taken) (rules_taken rules more)

pub told_more : {A : Type 0} (tell : Rule → A) (rules : List Rule) (taken : List Taken) (one : Taken) (rule : Rule) → slice_get rules one.0 ≡ Some rule →
    map tell (rules_taken rules (taken ++ one ∷ [])) ≡ map tell (rules_taken rules taken) ++ tell rule ∷ []
told_more {A} tell rules taken one rule here =
    told_append tell rules taken (one ∷ []) ∙ ap (λ (l : List Rule). map tell (rules_taken rules taken) ++ map tell l) (rules_taken-one rules one rule here)

-- ---- up to the first bad one

pub good_more : (taken : List Taken) (one : Taken) → AllGood taken → is_good (Some one.1) ≡ true → AllGood (taken ++ one ∷ [])
good_more taken one good is =
    list_all-append (λ (t : Taken). is_good (Some t.1)) taken (one ∷ []) ∙ and_from _ _ good (and_from _ _ is refl)

pub up_to_bad-good : (front rest : List Taken) → AllGood front → up_to_bad (front ++ rest) ≡ front ++ up_to_bad rest
up_to_bad-good [] rest good = refl
up_to_bad-good (one ∷ front) rest good =
    let parts = and_parts (is_good (Some one.1)) _ good in
    ap (λ (b : Bool). one ∷ (if b then up_to_bad (front ++ rest) else [])) parts.0
    ∙ ap (λ (l : List Taken). one ∷ l) (up_to_bad-good front rest parts.1)

pub up_to_bad-bad : (one : Taken) (rest : List Taken) → is_good (Some one.1) ≡ false → up_to_bad (one ∷ rest) ≡ one ∷ []
up_to_bad-bad one rest bad = ap (λ (b : Bool). one ∷ (if b then up_to_bad rest else [])) bad

-- ---- verdicts

pub length-with_verdicts : (verdicts : List (Option Verdict)) (taken : List Taken) → length (with_verdicts verdicts taken) ≡ length verdicts
length-with_verdicts verdicts [] = refl
length-with_verdicts verdicts (one ∷ taken) = length-with_verdicts (slice_set verdicts one.0 (Some one.1)) taken ∙ length-set verdicts one.0 (Some one.1)

-- a good verdict is Good
pub is_the_good : (v : Verdict) → is_good (Some v) ≡ true → v ≡ Good
is_the_good Good e = refl
is_the_good (Failed status) e = absurd (false≢true e)
is_the_good (IllegalRead text) e = absurd (false≢true e)
is_the_good (IllegalWrite text) e = absurd (false≢true e)
is_the_good (Unwritten path) e = absurd (false≢true e)
is_the_good TooManyReads e = absurd (false≢true e)

-- no verdict but Good stands there
abbrev pub OnlyGood : List (Option Verdict) → Type 0
OnlyGood verdicts = (at : ℕ) (outcome : Verdict) → slice_get verdicts at ≡ Some (Some outcome) → outcome ≡ Good

only_good : (verdicts : List (Option Verdict)) (taken : List Taken) → OnlyGood verdicts → AllGood taken → OnlyGood (with_verdicts verdicts taken)
only_good verdicts [] only good = only
only_good verdicts (one ∷ taken) only good =
    let parts = and_parts (is_good (Some one.1)) _ good in
    only_good (slice_set verdicts one.0 (Some one.1)) taken (λ at outcome has. elim (set_cases verdicts one.0 at (Some one.1) (Some outcome) has) [
      | inl same ↦ same_Some outcome one.1 same ∙ is_the_good one.1 parts.0
      | inr before ↦ only at outcome before
    ]) parts.1

pub only_good_taken : (rules : List Rule) (taken : List Taken) → AllGood taken → OnlyGood (verdicts_of rules taken)
only_good_taken rules taken good = only_good (replicate (length rules) None) taken (λ at outcome has. absurd (none_at_start rules finite.empty at outcome has)) good

-- ---- a rule is ready as long as one is left

module _ (rules : List Rule) (verdicts : List (Option Verdict)) (many : length verdicts ≡ length rules) (only : OnlyGood verdicts) where
  -- what is left of a rule whose producers are all taken
  abbrev NoneLeft : ℕ → Type 0
  NoneLeft at = slice_get verdicts at ≡ Some None → first_ready rules verdicts ≡ None → ⊥

  producers_good : (rule : Rule) → ((other : ℕ) → DeclaredProducer rules rule other → NoneLeft other) → first_ready rules verdicts ≡ None → AreProducersGood rules verdicts rule
  producers_good rule behind none other producer = by_place (placed rules rule other producer)
    where
      by : (o : Option Verdict) → slice_get verdicts other ≡ Some o → good_at verdicts other ≡ true
      by None left = absurd (behind other producer left none)
      by (Some outcome) has = is_good_at verdicts other (has ∙ ap (λ (v : Verdict). Some (Some v)) (only other outcome has))

      by_place : (found : Rule) × (slice_get rules other ≡ Some found) → good_at verdicts other ≡ true
      by_place (found, here) =
          let there = some_place verdicts other (subst (λ (n : ℕ). other < n) (sym many) (slice_get_within rules other found here)) in
          by there.0 there.1

  none_left : NoneWaitsForItself rules → (at : ℕ) (rule : Rule) → slice_get rules at ≡ Some rule → NoneLeft at
  none_left acyclic at rule here =
      by_producers rules acyclic NoneLeft
      (λ place one stands behind left none.
      may_first rules (record { tree = finite.empty; verdicts = verdicts }) place one (record { here = stands; untaken = left; producers = producers_good one behind none }) none)
      at rule here

  pub none_left_at : NoneWaitsForItself rules → (at : ℕ) → slice_get verdicts at ≡ Some None → first_ready rules verdicts ≡ None → ⊥
  none_left_at acyclic at left none =
      let found = some_place rules at (subst (λ (n : ℕ). at < n) many (slice_get_within verdicts at None left)) in
      none_left acyclic at found.0 found.1 left none

  -- so all are Good once none is ready
  pub all_are_good : NoneWaitsForItself rules → first_ready rules verdicts ≡ None → verdicts ≡ replicate (length rules) (Some Good)
  all_are_good acyclic none = all_replicate (length rules) (Some Good) verdicts many each
    where
      by : (at : ℕ) (o : Option Verdict) → slice_get verdicts at ≡ Some o → slice_get verdicts at ≡ Some (Some Good)
      by at None left = absurd (none_left_at acyclic at left none)
      by at (Some outcome) has = has ∙ ap (λ (v : Verdict). Some (Some v)) (only at outcome has)

      each : (at : ℕ) → at < length rules → slice_get verdicts at ≡ Some (Some Good)
      each at below = let there = some_place verdicts at (subst (λ (n : ℕ). at < n) (sym many) below) in by at there.0 there.1

many_of : (rules : List Rule) (taken : List Taken) → length (verdicts_of rules taken) ≡ length rules
many_of rules taken = length-with_verdicts (replicate (length rules) None) taken ∙ length-replicate (length rules) None

pub some_is_ready : (rules : List Rule) (taken : List Taken) (at : ℕ) → NoneWaitsForItself rules → AreTaken rules taken → AllGood taken →
    slice_get (verdicts_of rules taken) at ≡ Some None → IsSome (first_ready rules (verdicts_of rules taken))
some_is_ready rules taken at acyclic are good left = by (first_ready rules (verdicts_of rules taken)) refl
  where
    by : (o : Option ℕ) → first_ready rules (verdicts_of rules taken) ≡ o → is_some o ≡ true
    by (Some one) ready = refl
    by None none = absurd (none_left_at rules (verdicts_of rules taken) (many_of rules taken) (only_good_taken rules taken good) acyclic at left none)

pub all_are_taken : (rules : List Rule) (taken : List Taken) → NoneWaitsForItself rules → AreTaken rules taken → AllGood taken →
    first_ready rules (verdicts_of rules taken) ≡ None → AllTaken rules taken
all_are_taken rules taken acyclic are good none =
    all_are_good rules (verdicts_of rules taken) (many_of rules taken) (only_good_taken rules taken good) acyclic none

-- a build of Good rules alone succeeds
pub succeeds_all : (n : ℕ) (build : Build) → build.verdicts ≡ replicate n (Some Good) → succeeds build ≡ true
succeeds_all n build are = ap (λ (l : List (Option Verdict)). list_all is_good l) are ∙ all n
  where
    all : (n : ℕ) → list_all is_good (replicate n (Some Good)) ≡ true
    all zero = refl
    all (suc n) = all n

-- ---- what the clean build takes

-- each of these is taken in turn, and this build has their verdicts
abbrev TakesTo : List Rule → List (Option Verdict) → List Taken → Build → Type 0
TakesTo rules verdicts taken end = AreTakenFrom rules verdicts taken × (with_verdicts verdicts taken ≡ end.verdicts)

takes_in_turn : (steps : ℕ) (next : Next) (rules : List Rule) (build : Build) → TakesTo rules build.verdicts (takes_on steps next rules build) (builds_on steps next rules build)
takes_in_turn zero next rules build = (tt, refl)
takes_in_turn (suc steps) next rules build = by (λ other. takes_in_turn steps next rules other) (first_ready rules build.verdicts) refl
  where
    by : ((other : Build) → TakesTo rules other.verdicts (takes_on steps next rules other) (builds_on steps next rules other)) → (f : Option ℕ) → first_ready rules build.verdicts ≡ f →
        TakesTo rules build.verdicts (takes_on (suc steps) next rules build) (builds_on (suc steps) next rules build)
    by on None none =
        subst (λ (l : List Taken). TakesTo rules build.verdicts l (builds_on (suc steps) next rules build)) (sym (takes-none next rules (suc steps) build none))
        (subst (λ (b : Build). TakesTo rules build.verdicts [] b) (sym (step-none next rules (suc steps) build none)) (tt, refl))
    by on (Some at) ready =
        let found = ready_stands rules build.verdicts at ready in
        let rest = on (given next rules build at found.0) in
        let taken : List Taken = (at, (verdict next rules found.0 build.tree).verdict) ∷ takes_on steps next rules (given next rules build at found.0) in
        subst (λ (l : List Taken). TakesTo rules build.verdicts l (builds_on (suc steps) next rules build)) (sym (takes-some next rules steps build at found.0 ready found.1))
        (subst (λ (b : Build). TakesTo rules build.verdicts taken b) (sym (step-some next rules steps build at found.0 ready found.1)) ((ready, rest.0), rest.1))

pub clean_takes_in_turn : (next : Next) (rules : List Rule) (sources : Tree) → AreTaken rules (takes next rules sources) × (verdicts_of rules (takes next rules sources) ≡ (clean next rules sources).verdicts)
unfolding takes clean
clean_takes_in_turn next rules sources = takes_in_turn (length rules) next rules (start rules sources)
