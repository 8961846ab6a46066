-- What a build is, in whatever order its rules were taken: each verdict is the one over the tree so far, and that tree
-- is the sources with what the Good rules left.
use Rattle.std.proofs.Common.{◌≡◌, ℕ, zero, suc, ◌<◌, Bool, true, false, cond, List, [], ◌∷◌, length, Option, None, Some, replicate, refl, sym, ap, ◌∙◌, ◌⊎◌, subst, inl, inr}
use Rattle.std.proofs.lemmas.Bool.{false≢true, cases_Bool, cases_eq, false_from_ne_true}
use Rattle.std.proofs.lemmas.Option.{same_Some, none-some, slice_get_within}
use Rattle.std.proofs.lemmas.List.{length-set, length-replicate}
use Rattle.std.specs.List.{slice_get, slice_set}
use Rattle.std.specs.FinMap as finite
use Rattle.tup_path.specs.Name.{Names, Content}
use Rattle.tup_path.specs.Order.{by_names}
use Rattle.tup_path.specs.Tree.{Tree}
use Rattle.tup_rule.specs.declared.rule.Rule.{Rule}
use Rattle.tup_rule.specs.Rule.{writes, declares, maker}
use Rattle.tup_rule.proofs.Laws.{maker-Some, is_generated-at}
use Rattle.tup_runner.specs.Next.{Next}
use Rattle.tup_access.specs.declared.verdict.Verdict.{Verdict}
use Rattle.tup_access.specs.declared.verdict.Verdict.TheVariants.{Good, Failed, IllegalRead, IllegalWrite, Unwritten, TooManyReads}
use Rattle.tup_access.specs.Access.{may_read}
use Rattle.tup_access.specs.Judge.{Judged}
use Rattle.tup_access.specs.Verdict.{verdict}
use Rattle.tup_access.proofs.Alike.{verdict-alike}
use Rattle.tup_clean.specs.Clean.{Build, is_good, good_at, with_files, given, start}
use Rattle.tup_clean.specs.AnyOrder.{MakeApart, AreProducersGood, MayBeTaken, IsBuiltBy, IsOver, IsWhole}
use Rattle.tup_clean.proofs.Places.{some_place, set_here, set_apart}
use Rattle.tup_clean.proofs.Among.{is_generated-maker}
use Rattle.tup_clean.proofs.VerdictLaws.{cases_Good, verdict-leaves}
use Rattle.tup_clean.proofs.Growing.{none_good, stays_good}
use Rattle.tup_clean.proofs.Putting.{declared_since, get-put_good, get-put_apart}

-- what a build under way is
pub record IsGoing (next : Next) (rules : List Rule) (sources : Tree) (build : Build) : Type 0 where
  pub many : length build.verdicts ≡ length rules
  pub verdicts : (at : ℕ) (rule : Rule) (outcome : Verdict) → slice_get rules at ≡ Some rule → slice_get build.verdicts at ≡ Some (Some outcome) → outcome ≡ (verdict next rules rule build.tree).verdict
  pub ready : (at : ℕ) (rule : Rule) (outcome : Verdict) → slice_get rules at ≡ Some rule → slice_get build.verdicts at ≡ Some (Some outcome) → AreProducersGood rules build.verdicts rule
  pub made : (at : ℕ) (rule : Rule) (path : Names) → slice_get rules at ≡ Some rule → good_at build.verdicts at ≡ true → writes rule path ≡ true →
      finite.get build.tree path ≡ finite.find by_names path (verdict next rules rule build.tree).files
  pub elsewhere : (path : Names) → ((at : ℕ) (rule : Rule) → slice_get rules at ≡ Some rule → writes rule path ≡ true → good_at build.verdicts at ≡ false) →
      finite.get build.tree path ≡ finite.get sources path

-- ---- verdicts at places

-- a Good rule's verdict is Good
pub good_is : (verdicts : List (Option Verdict)) (at : ℕ) → good_at verdicts at ≡ true → slice_get verdicts at ≡ Some (Some Good)
good_is verdicts at good = by (slice_get verdicts at) refl good
  where
    not_good : (outcome : Verdict) → (outcome ≡ Good → ⊥) → is_good (Some outcome) ≡ false
    not_good Good other = absurd (other refl)
    not_good (Failed status) other = refl
    not_good (IllegalRead text) other = refl
    not_good (IllegalWrite text) other = refl
    not_good (Unwritten path) other = refl
    not_good TooManyReads other = refl

    by : (o : Option (Option Verdict)) → slice_get verdicts at ≡ o → elim o as (λ _. Bool) [ Some outcome ↦ is_good outcome | None ↦ false ] ≡ true → slice_get verdicts at ≡ Some (Some Good)
    by None is good_so = absurd (false≢true good_so)
    by (Some None) is good_so = absurd (false≢true good_so)
    by (Some (Some outcome)) is good_so = elim (cases_Good outcome) [
      | inl same ↦ is ∙ ap (λ (v : Verdict). Some (Some v)) same
      | inr other ↦ absurd (false≢true (sym (not_good outcome other) ∙ good_so))
    ]

pub is_good_at : (verdicts : List (Option Verdict)) (at : ℕ) → slice_get verdicts at ≡ Some (Some Good) → good_at verdicts at ≡ true
is_good_at verdicts at is = rw (is, good_at) refl

-- a rule that isn't taken isn't Good
untaken_bad : (verdicts : List (Option Verdict)) (at : ℕ) → slice_get verdicts at ≡ Some None → good_at verdicts at ≡ false
untaken_bad verdicts at untaken = rw (untaken, good_at) refl

-- the verdict at a place, after another was given
pub verdict_set : (verdicts : List (Option Verdict)) (at place : ℕ) (given_one outcome : Verdict) → at < length verdicts → slice_get (slice_set verdicts at (Some given_one)) place ≡ Some (Some outcome) →
    ((place ≡ at) × (outcome ≡ given_one)) ⊎ ((place ≡ at → ⊥) × (slice_get verdicts place ≡ Some (Some outcome)))
verdict_set verdicts at place given_one outcome within is =
    elim (cases_eq place at) [
      | inl same ↦ inl (same, same_Some _ _ (same_Some _ _ (sym is ∙ ap (slice_get (slice_set verdicts at (Some given_one))) same ∙ set_here verdicts at (Some given_one) within)))
      | inr apart ↦ inr (apart, sym (set_apart verdicts at place (Some given_one) apart) ∙ is)
    ]

-- ---- the start

none_at_all : (n k : ℕ) (outcome : Verdict) → slice_get (replicate n None) k ≡ Some (Some outcome) → ⊥
none_at_all zero k outcome is = none-some (Some outcome) is
none_at_all (suc n) zero outcome is = none-some outcome (same_Some _ _ is)
none_at_all (suc n) (suc k) outcome is = none_at_all n k outcome is

-- no rule has a verdict yet
pub none_at_start : (rules : List Rule) (sources : Tree) (at : ℕ) (outcome : Verdict) → slice_get (start rules sources).verdicts at ≡ Some (Some outcome) → ⊥
none_at_start rules sources at outcome has = none_at_all (length rules) at outcome has

pub going_start : (next : Next) (rules : List Rule) (sources : Tree) → IsGoing next rules sources (start rules sources)
going_start next rules sources = record {
  many = length-replicate (length rules) None;
  verdicts = λ at rule outcome here has. absurd (none_at_start rules sources at outcome has);
  ready = λ at rule outcome here has. absurd (none_at_start rules sources at outcome has);
  made = λ at rule path here good own. absurd (false≢true (sym (none_good (length rules) at) ∙ good));
  elsewhere = λ path apart. refl;
}

-- ---- one rule more

-- a path that a rule may read and doesn't write is none of a rule that wasn't taken, where the producers of the first are Good
pub not_read : (rules : List Rule) (build : Build) (at : ℕ) (rule reader : Rule) (path : Names) → MakeApart rules → MayBeTaken rules build at rule → AreProducersGood rules build.verdicts reader →
    may_read rules reader path ≡ true → writes reader path ≡ false → writes rule path ≡ false
not_read rules build at rule reader path apart may good readable foreign =
    elim (cases_Bool (writes rule path)) [
      | inr other ↦ other
      | inl own ↦
          let generated = is_generated-at rules path at rule may.here own in
          let maker_of = is_generated-maker rules path generated in
          let found = maker-Some rules path maker_of.0 maker_of.1 in
          let same : maker_of.0 ≡ at = apart maker_of.0 at found.rule rule path found.here may.here found.writes_it own in
          let declared : declares reader path ≡ true = declared_since _ _ _ readable generated foreign in
          let made : maker path rules ≡ Some at = maker_of.1 ∙ ap Some same in
          absurd (false≢true (sym (untaken_bad build.verdicts at may.untaken) ∙ good at (zero, (path, declared, made))))
    ]

module _ (next : Next) (rules : List Rule) (sources : Tree) (build : Build) (at : ℕ) (rule : Rule) (apart : MakeApart rules) (may : MayBeTaken rules build at rule) where
  -- verdicts over the tree before are those over the tree after
  pub same_after : (reader : Rule) → AreProducersGood rules build.verdicts reader → verdict next rules reader (given next rules build at rule).tree ≡ verdict next rules reader build.tree
  same_after reader good =
      verdict-alike next rules reader (given next rules build at rule).tree build.tree
      (record { alike = λ path readable foreign. get-put_apart next rules rule build.tree build.tree path (not_read rules build at rule reader path apart may good readable foreign) })

  -- a rule that was Good still is
  pub still_good : (place : ℕ) → good_at build.verdicts place ≡ true → good_at (given next rules build at rule).verdicts place ≡ true
  still_good place good = stays_good build.verdicts at (verdict next rules rule build.tree).verdict may.untaken place good

  still_behind : (reader : Rule) → AreProducersGood rules build.verdicts reader → AreProducersGood rules (given next rules build at rule).verdicts reader
  still_behind reader good place behind = still_good place (good place behind)

  module _ (going : IsGoing next rules sources build) where
    within : at < length build.verdicts
    within = subst (λ (n : ℕ). at < n) (sym going.many) (slice_get_within rules at rule may.here)

    -- the rule itself is Good now, or another one was before
    good_cases : (place : ℕ) (reader : Rule) → slice_get rules place ≡ Some reader → good_at (given next rules build at rule).verdicts place ≡ true →
        ((place ≡ at) × (reader ≡ rule) × ((verdict next rules rule build.tree).verdict ≡ Good)) ⊎ ((place ≡ at → ⊥) × (good_at build.verdicts place ≡ true))
    good_cases place reader here good =
        elim (verdict_set build.verdicts at place (verdict next rules rule build.tree).verdict Good within (good_is (given next rules build at rule).verdicts place good)) [
          | inl itself ↦ inl (itself.0, same_Some reader rule (sym here ∙ ap (slice_get rules) itself.0 ∙ may.here), sym itself.1)
          | inr other ↦ inr (other.0, is_good_at build.verdicts place other.1)
        ]

    -- a Good rule has its producers behind it
    good_behind : (place : ℕ) (reader : Rule) → slice_get rules place ≡ Some reader → good_at build.verdicts place ≡ true → AreProducersGood rules build.verdicts reader
    good_behind place reader here good = going.ready place reader Good here (good_is build.verdicts place good)

    verdicts_more : (place : ℕ) (reader : Rule) (outcome : Verdict) → slice_get rules place ≡ Some reader → slice_get (given next rules build at rule).verdicts place ≡ Some (Some outcome) →
        outcome ≡ (verdict next rules reader (given next rules build at rule).tree).verdict
    verdicts_more place reader outcome here has =
        elim (verdict_set build.verdicts at place (verdict next rules rule build.tree).verdict outcome within has) [
          | inl itself ↦
              let same : rule ≡ reader = same_Some rule reader (sym may.here ∙ ap (slice_get rules) (sym itself.0) ∙ here) in
              itself.1 ∙ ap (λ (j : Judged). j.verdict) (sym (same_after rule may.producers)) ∙ ap (λ (r : Rule). (verdict next rules r (given next rules build at rule).tree).verdict) same
          | inr other ↦ going.verdicts place reader outcome here other.1 ∙ ap (λ (j : Judged). j.verdict) (sym (same_after reader (going.ready place reader outcome here other.1)))
        ]

    ready_more : (place : ℕ) (reader : Rule) (outcome : Verdict) → slice_get rules place ≡ Some reader → slice_get (given next rules build at rule).verdicts place ≡ Some (Some outcome) →
        AreProducersGood rules (given next rules build at rule).verdicts reader
    ready_more place reader outcome here has =
        elim (verdict_set build.verdicts at place (verdict next rules rule build.tree).verdict outcome within has) [
          | inl itself ↦
              let same : rule ≡ reader = same_Some rule reader (sym may.here ∙ ap (slice_get rules) (sym itself.0) ∙ here) in
              subst (λ (r : Rule). AreProducersGood rules (given next rules build at rule).verdicts r) same (still_behind rule may.producers)
          | inr other ↦ still_behind reader (going.ready place reader outcome here other.1)
        ]

    made_more : (place : ℕ) (reader : Rule) (path : Names) → slice_get rules place ≡ Some reader → good_at (given next rules build at rule).verdicts place ≡ true → writes reader path ≡ true →
        finite.get (given next rules build at rule).tree path ≡ finite.find by_names path (verdict next rules reader (given next rules build at rule).tree).files
    made_more place reader path here good own =
        elim (good_cases place reader here good) [
          | inl itself ↦
              let mine : writes rule path ≡ true = subst (λ (r : Rule). writes r path ≡ true) itself.1 own in
              get-put_good next rules rule build.tree build.tree path itself.2
              ∙ ap (λ b. cond b (finite.find by_names path (verdict next rules rule build.tree).files) (finite.get build.tree path)) mine
              ∙ ap (λ (j : Judged). finite.find by_names path j.files) (sym (same_after rule may.producers))
              ∙ ap (λ (r : Rule). finite.find by_names path (verdict next rules r (given next rules build at rule).tree).files) (sym itself.1)
          | inr other ↦
              let foreign : writes rule path ≡ false = false_from_ne_true (writes rule path) (λ mine. other.0 (apart place at reader rule path here may.here own mine)) in
              get-put_apart next rules rule build.tree build.tree path foreign
              ∙ going.made place reader path here other.1 own
              ∙ ap (λ (j : Judged). finite.find by_names path j.files) (sym (same_after reader (good_behind place reader here other.1)))
        ]

    elsewhere_more : (path : Names) → ((place : ℕ) (reader : Rule) → slice_get rules place ≡ Some reader → writes reader path ≡ true → good_at (given next rules build at rule).verdicts place ≡ false) →
        finite.get (given next rules build at rule).tree path ≡ finite.get sources path
    elsewhere_more path none = stays ∙ going.elsewhere path before
      where
        before : (place : ℕ) (reader : Rule) → slice_get rules place ≡ Some reader → writes reader path ≡ true → good_at build.verdicts place ≡ false
        before place reader here own =
            false_from_ne_true (good_at build.verdicts place) (λ good. false≢true (sym (none place reader here own) ∙ still_good place good))

        bad : writes rule path ≡ true → (verdict next rules rule build.tree).verdict ≡ Good → ⊥
        bad own good =
            false≢true (sym (none at rule may.here own)
            ∙ is_good_at (given next rules build at rule).verdicts at (set_here build.verdicts at (Some (verdict next rules rule build.tree).verdict) within ∙ ap (λ (v : Verdict). Some (Some v)) good))

        stays : finite.get (given next rules build at rule).tree path ≡ finite.get build.tree path
        stays = elim (cases_Bool (writes rule path)) [
          | inr foreign ↦ get-put_apart next rules rule build.tree build.tree path foreign
          | inl own ↦ ap (λ (files : List (Names × Content)). finite.get (with_files build.tree files) path) ((verdict-leaves next rules rule build.tree).other (λ good. bad own good))
        ]

    pub going_more : IsGoing next rules sources (given next rules build at rule)
    going_more = record {
      many = length-set build.verdicts at (Some (verdict next rules rule build.tree).verdict) ∙ going.many;
      verdicts = verdicts_more;
      ready = ready_more;
      made = made_more;
      elsewhere = elsewhere_more;
    }

pub going_on : (next : Next) (rules : List Rule) (sources : Tree) (order : List ℕ) (build end : Build) → MakeApart rules → IsGoing next rules sources build → IsBuiltBy next rules build order end →
    IsGoing next rules sources end
going_on next rules sources [] build end apart going is = subst (λ (b : Build). IsGoing next rules sources b) (sym is) going
going_on next rules sources (at ∷ order) build end apart going (rule, may, rest) =
    going_on next rules sources order (given next rules build at rule) end apart (going_more next rules sources build at rule apart may going) rest

-- ---- the end

-- a rule that isn't taken though its producers are Good could be taken
pub whole_over : (next : Next) (rules : List Rule) (sources : Tree) (build : Build) → IsGoing next rules sources build → IsOver rules build → IsWhole next rules sources build
whole_over next rules sources build going over = record {
  many = going.many;
  taken = taken;
  ready = going.ready;
  made = going.made;
  elsewhere = going.elsewhere;
}
  where
    taken : (at : ℕ) (rule : Rule) → slice_get rules at ≡ Some rule → AreProducersGood rules build.verdicts rule → slice_get build.verdicts at ≡ Some (Some (verdict next rules rule build.tree).verdict)
    taken at rule here good =
        let within : at < length build.verdicts = subst (λ (n : ℕ). at < n) (sym going.many) (slice_get_within rules at rule here) in
        let found = some_place build.verdicts at within in
        by found.0 found.1
      where
        by : (o : Option Verdict) → slice_get build.verdicts at ≡ Some o → slice_get build.verdicts at ≡ Some (Some (verdict next rules rule build.tree).verdict)
        by None untaken = absurd (over at rule (record { here = here; untaken = untaken; producers = good }))
        by (Some outcome) has = has ∙ ap (λ (v : Verdict). Some (Some v)) (going.verdicts at rule outcome here has)
