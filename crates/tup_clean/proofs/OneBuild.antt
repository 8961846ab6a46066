-- In whatever order the ready rules are taken, the clean build is left.
use Rattle.std.proofs.Common.{◌≡◌, ℕ, zero, suc, ◌<◌, ◌≤◌, Bool, true, false, ◌&&◌, List, [], ◌∷◌, length, Option, None, Some, replicate, refl, sym, ap, ◌∙◌, subst, inl, inr, arith}
use Rattle.std.proofs.lemmas.Bool.{false≢true, cases_Bool, cases_eq}
use Rattle.std.proofs.lemmas.Option.{same_Some, none-some, slice_get_within}
use Rattle.std.specs.Option.{is_none}
use Rattle.std.specs.List.{slice_get, slice_set, zip}
use Rattle.std.specs.FinMap as finite
use Rattle.tup_path.specs.Name.{Names}
use Rattle.tup_path.specs.Order.{by_names, by_names-total, by_names-antisymmetric}
use Rattle.tup_path.specs.Tree.{Tree}
use Rattle.tup_rule.specs.declared.rule.Rule.{Rule}
use Rattle.tup_rule.specs.Rule.{writes, is_generated, maker}
use Rattle.tup_rule.proofs.Laws.{maker-Some, writes-at}
use Rattle.tup_runner.specs.Next.{Next}
use Rattle.tup_access.specs.declared.verdict.Verdict.{Verdict}
use Rattle.tup_access.specs.declared.verdict.Verdict.TheVariants.{Good}
use Rattle.tup_access.specs.Access.{may_read}
use Rattle.tup_access.specs.Judge.{Judged}
use Rattle.tup_access.specs.Verdict.{verdict}
use Rattle.tup_access.proofs.Alike.{verdict-alike}
use Rattle.tup_clean.specs.Clean.{Build, good_at, producers_good, first_ready, given, builds_on, start, clean}
use Rattle.tup_clean.specs.AnyOrder.{MakeApart, AreProducersGood, MayBeTaken, IsBuiltBy, IsOver, IsWhole}
use Rattle.tup_clean.proofs.Places.{some_place, position_found, zip_first}
use Rattle.tup_clean.proofs.Among.{is_generated-maker}
use Rattle.tup_clean.proofs.Growing.{none_good, stays_good, was_good}
use Rattle.tup_clean.proofs.Putting.{declared_since}
use Rattle.tup_clean.proofs.MayTake.{IsClosed, first_may, may_first}
use Rattle.tup_clean.proofs.Whole.{IsGoing, good_is, is_good_at, verdict_set, none_at_start, going_start, going_more, going_on, whole_over, same_after}

-- ---- the clean build takes rules until none is left that may be taken

-- how many rules have no verdict
abbrev pub missing : List (Option Verdict) → ℕ
missing [] = 0
missing (None ∷ verdicts) = suc (missing verdicts)
missing (Some outcome ∷ verdicts) = missing verdicts

pub missing_all : (n : ℕ) → missing (replicate n None) ≡ n
missing_all zero = refl
missing_all (suc n) = ap suc (missing_all n)

pub missing_less : (verdicts : List (Option Verdict)) (at : ℕ) (outcome : Verdict) → slice_get verdicts at ≡ Some None → suc (missing (slice_set verdicts at (Some outcome))) ≡ missing verdicts
missing_less [] at outcome untaken = absurd (none-some None untaken)
missing_less (None ∷ verdicts) zero outcome untaken = refl
missing_less (Some other ∷ verdicts) zero outcome untaken = absurd (none-some other (sym (same_Some _ _ untaken)))
missing_less (None ∷ verdicts) (suc at) outcome untaken = ap suc (missing_less verdicts at outcome untaken)
missing_less (Some other ∷ verdicts) (suc at) outcome untaken = missing_less verdicts at outcome untaken

pub none_missing : (verdicts : List (Option Verdict)) (at : ℕ) → missing verdicts ≤ 0 → slice_get verdicts at ≡ Some None → ⊥
none_missing [] at none untaken = none-some None untaken
none_missing (None ∷ verdicts) at none untaken = absurd (omega arith)
none_missing (Some other ∷ verdicts) zero none untaken = none-some other (sym (same_Some _ _ untaken))
none_missing (Some other ∷ verdicts) (suc at) none untaken = none_missing verdicts at none untaken

closed_start : (rules : List Rule) (n : ℕ) → IsClosed rules (replicate n None)
closed_start rules n = record { behind = λ at rule here good. absurd (false≢true (sym (none_good n at) ∙ good)) }

closed_more : (next : Next) (rules : List Rule) (build : Build) (at : ℕ) (rule : Rule) → IsClosed rules build.verdicts → MayBeTaken rules build at rule →
    IsClosed rules (given next rules build at rule).verdicts
closed_more next rules build at rule closed may = record {
  behind = λ place reader here good other behind.
      stays_good build.verdicts at (verdict next rules rule build.tree).verdict may.untaken other
      (elim (cases_eq place at) [
        | inl same ↦
            let equal : rule ≡ reader = same_Some rule reader (sym may.here ∙ ap (slice_get rules) (sym same) ∙ here) in
            subst (λ (r : Rule). AreProducersGood rules build.verdicts r) equal may.producers other behind
        | inr apart ↦ closed.behind place reader here (was_good build.verdicts at (verdict next rules rule build.tree).verdict place apart good) other behind
      ]);
}

-- a build that was taken on from another to its end
pub record IsTakenOn (next : Next) (rules : List Rule) (build end : Build) : Type 0 where
  pub order : List ℕ
  pub built : IsBuiltBy next rules build order end
  pub over : IsOver rules end

-- the rest of a build, after one rule more
taken_more : (steps : ℕ) (next : Next) (rules : List Rule) (build : Build) → IsClosed rules build.verdicts → missing build.verdicts ≤ suc steps →
    ((other : Build) → IsClosed rules other.verdicts → missing other.verdicts ≤ steps → IsTakenOn next rules other (builds_on steps next rules other)) →
    (at : ℕ) (rule : Rule) → first_ready rules build.verdicts ≡ Some at → slice_get rules at ≡ Some rule → IsTakenOn next rules build (builds_on steps next rules (given next rules build at rule))
taken_more steps next rules build closed few on at rule ready here =
    let may = first_may rules build at rule closed ready here in
    let less = missing_less build.verdicts at (verdict next rules rule build.tree).verdict may.untaken in
    let rest = on (given next rules build at rule) (closed_more next rules build at rule closed may) (fewer (missing (given next rules build at rule).verdicts) (missing build.verdicts) less few) in
    record { order = at ∷ rest.order; built = (rule, may, rest.built); over = rest.over }
  where
    fewer : (n m : ℕ) → suc n ≡ m → m ≤ suc steps → n ≤ steps
    fewer n m is few_so = omega arith

taken_on : (steps : ℕ) (next : Next) (rules : List Rule) (build : Build) → IsClosed rules build.verdicts → missing build.verdicts ≤ steps → IsTakenOn next rules build (builds_on steps next rules build)
taken_on zero next rules build closed few = record {
  order = [];
  built = refl;
  over = λ at rule may. none_missing build.verdicts at few may.untaken;
}
taken_on (suc steps) next rules build closed few =
    by (taken_more steps next rules build closed few (λ other closed_so few_so. taken_on steps next rules other closed_so few_so)) (first_ready rules build.verdicts) refl
  where
    by : ((at : ℕ) (rule : Rule) → first_ready rules build.verdicts ≡ Some at → slice_get rules at ≡ Some rule → IsTakenOn next rules build (builds_on steps next rules (given next rules build at rule))) →
        (first : Option ℕ) → first_ready rules build.verdicts ≡ first →
        IsTakenOn next rules build (elim first as (λ _. Build) [
          | None ↦ build
          | Some at ↦ elim (slice_get rules at) as (λ _. Build) [ Some rule ↦ builds_on steps next rules (given next rules build at rule) | None ↦ build ]
        ])
    by more None none = record { order = []; built = refl; over = λ at rule may. may_first rules build at rule may none }
    by more (Some at) ready = elim (slice_get rules at) as (λ o. slice_get rules at ≡ o → IsTakenOn next rules build (elim o as (λ _. Build) [ Some rule ↦ builds_on steps next rules (given next rules build at rule) | None ↦ build ])) [
      | Some rule ↦ λ here. more at rule ready here
      | None ↦ λ none.
          let test : Rule × Option Verdict → Bool = λ p. is_none p.1 && producers_good (length rules) rules build.verdicts p.0 in
          let found = position_found test (zip rules build.verdicts) at ready in
          absurd (none-some found.0.0 (sym none ∙ zip_first rules build.verdicts at found.0 found.1))
    ] refl

pub clean_taken : (next : Next) (rules : List Rule) (sources : Tree) → IsTakenOn next rules (start rules sources) (clean next rules sources)
unfolding clean
clean_taken next rules sources =
    taken_on (length rules) next rules (start rules sources) (closed_start rules (length rules)) (all (length rules) (missing (replicate (length rules) None)) (missing_all (length rules)))
  where
    all : (n m : ℕ) → m ≡ n → m ≤ n
    all n m is = omega arith

pub clean_whole : (next : Next) (rules : List Rule) (sources : Tree) → MakeApart rules → IsWhole next rules sources (clean next rules sources)
clean_whole next rules sources apart =
    let on = clean_taken next rules sources in
    whole_over next rules sources (clean next rules sources) (going_on next rules sources on.order (start rules sources) (clean next rules sources) apart (going_start next rules sources) on.built) on.over

-- ---- two builds

-- what has a verdict in one build has it in the other
pub record IsWithin (next : Next) (rules : List Rule) (one other : Build) : Type 0 where
  pub verdicts : (at : ℕ) (rule : Rule) (outcome : Verdict) → slice_get rules at ≡ Some rule → slice_get one.verdicts at ≡ Some (Some outcome) → slice_get other.verdicts at ≡ Some (Some outcome)
  pub judged : (at : ℕ) (rule : Rule) (outcome : Verdict) → slice_get rules at ≡ Some rule → slice_get one.verdicts at ≡ Some (Some outcome) → verdict next rules rule one.tree ≡ verdict next rules rule other.tree

module _ (next : Next) (rules : List Rule) (sources : Tree) (one other : Build) (apart : MakeApart rules) (going : IsGoing next rules sources one) (whole : IsWhole next rules sources other) (inside : IsWithin next rules one other) where
  -- a rule whose producers are Good in the first reads the same in both
  same_read : (rule : Rule) (path : Names) → AreProducersGood rules one.verdicts rule → may_read rules rule path ≡ true → writes rule path ≡ false → finite.get one.tree path ≡ finite.get other.tree path
  same_read rule path good readable foreign =
      elim (cases_Bool (is_generated rules path)) [
        | inr plain ↦
            going.elsewhere path (λ at maker_rule here own. absurd (false≢true (sym (writes-at rules path at maker_rule plain here) ∙ own)))
            ∙ sym (whole.elsewhere path (λ at maker_rule here own. absurd (false≢true (sym (writes-at rules path at maker_rule plain here) ∙ own))))
        | inl generated ↦
            let maker_of = is_generated-maker rules path generated in
            let found = maker-Some rules path maker_of.0 maker_of.1 in
            let good_one : good_at one.verdicts maker_of.0 ≡ true = good maker_of.0 (zero, (path, declared_since _ _ _ readable generated foreign, maker_of.1)) in
            let has = good_is one.verdicts maker_of.0 good_one in
            going.made maker_of.0 found.rule path found.here good_one found.writes_it
            ∙ ap (λ (j : Judged). finite.find by_names path j.files) (inside.judged maker_of.0 found.rule Good found.here has)
            ∙ sym (whole.made maker_of.0 found.rule path found.here (is_good_at other.verdicts maker_of.0 (inside.verdicts maker_of.0 found.rule Good found.here has)) found.writes_it)
      ]

  same_judged : (rule : Rule) → AreProducersGood rules one.verdicts rule → verdict next rules rule one.tree ≡ verdict next rules rule other.tree
  same_judged rule good = verdict-alike next rules rule one.tree other.tree (record { alike = λ path readable foreign. same_read rule path good readable foreign })

  module _ (at : ℕ) (rule : Rule) (may : MayBeTaken rules one at rule) where
    -- what is Good in the first is Good in the other
    good_too : AreProducersGood rules one.verdicts rule → AreProducersGood rules other.verdicts rule
    good_too good place behind =
        let has = good_is one.verdicts place (good place behind) in
        let maker_rule = some_place rules place (subst (λ (n : ℕ). place < n) going.many (slice_get_within one.verdicts place (Some Good) has)) in
        is_good_at other.verdicts place (inside.verdicts place maker_rule.0 Good maker_rule.1 has)

    taken_there : slice_get other.verdicts at ≡ Some (Some (verdict next rules rule one.tree).verdict)
    taken_there =
        whole.taken at rule may.here (good_too may.producers)
        ∙ ap (λ (j : Judged). Some (Some j.verdict)) (sym (same_judged rule may.producers))

    was : (place : ℕ) (reader : Rule) (outcome : Verdict) → slice_get rules place ≡ Some reader → slice_get (given next rules one at rule).verdicts place ≡ Some (Some outcome) →
        AreProducersGood rules one.verdicts reader × (slice_get other.verdicts place ≡ Some (Some outcome))
    was place reader outcome here has =
        elim (verdict_set one.verdicts at place (verdict next rules rule one.tree).verdict outcome (subst (λ (n : ℕ). at < n) (sym going.many) (slice_get_within rules at rule may.here)) has) [
          | inl itself ↦
              let same : rule ≡ reader = same_Some rule reader (sym may.here ∙ ap (slice_get rules) (sym itself.0) ∙ here) in
              (subst (λ (r : Rule). AreProducersGood rules one.verdicts r) same may.producers, ap (slice_get other.verdicts) itself.0 ∙ taken_there ∙ ap (λ (v : Verdict). Some (Some v)) (sym itself.1))
          | inr earlier ↦ (going.ready place reader outcome here earlier.1, inside.verdicts place reader outcome here earlier.1)
        ]

    pub within_more : IsWithin next rules (given next rules one at rule) other
    within_more = record {
      verdicts = λ place reader outcome here has. (was place reader outcome here has).1;
      judged = λ place reader outcome here has.
          let good = (was place reader outcome here has).0 in
          same_after next rules sources one at rule apart may reader good ∙ same_judged reader good;
    }

within_on : (next : Next) (rules : List Rule) (sources : Tree) (order : List ℕ) (one end other : Build) → MakeApart rules → IsGoing next rules sources one → IsWhole next rules sources other →
    IsWithin next rules one other → IsBuiltBy next rules one order end → IsWithin next rules end other
within_on next rules sources [] one end other apart going whole inside is = subst (λ (b : Build). IsWithin next rules b other) (sym is) inside
within_on next rules sources (at ∷ order) one end other apart going whole inside (rule, may, rest) =
    within_on next rules sources order (given next rules one at rule) end other apart
    (going_more next rules sources one at rule apart may going) whole (within_more next rules sources one other apart going whole inside at rule may) rest

within_start : (next : Next) (rules : List Rule) (sources : Tree) (other : Build) → IsWithin next rules (start rules sources) other
within_start next rules sources other = record {
  verdicts = λ at rule outcome here has. absurd (none_at_start rules sources at outcome has);
  judged = λ at rule outcome here has. absurd (none_at_start rules sources at outcome has);
}

-- ---- two whole builds, of which each is within the other

same_places : {A : Type 0} (xs ys : List A) → ((i : ℕ) → slice_get xs i ≡ slice_get ys i) → xs ≡ ys
same_places [] [] same = refl
same_places [] (y ∷ ys) same = absurd (none-some y (same zero))
same_places (x ∷ xs) [] same = absurd (none-some x (sym (same zero)))
same_places (x ∷ xs) (y ∷ ys) same = λ i. same_Some x y (same zero) i ∷ same_places xs ys (λ n. same (suc n)) i

module _ (next : Next) (rules : List Rule) (sources : Tree) (one other : Build) (apart : MakeApart rules) (first : IsWhole next rules sources one) (second : IsWhole next rules sources other)
    (forth : IsWithin next rules one other) (back : IsWithin next rules other one) where
  same_at : (at : ℕ) (a b : Option (Option Verdict)) → slice_get one.verdicts at ≡ a → slice_get other.verdicts at ≡ b → a ≡ b
  same_at at None None is_a is_b = refl
  same_at at None (Some b) is_a is_b =
      let there = some_place one.verdicts at (subst (λ (n : ℕ). at < n) (second.many ∙ sym first.many) (slice_get_within other.verdicts at b is_b)) in
      absurd (none-some there.0 (sym is_a ∙ there.1))
  same_at at (Some a) None is_a is_b =
      let there = some_place other.verdicts at (subst (λ (n : ℕ). at < n) (first.many ∙ sym second.many) (slice_get_within one.verdicts at a is_a)) in
      absurd (none-some there.0 (sym is_b ∙ there.1))
  same_at at (Some None) (Some None) is_a is_b = refl
  same_at at (Some None) (Some (Some outcome)) is_a is_b =
      let rule = some_place rules at (subst (λ (n : ℕ). at < n) second.many (slice_get_within other.verdicts at (Some outcome) is_b)) in
      absurd (none-some outcome (same_Some _ _ (sym is_a ∙ back.verdicts at rule.0 outcome rule.1 is_b)))
  same_at at (Some (Some outcome)) (Some b) is_a is_b =
      let rule = some_place rules at (subst (λ (n : ℕ). at < n) first.many (slice_get_within one.verdicts at (Some outcome) is_a)) in
      sym (forth.verdicts at rule.0 outcome rule.1 is_a) ∙ is_b

  same_verdicts : one.verdicts ≡ other.verdicts
  same_verdicts = same_places one.verdicts other.verdicts (λ at. same_at at (slice_get one.verdicts at) (slice_get other.verdicts at) refl refl)

  same_good : (at : ℕ) → good_at one.verdicts at ≡ good_at other.verdicts at
  same_good at = ap (λ (verdicts : List (Option Verdict)). good_at verdicts at) same_verdicts

  same_file : (path : Names) → finite.get one.tree path ≡ finite.get other.tree path
  same_file path =
      elim (cases_Bool (is_generated rules path)) [
        | inr plain ↦
            first.elsewhere path (λ at rule here own. absurd (false≢true (sym (writes-at rules path at rule plain here) ∙ own)))
            ∙ sym (second.elsewhere path (λ at rule here own. absurd (false≢true (sym (writes-at rules path at rule plain here) ∙ own))))
        | inl generated ↦ by_maker (is_generated-maker rules path generated)
      ]
    where
      by_maker : (made : (at : ℕ) × (maker path rules ≡ Some at)) → finite.get one.tree path ≡ finite.get other.tree path
      by_maker made =
          let found = maker-Some rules path made.0 made.1 in
          elim (cases_Bool (good_at one.verdicts made.0)) [
            | inl good ↦
                first.made made.0 found.rule path found.here good found.writes_it
                ∙ ap (λ (j : Judged). finite.find by_names path j.files) (forth.judged made.0 found.rule Good found.here (good_is one.verdicts made.0 good))
                ∙ sym (second.made made.0 found.rule path found.here (sym (same_good made.0) ∙ good) found.writes_it)
            | inr bad ↦
                let only : (at : ℕ) (rule : Rule) → slice_get rules at ≡ Some rule → writes rule path ≡ true → good_at one.verdicts at ≡ false
                = λ at rule here own. ap (good_at one.verdicts) (apart at made.0 rule found.rule path here found.here own found.writes_it) ∙ bad in
                first.elsewhere path only ∙ sym (second.elsewhere path (λ at rule here own. sym (same_good at) ∙ only at rule here own))
          ]

  pub same_build : one ≡ other
  same_build =
      let trees : one.tree ≡ other.tree = finite.same_map by_names-total by_names-antisymmetric one.tree other.tree same_file in
      λ i. record { tree = trees i; verdicts = same_verdicts i }

pub any_order : (next : Next) (rules : List Rule) (sources : Tree) (order : List ℕ) (end : Build) → MakeApart rules → IsBuiltBy next rules (start rules sources) order end → IsOver rules end →
    end ≡ clean next rules sources
any_order next rules sources order end apart built over =
    let on = clean_taken next rules sources in
    let begun = going_start next rules sources in
    let whole = whole_over next rules sources end (going_on next rules sources order (start rules sources) end apart begun built) over in
    let clean_one = clean_whole next rules sources apart in
    same_build next rules sources end (clean next rules sources) apart whole clean_one
    (within_on next rules sources order (start rules sources) end (clean next rules sources) apart begun clean_one (within_start next rules sources (clean next rules sources)) built)
    (within_on next rules sources on.order (start rules sources) (clean next rules sources) end apart begun whole (within_start next rules sources end) on.built)
