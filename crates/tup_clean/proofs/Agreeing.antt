-- A tree beside a build under way: what other files may stand in it, so that rules come to the same there. A tree that
-- agrees with the build but for outputs of rules that aren't Good yet does, and so it is the build's in the end.
use Rattle.std.proofs.Common.{◌≡◌, ℕ, zero, suc, ◌<◌, ◌&&◌, Bool, true, false, cond, List, length, Option, Some, replicate, refl, sym, ap, ◌∙◌, inl, inr, arith}
use Rattle.std.proofs.lemmas.Bool.{false≢true, and_parts, cases_eq}
use Rattle.std.proofs.lemmas.Option.{same_Some, slice_get_within}
use Rattle.std.specs.FinMap as finite
use Rattle.std.specs.Option.{is_none}
use Rattle.std.specs.List.{slice_get, zip}
use Rattle.tup_path.specs.Name.{Names}
use Rattle.tup_path.specs.Order.{by_names, by_names-total, by_names-antisymmetric}
use Rattle.tup_path.specs.Tree.{Tree}
use Rattle.tup_rule.specs.declared.rule.Rule.{Rule}
use Rattle.tup_rule.specs.Rule.{writes, declares, is_generated}
use Rattle.tup_rule.proofs.Laws.{maker-Some, is_generated-at}
use Rattle.tup_runner.specs.Next.{Next}
use Rattle.tup_access.specs.declared.verdict.Verdict.{Verdict}
use Rattle.tup_access.specs.declared.verdict.Verdict.TheVariants.{Good}
use Rattle.tup_access.specs.Access.{may_read}
use Rattle.tup_access.specs.Judge.{Judged}
use Rattle.tup_access.specs.Verdict.{verdict}
use Rattle.tup_access.proofs.Alike.{verdict-alike}
use Rattle.tup_clean.specs.AnyOrder.{MakeApart, AreProducersGood}
use Rattle.tup_clean.specs.Buildable.{IsBuildable}
use Rattle.tup_clean.specs.Clean.{Build, good_at, producers_good, first_ready, given, start, with_files}
use Rattle.tup_clean.proofs.Among.{is_generated-maker, IsOutputAt-writes}
use Rattle.tup_clean.proofs.Deciding.{counted_all}
use Rattle.tup_clean.proofs.Growing.{none_good, was_good}
use Rattle.tup_clean.proofs.Places.{position_found, zip_first}
use Rattle.tup_clean.proofs.Putting.{declared_since, get-put_good, get-put_apart}

-- each rule that makes a path is Good
abbrev pub IsMadeByGood : List Rule → List (Option Verdict) → Names → Type 0
IsMadeByGood rules verdicts path = (at : ℕ) (rule : Rule) → slice_get rules at ≡ Some rule → writes rule path ≡ true → good_at verdicts at ≡ true

-- a tree agrees with a build but for outputs of rules that aren't Good
pub record Agrees (rules : List Rule) (build : Build) (tree : Tree) : Type 0 where
  pub at_path : (path : Names) → IsMadeByGood rules build.verdicts path → finite.get tree path ≡ finite.get build.tree path

-- rules that can be built make apart
pub make_apart : (sources : Tree) (rules : List Rule) → IsBuildable sources rules → MakeApart rules
make_apart sources rules buildable at other rule another path here there own also =
    buildable.one_maker at other path (IsOutputAt-writes rules at rule path here own) (IsOutputAt-writes rules other another path there also)

-- at first it agrees where no rule makes anything
pub agrees_first : (rules : List Rule) (sources tree : Tree) →
    ((path : Names) → is_generated rules path ≡ false → finite.get tree path ≡ finite.get sources path) → Agrees rules (start rules sources) tree
agrees_first rules sources tree same = record { at_path = λ path made. by path made (is_generated rules path) refl }
  where
    by : (path : Names) → IsMadeByGood rules (start rules sources).verdicts path → (b : Bool) → is_generated rules path ≡ b → finite.get tree path ≡ finite.get sources path
    by path made false unmade = same path unmade
    by path made true generated =
        let maker_of = is_generated-maker rules path generated in
        let found = maker-Some rules path maker_of.0 maker_of.1 in
        absurd (false≢true (sym (none_good (length rules) maker_of.0) ∙ made maker_of.0 found.rule found.here found.writes_it))

-- the producers of the first rule that is ready are Good
pub ready_behind : (rules : List Rule) (verdicts : List (Option Verdict)) (at : ℕ) (rule : Rule) → first_ready rules verdicts ≡ Some at → slice_get rules at ≡ Some rule → AreProducersGood rules verdicts rule
ready_behind rules verdicts at rule ready here =
    let found = position_found (λ (p : Rule × Option Verdict). is_none p.1 && producers_good (length rules) rules verdicts p.0) (zip rules verdicts) at ready in
    let tests = and_parts (is_none found.0.1) (producers_good (length rules) rules verdicts found.0.0) found.2 in
    let same : found.0.0 ≡ rule = same_Some _ _ (sym (zip_first rules verdicts at found.0 found.1) ∙ here) in
    counted_all rules verdicts rule (ap (λ (r : Rule). producers_good (length rules) rules verdicts r) (sym same) ∙ tests.1)

module _ (next : Next) (rules : List Rule) (apart : MakeApart rules) (now : Build) (at : ℕ) (rule : Rule) (ready : first_ready rules now.verdicts ≡ Some at) (here : slice_get rules at ≡ Some rule) where
  -- what a rule that is ready may read and doesn't write, each rule that makes it is Good
  read_is_made : (path : Names) → may_read rules rule path ≡ true → writes rule path ≡ false → IsMadeByGood rules now.verdicts path
  read_is_made path readable foreign other another there own =
      let generated = is_generated-at rules path other another there own in
      let maker_of = is_generated-maker rules path generated in
      let found = maker-Some rules path maker_of.0 maker_of.1 in
      let same : maker_of.0 ≡ other = apart maker_of.0 other found.rule another path found.here there found.writes_it own in
      let declared : declares rule path ≡ true = declared_since _ _ _ readable generated foreign in
      ready_behind rules now.verdicts at rule ready here other (0, (path, declared, maker_of.1 ∙ ap Some same))

  -- so it comes to the same over a tree that agrees
  pub verdict_same : (tree : Tree) → Agrees rules now tree → verdict next rules rule tree ≡ verdict next rules rule now.tree
  verdict_same tree agrees =
      verdict-alike next rules rule tree now.tree (record { alike = λ path readable foreign. agrees.at_path path (read_is_made path readable foreign) })

  -- and where it is Good its files make the tree agree with the build after it
  pub agrees_more : (tree : Tree) → Agrees rules now tree → (verdict next rules rule tree).verdict ≡ Good → Agrees rules (given next rules now at rule) (with_files tree (verdict next rules rule tree).files)
  agrees_more tree agrees good = record { at_path = λ path made. by path made (writes rule path) refl }
    where
      same : verdict next rules rule tree ≡ verdict next rules rule now.tree
      same = verdict_same tree agrees

      good_now : (verdict next rules rule now.tree).verdict ≡ Good
      good_now = ap (λ (j : Judged). j.verdict) (sym same) ∙ good

      by : (path : Names) → IsMadeByGood rules (given next rules now at rule).verdicts path → (b : Bool) → writes rule path ≡ b →
          finite.get (with_files tree (verdict next rules rule tree).files) path ≡ finite.get (given next rules now at rule).tree path
      by path made true own =
          get-put_good next rules rule tree tree path good
          ∙ ap (λ (b : Bool). cond b (finite.find by_names path (verdict next rules rule tree).files) (finite.get tree path)) own
          ∙ ap (λ (j : Judged). finite.find by_names path j.files) same
          ∙ sym (get-put_good next rules rule now.tree now.tree path good_now
          ∙ ap (λ (b : Bool). cond b (finite.find by_names path (verdict next rules rule now.tree).files) (finite.get now.tree path)) own)
      by path made false foreign =
          get-put_apart next rules rule tree tree path foreign
          ∙ agrees.at_path path before
          ∙ sym (get-put_apart next rules rule now.tree now.tree path foreign)
        where
          before : IsMadeByGood rules now.verdicts path
          before other another there own = elim (cases_eq other at) [
            | inl itself ↦
                let equal : another ≡ rule = same_Some another rule (sym there ∙ ap (slice_get rules) itself ∙ here) in
                absurd (false≢true (sym foreign ∙ ap (λ (r : Rule). writes r path) (sym equal) ∙ own))
            | inr elsewhere ↦ was_good now.verdicts at (verdict next rules rule now.tree).verdict other elsewhere (made other another there own)
          ]

-- where all are Good it is the build's tree
pub agrees_whole : (rules : List Rule) (build : Build) (tree : Tree) → build.verdicts ≡ replicate (length rules) (Some Good) → Agrees rules build tree → tree ≡ build.tree
agrees_whole rules build tree all agrees =
    finite.same_map by_names-total by_names-antisymmetric tree build.tree
    (λ path. agrees.at_path path (λ at rule here own. ap (λ (v : List (Option Verdict)). good_at v at) all ∙ good_there (length rules) at (slice_get_within rules at rule here)))
  where
    good_there : (n at : ℕ) → at < n → good_at (replicate n (Some Good)) at ≡ true
    good_there zero at below = absurd (omega (arith, below))
    good_there (suc n) zero below = refl
    good_there (suc n) (suc at) below = good_there n at (omega (arith, below))
