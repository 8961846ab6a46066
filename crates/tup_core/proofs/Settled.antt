-- A Good rule is settled where the files have the stamps of what it leaves.
use Rattle.std.proofs.Common.{◌≡◌, ℕ, Bool, true, false, cond, List, [], ◌∷◌, map, Option, None, Some, refl, sym, ap, ◌∙◌, subst, inl, inr}
use Rattle.std.specs.Prelude.{if◌then◌else◌, slice_get, All, Contains}
use Rattle.std.specs.FinMap as finite
use Rattle.std.specs.Option.{option_map}
use Rattle.std.proofs.lemmas.Bool.{false≢true, cases_Bool, or_cases}
use Rattle.std.proofs.lemmas.Option.{same_Some}
use Rattle.std.proofs.lemmas.List.Elements.{All-head, All-tail}
use Rattle.tup_path.specs.Name.{Names, Content}
use Rattle.tup_path.specs.Order.{by_names, same_path}
use Rattle.tup_path.specs.Tree.{Tree}
use Rattle.tup_stamp.specs.declared.Stamp.{Stamp}
use Rattle.tup_stamp.specs.Stamp.{stamp}
use Rattle.tup_rule.specs.declared.rule.Rule.{Rule}
use Rattle.tup_rule.specs.Rule.{among, writes}
use Rattle.tup_runner.specs.Next.{Next}
use Rattle.tup_access.specs.declared.verdict.Verdict.{Verdict}
use Rattle.tup_access.specs.declared.verdict.Verdict.TheVariants.{Good}
use Rattle.tup_access.specs.Verdict.{verdict}
use Rattle.tup_clean.specs.Clean.{Build, good_at}
use Rattle.tup_clean.specs.AnyOrder.{AreProducersGood, IsWhole}
use Rattle.tup_clean.proofs.Among.{same_path-equal}
use Rattle.tup_clean.proofs.FilesPut.{each_with, find-each_with}
use Rattle.tup_clean.proofs.VerdictLaws.{verdict-leaves}
use Rattle.tup_clean.proofs.Whole.{is_good_at}
use Rattle.tup_core.specs.Step.{with_stamps}
use Rattle.tup_core.specs.Honest.{stamped}
use Rattle.tup_core.specs.Settled.{IsSettled}

-- a path has the same in the files, by its stamp, and in a tree, and what it has is known
pub record IsSameAt (known : List Content) (files : Names → Option Stamp) (tree : Tree) (path : Names) : Type 0 where
  pub same : files path ≡ option_map stamp (finite.get tree path)
  pub contents : (content : Content) → finite.get tree path ≡ Some content → Contains known content

-- at the outputs of a settled rule it has
pub settled_same : (known : List Content) (build : Build) (files : Names → Option Stamp) (at : ℕ) (rule : Rule) (path : Names) → IsSettled known build files at rule → writes rule path ≡ true → IsSameAt known files build.tree path
settled_same known build files at rule path settled own =
    let made = settled.made path own in
    record {
      same = made.3 ∙ ap (option_map stamp) (sym made.1);
      contents = λ content there. subst (λ (c : Content). Contains known c) (same_Some _ _ (sym made.1 ∙ there)) made.2;
    }

-- ---- files with a value for each path

-- what holds of all of them holds of the one at a path
pub each_at : {A : Type 0} (P : Names × A → Type 0) (value : Names → A) (paths : List Names) → All P (map (λ path. (path, value path)) paths) → (path : Names) → among path paths ≡ true → P (path, value path)
each_at P value [] all path found = absurd (false≢true found)
each_at P value (first ∷ paths) all path found =
    elim (or_cases (same_path path first) (among path paths) found) [
      | inl same ↦ subst (λ (p : Names). P (p, value p)) (sym (same_path-equal path first same)) (All-head P (first, value first) (map (λ p. (p, value p)) paths) all)
      | inr rest ↦ each_at P value paths (All-tail P (first, value first) (map (λ p. (p, value p)) paths) all) path rest
    ]

pub stamped_each : (content : Names → Content) (paths : List Names) → map stamped (each_with content paths) ≡ map (λ path. (path, stamp (content path))) paths
stamped_each content [] = refl
stamped_each content (path ∷ paths) = ap (λ (more : List (Names × Stamp)). (path, stamp (content path)) ∷ more) (stamped_each content paths)

either_way : {A : Type 0} (b : Bool) (x : A) → cond b x x ≡ x
either_way true x = refl
either_way false x = refl

-- their stamps, put in one after another
pub stamps_each : (content : Names → Content) (paths : List Names) (files : Names → Option Stamp) (path : Names) →
    with_stamps files (map stamped (each_with content paths)) path ≡ cond (among path paths) (Some (stamp (content path))) (files path)
stamps_each content [] files path = refl
stamps_each content (first ∷ paths) files path =
    let rest = stamps_each content paths (λ other. if same_path other first then Some (stamp (content first)) else files other) path in
    elim (cases_Bool (same_path path first)) [
      | inl same ↦ rest ∙ rw (same, ap content (sym (same_path-equal path first same))) (either_way (among path paths) (Some (stamp (content path))))
      | inr apart ↦ rest ∙ rw apart refl
    ]

-- ---- a Good rule is settled where the files have the stamps of what it leaves

pub settled_from : (next : Next) (known : List Content) (rules : List Rule) (sources : Tree) (build : Build) (files : Names → Option Stamp) (at : ℕ) (rule : Rule) → IsWhole next rules sources build →
    slice_get rules at ≡ Some rule → AreProducersGood rules build.verdicts rule → (verdict next rules rule build.tree).verdict ≡ Good →
    All (λ (file : Names × Content). Contains known file.1) (verdict next rules rule build.tree).files →
    ((content : Names → Content) → (verdict next rules rule build.tree).files ≡ each_with content rule.outputs → (path : Names) → writes rule path ≡ true → files path ≡ Some (stamp (content path))) →
    IsSettled known build files at rule
settled_from next known rules sources build files at rule whole here producers is_good contents stamps = record { good = good; made = made }
  where
    good : good_at build.verdicts at ≡ true
    good = is_good_at build.verdicts at (whole.taken at rule here producers ∙ ap (λ (v : Verdict). Some (Some v)) is_good)

    made : (path : Names) → writes rule path ≡ true → (content : Content) × (finite.get build.tree path ≡ Some content) × Contains known content × (files path ≡ Some (stamp content))
    made path own =
        let are = (verdict-leaves next rules rule build.tree).good is_good in (
          are.0 path,
          whole.made at rule path here good own
              ∙ ap (λ (fs : List (Names × Content)). finite.find by_names path fs) are.1
              ∙ find-each_with are.0 rule.outputs path
              ∙ ap (λ b. cond b (Some (are.0 path)) None) own,
          each_at (λ (file : Names × Content). Contains known file.1) are.0 rule.outputs (subst (λ (fs : List (Names × Content)). All (λ (file : Names × Content). Contains known file.1) fs) are.1 contents) path own,
          stamps are.0 are.1 path own,
        )
