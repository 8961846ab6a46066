-- A build that takes the next rule step by step comes to what it is defined to be.
use Rattle.std.proofs.Common.{◌≡◌, ℕ, zero, suc, ◌+◌, ◌-◌, ◌<◌, ◌≤◌, List, [], ◌∷◌, ◌++◌, length, None, Some, refl, sym, ap, ◌∙◌, arith, replicate, append_assoc}
use Rattle.std.proofs.lemmas.List.{append-nil}
use Rattle.std.specs.List.{slice_get, slice_set}
use Rattle.tup_path.specs.Tree.{Tree}
use Rattle.tup_rule.specs.declared.rule.Rule.{Rule}
use Rattle.tup_runner.specs.Next.{Next}
use Rattle.tup_access.specs.Judge.{Judged}
use Rattle.tup_access.specs.Verdict.{verdict}
use Rattle.tup_clean.specs.Clean.{Build, first_ready, given, with_files, builds_on, start, clean}
use Rattle.tup_clean.specs.Ran.{commands_of, commands}
use Rattle.tup_clean.specs.Taken.{Taken, takes_on, takes}

-- a build under way, which has taken some rules
pub record IsUnderWay (means : Next) (rules : List Rule) (begun now : Build) (count : ℕ) (taken : List Taken) : Type 0 where
  pub builds : builds_on (length rules) means rules begun ≡ builds_on (length rules - count) means rules now
  pub rest : takes_on (length rules) means rules begun ≡ taken ++ takes_on (length rules - count) means rules now

module _ (means : Next) (rules : List Rule) where
  -- ---- one step

  pub step-none : (steps : ℕ) (build : Build) → first_ready rules build.verdicts ≡ None → builds_on steps means rules build ≡ build
  step-none zero build none = refl
  step-none (suc steps) build none = rw (none, builds_on) refl

  pub step-some : (steps : ℕ) (build : Build) (at : ℕ) (rule : Rule) → first_ready rules build.verdicts ≡ Some at → slice_get rules at ≡ Some rule →
      builds_on (suc steps) means rules build ≡ builds_on steps means rules (given means rules build at rule)
  step-some steps build at rule ready here = rw (ready, here, builds_on) refl

  pub takes-none : (steps : ℕ) (build : Build) → first_ready rules build.verdicts ≡ None → takes_on steps means rules build ≡ []
  takes-none zero build none = refl
  takes-none (suc steps) build none = rw (none, takes_on) refl

  pub takes-some : (steps : ℕ) (build : Build) (at : ℕ) (rule : Rule) → first_ready rules build.verdicts ≡ Some at → slice_get rules at ≡ Some rule →
      takes_on (suc steps) means rules build ≡ (at, (verdict means rules rule build.tree).verdict) ∷ takes_on steps means rules (given means rules build at rule)
  takes-some steps build at rule ready here = rw (ready, here, takes_on) refl

  -- ---- how it goes on

  pub under_way_start : (begun : Build) → IsUnderWay means rules begun begun 0 []
  under_way_start begun =
      let all_left : length rules ≡ length rules - 0 = omega arith in
      record {
        builds = ap (λ steps. builds_on steps means rules begun) all_left;
        rest = ap (λ steps. takes_on steps means rules begun) all_left;
      }

  -- what is taken behind the next rule
  pub under_way_left : (begun now : Build) (count at : ℕ) (rule : Rule) (taken : List Taken) → IsUnderWay means rules begun now count taken → count < length rules →
      first_ready rules now.verdicts ≡ Some at → slice_get rules at ≡ Some rule →
      (taken ++ (at, (verdict means rules rule now.tree).verdict) ∷ []) ++ takes_on (length rules - (count + 1)) means rules (given means rules now at rule) ≡ takes_on (length rules) means rules begun
  under_way_left begun now count at rule taken way within ready here =
      let one_more : length rules - count ≡ suc (length rules - (count + 1)) = omega arith in
      append_assoc taken ((at, (verdict means rules rule now.tree).verdict) ∷ []) _
      ∙ ap (λ (l : List Taken). taken ++ l) (sym (takes-some (length rules - (count + 1)) now at rule ready here))
      ∙ ap (λ (steps : ℕ). taken ++ takes_on steps means rules now) (sym one_more)
      ∙ sym way.rest

  pub under_way_more : (begun now after : Build) (count at : ℕ) (rule : Rule) (judged : Judged) (taken : List Taken) → IsUnderWay means rules begun now count taken → count < length rules →
      first_ready rules now.verdicts ≡ Some at → slice_get rules at ≡ Some rule → judged ≡ verdict means rules rule now.tree →
      after.tree ≡ with_files now.tree judged.files → after.verdicts ≡ slice_set now.verdicts at (Some judged.verdict) → IsUnderWay means rules begun after (count + 1) (taken ++ (at, judged.verdict) ∷ [])
  under_way_more begun now after count at rule judged taken way within ready here is tree verdicts =
      let one_more : length rules - count ≡ suc (length rules - (count + 1)) = omega arith in
      record {
        builds =
            way.builds
            ∙ ap (λ steps. builds_on steps means rules now) one_more
            ∙ step-some (length rules - (count + 1)) now at rule ready here
            ∙ ap (builds_on (length rules - (count + 1)) means rules) (sym same);
        rest =
            sym (under_way_left begun now count at rule taken way within ready here)
            ∙ (λ i. (taken ++ (at, (sym is i).verdict) ∷ []) ++ takes_on (length rules - (count + 1)) means rules (sym same i));
      }
    where
      same : after ≡ given means rules now at rule
      same =
          let same_tree = tree ∙ ap (λ (j : Judged). with_files now.tree j.files) is in
          let same_verdicts = verdicts ∙ ap (λ (j : Judged). slice_set now.verdicts at (Some j.verdict)) is in
          λ i. record { tree = same_tree i; verdicts = same_verdicts i }

  -- nothing is ready any more
  pub under_way_none : (begun now : Build) (count : ℕ) (taken : List Taken) → IsUnderWay means rules begun now count taken → first_ready rules now.verdicts ≡ None →
      (now ≡ builds_on (length rules) means rules begun) × (taken ≡ takes_on (length rules) means rules begun)
  under_way_none begun now count taken way none = (
    sym (way.builds ∙ step-none (length rules - count) now none),
    sym (way.rest ∙ ap (λ (l : List Taken). taken ++ l) (takes-none (length rules - count) now none) ∙ append-nil taken),
  )

  -- there were as many steps as rules
  pub under_way_end : (begun now : Build) (count : ℕ) (taken : List Taken) → IsUnderWay means rules begun now count taken → length rules ≤ count →
      (now ≡ builds_on (length rules) means rules begun) × (taken ≡ takes_on (length rules) means rules begun)
  under_way_end begun now count taken way all =
      let none_left : length rules - count ≡ 0 = omega arith in (
        sym (way.builds ∙ ap (λ steps. builds_on steps means rules now) none_left),
        sym (way.rest ∙ ap (λ (steps : ℕ). taken ++ takes_on steps means rules now) none_left ∙ append-nil taken),
      )

  -- ---- from the start

  starts : (sources : Tree) (begun : Build) → begun.tree ≡ sources → begun.verdicts ≡ replicate (length rules) None → begun ≡ start rules sources
  starts sources begun tree verdicts = λ i. record { tree = tree i; verdicts = verdicts i }

  pub built_clean : (sources : Tree) (begun now : Build) → begun.tree ≡ sources → begun.verdicts ≡ replicate (length rules) None →
      now ≡ builds_on (length rules) means rules begun → now ≡ clean means rules sources
  unfolding clean
  built_clean sources begun now tree verdicts is = is ∙ ap (builds_on (length rules) means rules) (starts sources begun tree verdicts)

  pub took_clean : (sources : Tree) (begun : Build) → begun.tree ≡ sources → begun.verdicts ≡ replicate (length rules) None → takes_on (length rules) means rules begun ≡ takes means rules sources
  unfolding takes
  took_clean sources begun tree verdicts = ap (takes_on (length rules) means rules) (starts sources begun tree verdicts)

  -- so the commands of these are those of the clean build
  pub ran_clean : (sources : Tree) (begun : Build) → begun.tree ≡ sources → begun.verdicts ≡ replicate (length rules) None → commands_of rules (takes_on (length rules) means rules begun) ≡ commands means rules sources
  ran_clean sources begun tree verdicts = ap (commands_of rules) (took_clean sources begun tree verdicts)
