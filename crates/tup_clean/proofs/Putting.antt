-- What stands where the files of a rule were put, and which generated paths a rule may read.
use Rattle.std.proofs.Common.{◌≡◌, Bool, true, false, cond, not, ◌&&◌, List, Some, None, refl, inl, inr}
use Rattle.std.specs.FinMap as finite
use Rattle.tup_path.specs.Name.{Names}
use Rattle.tup_path.specs.Order.{by_names}
use Rattle.tup_path.specs.Tree.{Tree}
use Rattle.tup_rule.specs.declared.rule.Rule.{Rule}
use Rattle.tup_rule.specs.Rule.{writes}
use Rattle.tup_runner.specs.Next.{Next}
use Rattle.tup_access.specs.declared.verdict.Verdict.TheVariants.{Good}
use Rattle.tup_access.specs.Verdict.{verdict}
use Rattle.tup_clean.specs.Clean.{with_files}
use Rattle.tup_clean.proofs.VerdictLaws.{cases_Good, verdict-leaves}
use Rattle.tup_clean.proofs.FilesPut.{get-with_files, find-each_with}

same_test : {A : Type 0} (b : Bool) (x y z : A) → cond b x y ≡ cond b (cond b x z) y
same_test true x y z = refl
same_test false x y z = refl

-- where the files of a Good rule are put, these stand there, and nothing else changes
pub get-put_good : (next : Next) (rules : List Rule) (rule : Rule) (read tree : Tree) (path : Names) → let judged = verdict next rules rule read in
    judged.verdict ≡ Good → finite.get (with_files tree judged.files) path ≡ cond (writes rule path) (finite.find by_names path judged.files) (finite.get tree path)
get-put_good next rules rule read tree path good =
    let left = (verdict-leaves next rules rule read).good good in
    rw (left.1, get-with_files left.0 rule.outputs tree path, find-each_with left.0 rule.outputs path) (same_test (writes rule path) (Some (left.0 path)) (finite.get tree path) None)

-- at any other path there is what was there, whatever the verdict
pub get-put_apart : (next : Next) (rules : List Rule) (rule : Rule) (read tree : Tree) (path : Names) → writes rule path ≡ false →
    finite.get (with_files tree (verdict next rules rule read).files) path ≡ finite.get tree path
get-put_apart next rules rule read tree path apart =
    elim (cases_Good (verdict next rules rule read).verdict) [
      | inl good ↦ rw (get-put_good next rules rule read tree path good, apart) refl
      | inr not_good ↦ rw ((verdict-leaves next rules rule read).other not_good) refl
    ]

-- a generated path that a rule may read and doesn't write is declared
pub declared_since : (generated declared own : Bool) → not (generated && not declared && not own) ≡ true → generated ≡ true → own ≡ false → declared ≡ true
declared_since generated true own may made foreign = refl
declared_since true false true may made foreign = cc
declared_since true false false may made foreign = cc
declared_since false false own may made foreign = cc
