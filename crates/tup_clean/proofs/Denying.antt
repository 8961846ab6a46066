-- A command that was run over the files of a build has the verdict of its rule.
use Rattle.std.proofs.Common.{◌≡◌, ℕ, List, [], length, Option, Some, sym, ap, ◌∙◌, subst, arith}
use Rattle.std.proofs.lemmas.Option.{same_Some}
use Rattle.tup_path.specs.Name.{Names, Content}
use Rattle.tup_path.specs.Tree.{Tree}
use Rattle.tup_rule.specs.declared.rule.Rule.{Rule}
use Rattle.tup_runner.specs.Next.{Next, Asks}
use Rattle.tup_runner.specs.Honest.{AsksAfter, EndsAfter}
use Rattle.tup_runner.specs.Refusal.{Refusal}
use Rattle.tup_runner.specs.declared.fault.ViewFailed.{ViewFailed}
use Rattle.tup_runner.specs.declared.step.Ended.{Ended}
use Rattle.tup_access.specs.Access.{access}
use Rattle.tup_access.specs.Answered.{HasSeen}
use Rattle.tup_access.specs.Judge.{Judged, IsJudged, judge}
use Rattle.tup_access.specs.Verdict.{verdict}
use Rattle.tup_access.specs.declared.verdict.Verdict.{Verdict}
use Rattle.tup_access.specs.declared.verdict.Access.TheVariants.{No}
use Rattle.tup_access.proofs.Asked.{verdict_ends, verdict_denied}
use Rattle.tup_clean.specs.Denial.{denial}

-- what was denied last is what the view keeps
pub denied_text : (kept : Option (List ℕ × Verdict)) (denied : List ℕ × Verdict) (last : List ℕ) (why : ViewFailed) → kept ≡ Some denied → denial kept ≡ Some (record { text = last; why = why }) → denied.0 ≡ last
denied_text kept denied last why is refused = ap (λ (r : Refusal). r.text) (same_Some _ _ (sym (ap denial is) ∙ refused))

module _ (next : Next) (rules : List Rule) (rule : Rule) (tree : Tree) (asks : Asks) (after : ℕ) (seen : HasSeen rules rule tree 0 asks after) where
  -- one that ended is judged
  pub judged_ends : (dir : Names) (text : List ℕ) (ended given : Ended) (verdict_of : Verdict) (files : List (Names × Content)) → dir ≡ rule.dir → text ≡ rule.text → EndsAfter (next dir text) asks ended →
      given ≡ ended → IsJudged verdict_of files (judge rule given) → IsJudged verdict_of files (verdict next rules rule tree)
  judged_ends dir text ended given verdict_of files same_dir same_text ends same judged =
      let here = subst (λ (d : Names). EndsAfter (next d rule.text) asks ended) same_dir (subst (λ (t : List ℕ). EndsAfter (next dir t) asks ended) same_text ends) in
      let is = ap (judge rule) same ∙ sym (verdict_ends rules rule tree next asks ended here seen.answered) in
      (judged.0 ∙ ap (λ (j : Judged). j.verdict) is, judged.1 ∙ ap (λ (j : Judged). j.files) is)

  -- and one that was denied a text has the verdict by which it was
  pub judged_denied : (text last : List ℕ) (refusal : Verdict) (files : List (Names × Content)) → AsksAfter (next rule.dir rule.text) asks last → text ≡ last →
      access rules rule after text ≡ No refusal → files ≡ [] → IsJudged refusal files (verdict next rules rule tree)
  judged_denied text last refusal files asked same denied none =
      let count : after ≡ length asks = omega (arith, seen.count) in
      let refused = subst (λ (n : ℕ). access rules rule n last ≡ No refusal) count (subst (λ (t : List ℕ). access rules rule after t ≡ No refusal) same denied) in
      let is = sym (verdict_denied rules rule tree next asks last refusal asked seen.answered refused) in
      (ap (λ (j : Judged). j.verdict) is, none ∙ ap (λ (j : Judged). j.files) is)
