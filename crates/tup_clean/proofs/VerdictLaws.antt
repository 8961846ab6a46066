-- Which files a verdict leaves: those of a Good one are a content for each output, and others leave nothing.
use Rattle.std.proofs.Common.{◌≡◌, ◌≢◌, ◌⊎◌, ◌==◌, zero, suc, ℕ, Bool, true, false, not, cond, List, [], map, length, Option, None, Some, refl, inl, inr}
use Rattle.std.specs.Option.{unwrap_or}
use Rattle.tup_path.specs.Name.{Names, Content}
use Rattle.tup_path.specs.Tree.{Tree}
use Rattle.tup_rule.specs.declared.rule.Rule.{Rule}
use Rattle.tup_runner.specs.Next.{Next, Asks}
use Rattle.tup_runner.specs.declared.step.Ended.{Ended}
use Rattle.tup_runner.specs.declared.step.Step.TheVariants.{Ask, End}
use Rattle.tup_access.specs.declared.verdict.Verdict.{Verdict}
use Rattle.tup_access.specs.declared.verdict.Verdict.TheVariants.{Good, Failed, IllegalRead, IllegalWrite, Unwritten, TooManyReads}
use Rattle.tup_access.specs.declared.verdict.Access.TheVariants.{Yes, No}
use Rattle.tup_access.specs.Access.{access}
use Rattle.tup_access.proofs.Permitted.{access-No}
use Rattle.tup_access.specs.Judge.{Judged, bad, judge, files_of, foreign_write, unwritten, last_written}
use Rattle.tup_access.proofs.Steps.{follow-End, follow-No, follow-Yes}
use Rattle.tup_access.specs.Verdict.{follow, verdict}

pub cases_Good : (given : Verdict) → (given ≡ Good) ⊎ (given ≢ Good)
cases_Good Good = inl refl
cases_Good (Failed status) = inr (λ e. cc e)
cases_Good (IllegalRead text) = inr (λ e. cc e)
cases_Good (IllegalWrite text) = inr (λ e. cc e)
cases_Good (Unwritten path) = inr (λ e. cc e)
cases_Good TooManyReads = inr (λ e. cc e)

-- an output that a rule names twice has one content
pub record LeavesContents (rule : Rule) (judged : Judged) : Type 0 where
  pub good : judged.verdict ≡ Good → (content : Names → Content) × (judged.files ≡ map (λ path. (path, content path)) rule.outputs)
  pub other : judged.verdict ≢ Good → judged.files ≡ []

bad-leaves : (rule : Rule) (given : Verdict) → given ≢ Good → LeavesContents rule (bad given)
bad-leaves rule given not_good = record { good = λ good. absurd (not_good good); other = λ _. refl }

judge-leaves : (rule : Rule) (ended : Ended) → LeavesContents rule (judge rule ended)
judge-leaves rule ended = by_status (ended.status == 0)
  where
    by_unwritten : (o : Option Names) → LeavesContents rule (elim o [ Some path ↦ bad (Unwritten path) | None ↦ record { verdict = Good; files = files_of rule ended.writes } ])
    by_unwritten (Some path) = bad-leaves rule (Unwritten path) (λ e. cc e)
    by_unwritten None = record { good = λ _. (λ path. unwrap_or (last_written rule path ended.writes) [], refl); other = λ not_good. absurd (not_good refl) }

    by_foreign : (o : Option (List ℕ × Content)) → LeavesContents rule (elim o [ Some w ↦ bad (IllegalWrite w.0) | None ↦ elim (unwritten rule ended.writes) [ Some path ↦ bad (Unwritten path) | None ↦ record { verdict = Good; files = files_of rule ended.writes } ] ])
    by_foreign (Some w) = bad-leaves rule (IllegalWrite w.0) (λ e. cc e)
    by_foreign None = by_unwritten (unwritten rule ended.writes)

    by_status : (b : Bool) → LeavesContents rule (cond (not b) (bad (Failed ended.status)) (elim (foreign_write rule ended.writes) [ Some w ↦ bad (IllegalWrite w.0) | None ↦ elim (unwritten rule ended.writes) [ Some path ↦ bad (Unwritten path) | None ↦ record { verdict = Good; files = files_of rule ended.writes } ] ]))
    by_status true = by_foreign (foreign_write rule ended.writes)
    by_status false = bad-leaves rule (Failed ended.status) (λ e. cc e)

follow-leaves : (next : Next) (rules : List Rule) (rule : Rule) (tree : Tree) (steps : ℕ) (asked : Asks) → LeavesContents rule (follow next rules rule tree steps asked)
unfolding follow
follow-leaves next rules rule tree zero asked = bad-leaves rule TooManyReads (λ e. cc e)
follow-leaves next rules rule tree (suc steps) asked =
    let Leaves : Type 0 = LeavesContents rule (follow next rules rule tree (suc steps) asked) in
    elim (next rule.dir rule.text asked) as (λ s. next rule.dir rule.text asked ≡ s → Leaves) [
      | End ended ↦ λ is. rw (follow-End next rules rule tree steps asked ended is) (judge-leaves rule ended)
      | Ask text ↦ λ is. elim (access rules rule (length asked) text) as (λ a. access rules rule (length asked) text ≡ a → Leaves) [
        | No given ↦ λ answers. rw (follow-No next rules rule tree steps asked text given is answers) (bad-leaves rule given (access-No rules rule (length asked) text given answers))
        | Yes path ↦ λ answers. rw (follow-Yes next rules rule tree steps asked text path is answers) (follow-leaves next rules rule tree steps _)
      ] refl
    ] refl

pub verdict-leaves : (next : Next) (rules : List Rule) (rule : Rule) (tree : Tree) → LeavesContents rule (verdict next rules rule tree)
unfolding verdict
verdict-leaves next rules rule tree = follow-leaves next rules rule tree 65536 []
