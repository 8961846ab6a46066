-- A verdict depends on a tree only where its rule may read, its own outputs aside.
use Rattle.std.specs.Prelude.{◌≡◌, ℕ, zero, suc, Bool, true, false, if◌then◌else◌, List, [], ◌∷◌, ◌++◌, length, None, Some}
use Rattle.std.specs.FinMap as finite
use Rattle.std.proofs.Common.{refl, sym, ap, ◌∙◌}
use Rattle.tup_path.specs.Name.{Names}
use Rattle.tup_path.specs.Tree.{Tree}
use Rattle.tup_rule.specs.declared.rule.Rule.{Rule}
use Rattle.tup_rule.specs.Rule.{writes}
use Rattle.tup_runner.specs.Next.{Next, Asks}
use Rattle.tup_runner.specs.declared.step.Answer.{Answer}
use Rattle.tup_runner.specs.declared.step.Answer.TheVariants.{Content as Contents, Absent}
use Rattle.tup_runner.specs.declared.step.Step.{Step}
use Rattle.tup_runner.specs.declared.step.Step.TheVariants.{Ask, End}
use Rattle.tup_access.specs.declared.verdict.Access.{Access}
use Rattle.tup_access.specs.declared.verdict.Access.TheVariants.{Yes, No}
use Rattle.tup_access.specs.Access.{may_read, access}
use Rattle.tup_access.specs.Verdict.{answer, follow, verdict}
use Rattle.tup_access.proofs.Permitted.{access-Yes}
use Rattle.tup_access.proofs.Steps.{follow-End, follow-No, follow-Yes}

-- two trees have the same files where a rule may read, its own outputs aside
pub record ReadsAlike (rules : List Rule) (rule : Rule) (one other : Tree) : Type 0 where
  pub alike : (path : Names) → may_read rules rule path ≡ true → writes rule path ≡ false → finite.get one path ≡ finite.get other path

pub answer-alike : (rules : List Rule) (rule : Rule) (one other : Tree) (path : Names) → ReadsAlike rules rule one other → may_read rules rule path ≡ true → answer rule one path ≡ answer rule other path
answer-alike rules rule one other path same readable = by (writes rule path) refl
  where
    by : (own : Bool) → writes rule path ≡ own
        → (if own then Absent else elim (finite.get one path) [ Some content ↦ Contents content | None ↦ Absent ])
        ≡ (if own then Absent else elim (finite.get other path) [ Some content ↦ Contents content | None ↦ Absent ])
    by true own = refl
    by false own = rw (same.alike path readable own) refl

pub follow-alike : (next : Next) (rules : List Rule) (rule : Rule) (one other : Tree) → ReadsAlike rules rule one other → (steps : ℕ) (asked : Asks) → follow next rules rule one steps asked ≡ follow next rules rule other steps asked
unfolding follow
follow-alike next rules rule one other same zero asked = refl
follow-alike next rules rule one other same (suc steps) asked = by_step (follow-alike next rules rule one other same steps) (next rule.dir rule.text asked) refl
  where
    by_access : ((later : Asks) → follow next rules rule one steps later ≡ follow next rules rule other steps later) → (text : List ℕ) (a : Access) → next rule.dir rule.text asked ≡ Ask text → access rules rule (length asked) text ≡ a → follow next rules rule one (suc steps) asked ≡ follow next rules rule other (suc steps) asked
    by_access after text (No refusal) e a = follow-No next rules rule one steps asked text refusal e a ∙ sym (follow-No next rules rule other steps asked text refusal e a)
    by_access after text (Yes path) e a =
        follow-Yes next rules rule one steps asked text path e a
        ∙ ap (λ (given : Answer). follow next rules rule one steps (asked ++ (text, given) ∷ [])) (answer-alike rules rule one other path same (access-Yes rules rule (length asked) text path a).readable)
        ∙ after (asked ++ (text, answer rule other path) ∷ [])
        ∙ sym (follow-Yes next rules rule other steps asked text path e a)

    by_step : ((later : Asks) → follow next rules rule one steps later ≡ follow next rules rule other steps later) → (s : Step) → next rule.dir rule.text asked ≡ s → follow next rules rule one (suc steps) asked ≡ follow next rules rule other (suc steps) asked
    by_step after (End ended) e = follow-End next rules rule one steps asked ended e ∙ sym (follow-End next rules rule other steps asked ended e)
    by_step after (Ask text) e = by_access after text (access rules rule (length asked) text) e refl

-- trees that are alike where a rule may read give it the same verdict
pub verdict-alike : (next : Next) (rules : List Rule) (rule : Rule) (one other : Tree) → ReadsAlike rules rule one other → verdict next rules rule one ≡ verdict next rules rule other
unfolding verdict
verdict-alike next rules rule one other same = follow-alike next rules rule one other same 65536 []
