-- A command under way, one step at a time: it ends, its ask is refused, or its ask is answered and it goes on.
use Rattle.std.specs.Prelude.{◌≡◌, ℕ, zero, suc, ◌<◌, ◌≤◌, ◌-◌, List, [], ◌∷◌, ◌++◌, length}
use Rattle.std.proofs.Common.{refl, length-append, arith}
use Rattle.tup_path.specs.Name.{Names}
use Rattle.tup_path.specs.Tree.{Tree}
use Rattle.tup_rule.specs.declared.rule.Rule.{Rule}
use Rattle.tup_runner.specs.Next.{Next, Asks}
use Rattle.tup_runner.specs.declared.step.Ended.{Ended}
use Rattle.tup_runner.specs.declared.step.Step.TheVariants.{Ask, End}
use Rattle.tup_access.specs.declared.verdict.Verdict.{Verdict}
use Rattle.tup_access.specs.declared.verdict.Access.TheVariants.{Yes, No}
use Rattle.tup_access.specs.Access.{access}
use Rattle.tup_access.specs.Judge.{bad, judge}
use Rattle.tup_access.specs.Verdict.{answer, follow, verdict, verdict_after}
use Rattle.tup_access.proofs.Permitted.{access-Yes}

pub follow-End : (next : Next) (rules : List Rule) (rule : Rule) (tree : Tree) (steps : ℕ) (asked : Asks) (ended : Ended) → next rule.dir rule.text asked ≡ End ended → follow next rules rule tree (suc steps) asked ≡ judge rule ended
unfolding follow
follow-End next rules rule tree steps asked ended e = rw (e, follow) refl

pub follow-No : (next : Next) (rules : List Rule) (rule : Rule) (tree : Tree) (steps : ℕ) (asked : Asks) (text : List ℕ) (refusal : Verdict) → next rule.dir rule.text asked ≡ Ask text → access rules rule (length asked) text ≡ No refusal → follow next rules rule tree (suc steps) asked ≡ bad refusal
unfolding follow
follow-No next rules rule tree steps asked text refusal e a = rw (e, follow) (rw a refl)

pub follow-Yes : (next : Next) (rules : List Rule) (rule : Rule) (tree : Tree) (steps : ℕ) (asked : Asks) (text : List ℕ) (path : Names) → next rule.dir rule.text asked ≡ Ask text → access rules rule (length asked) text ≡ Yes path
    → follow next rules rule tree (suc steps) asked ≡ follow next rules rule tree steps (asked ++ (text, answer rule tree path) ∷ [])
unfolding follow
follow-Yes next rules rule tree steps asked text path e a = rw (e, follow) (rw (a, follow) refl)

pub verdict_after-none : (next : Next) (rules : List Rule) (rule : Rule) (tree : Tree) → verdict_after next rules rule tree [] ≡ verdict next rules rule tree
unfolding verdict verdict_after
verdict_after-none next rules rule tree = refl

-- a command that ends is judged
pub verdict_after-End : (next : Next) (rules : List Rule) (rule : Rule) (tree : Tree) (asked : Asks) (ended : Ended) → length asked ≤ 65535 → next rule.dir rule.text asked ≡ End ended → verdict_after next rules rule tree asked ≡ judge rule ended
unfolding verdict_after
verdict_after-End next rules rule tree asked ended few e = by (65536 - length asked) (omega arith)
  where
    by : (steps : ℕ) → 0 < steps → follow next rules rule tree steps asked ≡ judge rule ended
    by zero h = absurd (omega arith)
    by (suc steps) h = follow-End next rules rule tree steps asked ended e

-- an ask that isn't allowed is the end
pub verdict_after-No : (next : Next) (rules : List Rule) (rule : Rule) (tree : Tree) (asked : Asks) (text : List ℕ) (refusal : Verdict) → length asked ≤ 65535 → next rule.dir rule.text asked ≡ Ask text → access rules rule (length asked) text ≡ No refusal → verdict_after next rules rule tree asked ≡ bad refusal
unfolding verdict_after
verdict_after-No next rules rule tree asked text refusal few e a = by (65536 - length asked) (omega arith)
  where
    by : (steps : ℕ) → 0 < steps → follow next rules rule tree steps asked ≡ bad refusal
    by zero h = absurd (omega arith)
    by (suc steps) h = follow-No next rules rule tree steps asked text refusal e a

-- an ask that is allowed is answered, and the command goes on
pub verdict_after-Yes : (next : Next) (rules : List Rule) (rule : Rule) (tree : Tree) (asked : Asks) (text : List ℕ) (path : Names) → next rule.dir rule.text asked ≡ Ask text → access rules rule (length asked) text ≡ Yes path
    → verdict_after next rules rule tree asked ≡ verdict_after next rules rule tree (asked ++ (text, answer rule tree path) ∷ [])
unfolding verdict_after
verdict_after-Yes next rules rule tree asked text path e a =
    by (65536 - length asked) (65536 - length more) (simp length-append (let early = (access-Yes rules rule (length asked) text path a).early in omega arith))
  where
    more : Asks
    more = asked ++ (text, answer rule tree path) ∷ []

    by : (steps rest : ℕ) → steps ≡ suc rest → follow next rules rule tree steps asked ≡ follow next rules rule tree rest more
    by steps rest h = rw h (follow-Yes next rules rule tree rest asked text path e a)
