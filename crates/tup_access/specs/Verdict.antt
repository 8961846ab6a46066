-- The verdict on a command over a tree: what its runner does, step by step, with the tree's answers.
use Rattle.std.specs.Prelude.{ℕ, ◌-◌, zero, suc, List, [], ◌∷◌, ◌++◌, length, None, Some, if◌then◌else◌}
use Rattle.std.specs.FinMap as finite
use Rattle.tup_path.specs.Name.{Names}
use Rattle.tup_path.specs.Tree.{Tree}
use Rattle.tup_rule.specs.declared.rule.Rule.{Rule}
use Rattle.tup_rule.specs.Rule.{writes}
use Rattle.tup_runner.specs.Next.{Next, Asks}
use Rattle.tup_runner.specs.declared.step.Answer.{Answer}
use Rattle.tup_runner.specs.declared.step.Answer.TheVariants.{Content, Absent}
use Rattle.tup_runner.specs.declared.step.Step.TheVariants.{Ask, End}
use Rattle.tup_access.specs.declared.verdict.Verdict.TheVariants.{TooManyReads}
use Rattle.tup_access.specs.declared.verdict.Access.TheVariants.{Yes, No}
use Rattle.tup_access.specs.Access.{access}
use Rattle.tup_access.specs.Judge.{Judged, bad, judge}

-- what a rule is answered for a path: the file of the tree, but its own outputs as absent
abbrev pub answer : Rule → Tree → Names → Answer
answer rule tree path =
    if writes rule path then Absent
    else elim (finite.get tree path) [ Some content ↦ Content content | None ↦ Absent ]

-- what becomes of a command that has asked this much, and may go on for so many steps
unfoldable pub follow : Next → List Rule → Rule → Tree → ℕ → Asks → Judged
follow next rules rule tree zero asked = bad TooManyReads
follow next rules rule tree (suc steps) asked =
    elim (next rule.dir rule.text asked) [
      | End ended ↦ judge rule ended
      | Ask text ↦ elim (access rules rule (length asked) text) [
        | No verdict ↦ bad verdict
        | Yes path ↦ follow next rules rule tree steps (asked ++ (text, answer rule tree path) ∷ [])
      ]
    ]

-- from the start; the 65,536th ask is refused, so there are never more steps than that
unfoldable pub verdict : Next → List Rule → Rule → Tree → Judged
verdict next rules rule tree = follow next rules rule tree 65536 []

-- the verdict on a command that has asked this much
unfoldable pub verdict_after : Next → List Rule → Rule → Tree → Asks → Judged
verdict_after next rules rule tree asked = follow next rules rule tree (65536 - length asked) asked
