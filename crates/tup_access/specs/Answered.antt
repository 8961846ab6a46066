-- Asks that a rule's command may make, each answered as a tree has it (own).
use Rattle.std.specs.Prelude.{◌≡◌, ℕ, ◌+◌, List, [], ◌∷◌, length}
use Rattle.tup_path.specs.Name.{Names}
use Rattle.tup_path.specs.Tree.{Tree}
use Rattle.tup_rule.specs.declared.rule.Rule.{Rule}
use Rattle.tup_runner.specs.Next.{Asks}
use Rattle.tup_runner.specs.declared.step.Answer.{Answer}
use Rattle.tup_access.specs.declared.verdict.Access.TheVariants.{Yes}
use Rattle.tup_access.specs.Access.{access}
use Rattle.tup_access.specs.Verdict.{answer}

-- an ask after so many others: its text names a path that the rule may read, and it was answered what stands there
pub record IsAnswered (rules : List Rule) (rule : Rule) (tree : Tree) (before : ℕ) (ask : List ℕ × Answer) : Type 0 where
  pub path : Names
  pub may : access rules rule before ask.0 ≡ Yes path
  pub told : ask.1 ≡ answer rule tree path

-- asks one after another, after so many others
abbrev pub AreAnswered : List Rule → Rule → Tree → ℕ → Asks → Type 0
AreAnswered rules rule tree before [] = Unit {0}
AreAnswered rules rule tree before (ask ∷ asks) = IsAnswered rules rule tree before ask × AreAnswered rules rule tree (before + 1) asks

-- a rule's command that was answered so often was answered these, and then so often
pub record HasSeen (rules : List Rule) (rule : Rule) (tree : Tree) (before : ℕ) (asks : Asks) (after : ℕ) : Type 0 where
  pub count : after ≡ before + length asks
  pub answered : AreAnswered rules rule tree before asks
