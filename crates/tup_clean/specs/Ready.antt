-- Which rule comes next, told by its declared inputs alone. In a build under way the declared producers of a
-- Good rule are all Good, so it's enough to look one step back.
use Rattle.std.specs.Prelude.{◌≡◌, ℕ, Bool, true, ◌&&◌, List, Option, None, Some, position, is_none, slice_get}
use Rattle.std.specs.List.{list_all, zip}
use Rattle.tup_path.specs.Name.{Names}
use Rattle.tup_rule.specs.declared.rule.Rule.{Rule}
use Rattle.tup_rule.specs.Rule.{maker}
use Rattle.tup_access.specs.declared.verdict.Verdict.{Verdict}
use Rattle.tup_clean.specs.Clean.{good_at, producers_good}

-- whether a path has a Good maker, or none
abbrev pub is_made : List Rule → List (Option Verdict) → Names → Bool
is_made rules verdicts path = elim (maker path rules) [ None ↦ true | Some at ↦ good_at verdicts at ]

-- whether all of these have
abbrev pub all_made : List Rule → List (Option Verdict) → List Names → Bool
all_made rules verdicts paths = list_all (is_made rules verdicts) paths

-- whether the makers of the paths that a rule declares are Good
abbrev pub makers_good : List Rule → List (Option Verdict) → Rule → Bool
makers_good rules verdicts rule = all_made rules verdicts rule.inputs && all_made rules verdicts rule.order

-- the first rule without a verdict whose makers are Good
abbrev pub next_ready : List Rule → List (Option Verdict) → Option ℕ
next_ready rules verdicts =
    position (λ (p : Rule × Option Verdict). is_none p.1 && makers_good rules verdicts p.0) (zip rules verdicts)

-- behind each Good rule all its producers are Good
abbrev pub IsGrown : List Rule → List (Option Verdict) → Type 0
IsGrown rules verdicts =
    (at : ℕ) (rule : Rule) (steps : ℕ) → good_at verdicts at ≡ true → slice_get rules at ≡ Some rule → producers_good steps rules verdicts rule ≡ true
