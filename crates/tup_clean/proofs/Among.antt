-- What it is for a path to be one of some paths, and to be made by a rule.
use Rattle.std.proofs.Common.{◌≡◌, ℕ, Bool, true, List, [], ◌∷◌, Some, refl}
use Rattle.std.proofs.lemmas.Bool.{and_from, or_left, or_right}
use Rattle.std.specs.List.{slice_get, list_all, position_or_len, Contains}
use Rattle.tup_path.specs.Name.{Names}
use Rattle.tup_path.specs.Order.{same_path}
use Rattle.tup_rule.specs.declared.rule.Rule.{Rule}
use Rattle.tup_path.proofs.Same.{same_path-decides}
use Rattle.tup_rule.proofs.Laws.{among-decides, maker-Some}
use Rattle.tup_rule.specs.Rule.{among, writes, maker, is_generated}
use Rattle.tup_clean.specs.Buildable.{IsOutputAt}
use Rattle.tup_clean.proofs.Places.{position_any}

pub same_path-itself : (path : Names) → same_path path path ≡ true
same_path-itself path = (same_path-decides path path).1 refl

pub same_path-equal : (x y : Names) → same_path x y ≡ true → x ≡ y
same_path-equal x y = (same_path-decides x y).0

-- ---- one of some paths

pub among-Contains : (path : Names) (paths : List Names) → Contains paths path → among path paths ≡ true
among-Contains path paths = (among-decides path paths).1

pub Contains-among : (path : Names) (paths : List Names) → among path paths ≡ true → Contains paths path
Contains-among path paths = (among-decides path paths).0

-- what holds of each of the paths
pub all_among : (test : Names → Bool) (paths : List Names) → ((path : Names) → among path paths ≡ true → test path ≡ true) → list_all test paths ≡ true
all_among test [] each = refl
all_among test (path ∷ paths) each =
    and_from _ _ (each path (or_left _ _ (same_path-itself path)))
    (all_among test paths (λ other found. each other (or_right _ _ found)))

-- ---- made by a rule

pub IsOutputAt-writes : (rules : List Rule) (at : ℕ) (rule : Rule) (path : Names) → slice_get rules at ≡ Some rule → writes rule path ≡ true → IsOutputAt rules at path
IsOutputAt-writes rules at rule path here made = (rule, here, Contains-among path rule.outputs made)

pub maker-IsOutputAt : (rules : List Rule) (at : ℕ) (path : Names) → maker path rules ≡ Some at → IsOutputAt rules at path
maker-IsOutputAt rules at path made =
    let found = maker-Some rules path at made in
    IsOutputAt-writes rules at found.rule path found.here found.writes_it

-- a path that some rule makes has a maker
pub is_generated-maker : (rules : List Rule) (path : Names) → is_generated rules path ≡ true → (at : ℕ) × (maker path rules ≡ Some at)
is_generated-maker rules path made = (position_or_len (λ rule. writes rule path) rules, position_any (λ rule. writes rule path) rules made)
