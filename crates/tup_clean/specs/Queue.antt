-- The rules of a build that were not taken yet, with what they wait for.
use Rattle.std.specs.Prelude.{◌≡◌, ℕ, ◌+◌, ◌-◌, ◌<◌, ◌≤◌, ◌==◌, nat_lt, Bool, true, false, not, ◌&&◌, ◌||◌, if◌then◌else◌, List, [], ◌∷◌, length, Option, None, Some, slice_get}
use Rattle.std.specs.Ordering.{nat_cmp}
use Rattle.std.specs.BTreeSet.{BTreeSet, contains}
use Rattle.tup_rule.specs.declared.rule.Rule.{Rule}
use Rattle.tup_clean.specs.declared.queue.Queue.{Queue}
use Rattle.tup_rule.specs.Makers.{MakerMap, HasMakers, producers, producers_in}

-- how often a number stands in a list
abbrev pub count_of : ℕ → List ℕ → ℕ
count_of at [] = 0
count_of at (other ∷ list) = (if other == at then 1 else 0) + count_of at list

-- how many of some producers aren't Good
abbrev pub waits_for : (ℕ → Bool) → List ℕ → ℕ
waits_for good [] = 0
waits_for good (at ∷ list) = (if good at then 0 else 1) + waits_for good list

-- whether what a rule waits for is nothing
abbrev pub waits_for_none : List ℕ → ℕ → Bool
waits_for_none waits at = elim (slice_get waits at) [ Some n ↦ n == 0 | None ↦ false ]

-- a queue of rules of which these are left, that is not taken yet, and these Good
pub record IsQueue (rules : List Rule) (left good : ℕ → Bool) (queue : Queue) : Type 0 where
  pub many : length queue.readers.items ≡ length rules
  pub waits : (at : ℕ) (rule : Rule) → slice_get rules at ≡ Some rule → slice_get queue.waits.items at ≡ Some (waits_for good (producers rules rule))
  pub beyond : (at : ℕ) → slice_get rules at ≡ None → slice_get queue.waits.items at ≡ None
  pub readers : (at other : ℕ) (rule : Rule) (list : List ℕ) → slice_get rules at ≡ Some rule → slice_get queue.readers.items other ≡ Some list → count_of at list ≡ count_of other (producers rules rule)
  pub within : (at other : ℕ) (list : List ℕ) → slice_get rules at ≡ None → slice_get queue.readers.items other ≡ Some list → count_of at list ≡ 0
  pub ready : (at : ℕ) → contains nat_cmp queue.ready at ≡ (left at && waits_for_none queue.waits.items at)
  -- a rule that was taken waits for none
  pub taken : (at : ℕ) (rule : Rule) → slice_get rules at ≡ Some rule → left at ≡ false → waits_for good (producers rules rule) ≡ 0

-- all rules are left, and none is Good
abbrev pub IsWhole : List Rule → Queue → Type 0
IsWhole rules queue = IsQueue rules (λ at. nat_lt at (length rules)) (λ at. false) queue

-- whether a rule is left and waits for none
abbrev pub is_ready : List Rule → (ℕ → Bool) → (ℕ → Bool) → ℕ → Bool
is_ready rules left good at =
    elim (slice_get rules at) [ Some rule ↦ left at && waits_for good (producers rules rule) == 0 | None ↦ false ]

-- the first rule that is ready was taken, if there is one
abbrev pub IsNext : List Rule → (ℕ → Bool) → (ℕ → Bool) → Option ℕ → Queue → Type 0
IsNext rules left good None queue = (at : ℕ) → is_ready rules left good at ≡ false
IsNext rules left good (Some at) queue =
    (is_ready rules left good at ≡ true)
    × ((other : ℕ) → other < at → is_ready rules left good other ≡ false)
    × IsQueue rules (λ other. left other && not (other == at)) good queue

-- each of these waits, at least as often as it stands in the list
abbrev pub AreWaiting : List ℕ → List ℕ → Type 0
AreWaiting list waits = (at : ℕ) → 0 < count_of at list → (n : ℕ) × (slice_get waits at ≡ Some n) × (count_of at list ≤ n)

-- the readers of the rule at a place wait
pub record CanRelease (at : ℕ) (queue : Queue) : Type 0 where
  pub here : at < length queue.readers.items
  pub enough : (list : List ℕ) → slice_get queue.readers.items at ≡ Some list → AreWaiting list queue.waits.items

-- each of these waits for one less, and is ready where it waits for none then
pub record IsReleased (list old new : List ℕ) (was now : BTreeSet ℕ) : Type 0 where
  pub waits : (at n : ℕ) → slice_get old at ≡ Some n → slice_get new at ≡ Some (n - count_of at list)
  pub beyond : (at : ℕ) → slice_get old at ≡ None → slice_get new at ≡ None
  pub ready : (at : ℕ) → contains nat_cmp now at ≡ (contains nat_cmp was at || nat_lt 0 (count_of at list) && waits_for_none new at)

-- what is known of a queue into which so many rules were filled
pub record IsFilled (rules : List Rule) (count : ℕ) (queue : Queue) : Type 0 where
  pub long : length queue.waits.items ≡ count
  pub many : length queue.readers.items ≡ length rules
  pub waits : (at : ℕ) (rule : Rule) → at < count → slice_get rules at ≡ Some rule → slice_get queue.waits.items at ≡ Some (length (producers rules rule))
  pub readers : (at other : ℕ) (rule : Rule) (list : List ℕ) → at < count → slice_get rules at ≡ Some rule → slice_get queue.readers.items other ≡ Some list → count_of at list ≡ count_of other (producers rules rule)
  pub later : (at other : ℕ) (list : List ℕ) → count ≤ at → slice_get queue.readers.items other ≡ Some list → count_of at list ≡ 0
  pub ready : (at : ℕ) → contains nat_cmp queue.ready at ≡ waits_for_none queue.waits.items at

-- all of these are places below a number
abbrev pub AreBelow : List ℕ → ℕ → Type 0
AreBelow list bound = (at : ℕ) → 0 < count_of at list → at < bound

-- a reader was noted with each of its producers
pub record IsNoted (reader : ℕ) (list : List ℕ) (old new : List (List ℕ)) : Type 0 where
  pub many : length new ≡ length old
  pub each : (other : ℕ) (after : List ℕ) → slice_get new other ≡ Some after → (before : List ℕ) × (slice_get old other ≡ Some before)
      × ((at : ℕ) → count_of at after ≡ count_of at before + (if reader == at then count_of other list else 0))

-- a queue has room for a rule: its producers stand among the rules
abbrev pub Takes : MakerMap → Rule → Queue → Type 0
Takes makers rule queue = AreBelow (producers_in makers rule) (length queue.readers.items)

-- the next rule is added to a queue that is being filled
abbrev pub Adds : MakerMap → Rule → Queue → Queue → Type 0
Adds makers rule old new =
    (rules : List Rule) (count : ℕ) → HasMakers rules makers → slice_get rules count ≡ Some rule → IsFilled rules count old → IsFilled rules (count + 1) new

-- the verdict of the rule at a place is noted, which is Good or isn't
abbrev pub Notes : ℕ → Bool → Queue → Queue → Type 0
Notes at turns old new =
    (rules : List Rule) (left good : ℕ → Bool) → IsQueue rules left good old → good at ≡ false → IsQueue rules left (λ other. good other || turns && other == at) new
