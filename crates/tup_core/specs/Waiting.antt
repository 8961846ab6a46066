-- Which rules wait for pending ones, as the code of a core keeps it (own).
-- A rule that was reached has a list of its readers. One that wasn't reached is never pending, but its readers wait for what it
-- declares. If it reads what a reached rule makes, it has a list of the reached rules behind it, to which it leads over others that
-- weren't reached. For each rule it is counted in how many lists it stands: those of pending rules, and those of rules that weren't
-- reached and are counted somewhere themselves. So it takes a number for each link, and not for each pair of rules at its ends.
use Rattle.std.specs.Prelude.{◌≡◌, ℕ, zero, suc, ◌+◌, ◌<◌, ◌≤◌, ◌==◌, nat_lt, Bool, true, false, not, ◌&&◌, if◌then◌else◌, List, [], ◌∷◌, length, Some, slice_get, unwrap_or}
use Rattle.tup_rule.specs.declared.rule.Rule.{Rule}
use Rattle.tup_rule.specs.Producer.{MakesFor, DeclaredProducer}
use Rattle.tup_clean.specs.Queue.{count_of}
use Rattle.tup_core.specs.declared.waiting.Waiting.{Waiting}

-- the flag at a place, which is down past the end
abbrev pub flag : List Bool → ℕ → Bool
flag flags at = unwrap_or (slice_get flags at) false

-- all flags are down
abbrev pub AreDown : List Bool → Type 0
AreDown flags = (at : ℕ) → flag flags at ≡ false

-- the number at a place, which is 0 past the end
abbrev pub number : List ℕ → ℕ → ℕ
number numbers at = unwrap_or (slice_get numbers at) 0

-- how often a rule stands in the list of another
abbrev pub times : List (List ℕ) → ℕ → ℕ → ℕ
times lists other at = count_of at (unwrap_or (slice_get lists other) [])

-- lists for rules have only places of these rules
abbrev pub AreWithin : List (List ℕ) → Type 0
AreWithin lists = (other at : ℕ) → 0 < times lists other at → at < length lists

-- one rule leads to another over so many between them, each standing in the list of the one before
abbrev pub Leads : ℕ → List (List ℕ) → ℕ → ℕ → Type 0
Leads zero lists from at = 0 < times lists from at
Leads (suc between) lists from at = (next : ℕ) × Leads between lists from next × (0 < times lists next at)

-- the same, where none of those between them was reached
abbrev pub LeadsOver : ℕ → List (List ℕ) → List Bool → ℕ → ℕ → Type 0
LeadsOver zero lists reached from at = 0 < times lists from at
LeadsOver (suc between) lists reached from at = (next : ℕ) × LeadsOver between lists reached from next × (flag reached next ≡ false) × (0 < times lists next at)

-- the readers of a rule, each once
pub record AreOnce (readers : List (List ℕ)) (from : ℕ) (list : List ℕ) : Type 0 where
  pub all : (at : ℕ) → 0 < times readers from at → 0 < count_of at list
  pub only : (at : ℕ) → 0 < count_of at list → 0 < times readers from at
  pub once : (at : ℕ) → count_of at list ≤ 1

-- the reached rules to which a rule leads over others that weren't reached, each once
pub record AreBehind (readers : List (List ℕ)) (reached : List Bool) (from : ℕ) (list : List ℕ) : Type 0 where
  pub all : (between at : ℕ) → LeadsOver between readers reached from at → flag reached at ≡ true → 0 < count_of at list
  pub inner : (at : ℕ) → 0 < count_of at list → flag reached at ≡ true
  pub led : (at : ℕ) → 0 < count_of at list → (between : ℕ) × Leads between readers from at
  pub once : (at : ℕ) → count_of at list ≤ 1

-- the flags of the readers of reached rules are up
pub record AreEntries (readers : List (List ℕ)) (reached entries : List Bool) : Type 0 where
  pub many : length entries ≡ length readers
  pub up : (from at : ℕ) → flag reached from ≡ true → 0 < times readers from at → flag entries at ≡ true
  pub only : (at : ℕ) → flag entries at ≡ true → (from : ℕ) × (flag reached from ≡ true) × (0 < times readers from at)

-- what waits for a rule: if it was reached, its readers, and else the reached rules behind it, if it reads what a reached rule makes
pub record AreWaiters (readers : List (List ℕ)) (reached entries : List Bool) (from : ℕ) (waiters : List ℕ) : Type 0 where
  pub listed : flag reached from ≡ true → AreOnce readers from waiters
  pub behind : flag reached from ≡ false → flag entries from ≡ true → AreBehind readers reached from waiters
  pub others : flag reached from ≡ false → flag entries from ≡ false → waiters ≡ []

-- so for each rule
pub record AreAllWaiters (readers : List (List ℕ)) (reached entries : List Bool) (lists : List (List ℕ)) : Type 0 where
  pub many : length lists ≡ length readers
  pub each : (from : ℕ) → from < length readers → AreWaiters readers reached entries from (unwrap_or (slice_get lists from) [])

-- no list has a rule twice
abbrev pub IsShort : List (List ℕ) → Type 0
IsShort lists = (other at : ℕ) → times lists other at ≤ 1

-- how often a rule stands in all lists
abbrev pub total : List (List ℕ) → ℕ → ℕ
total [] at = 0
total (list ∷ lists) at = count_of at list + total lists at

-- in how many lists of some rules a rule stands
abbrev pub waits_in : List (List ℕ) → (ℕ → Bool) → ℕ → ℕ
waits_in [] counted at = 0
waits_in (list ∷ lists) counted at = (if counted 0 then count_of at list else 0) + waits_in lists (λ from. counted (suc from)) at

-- whether the list of a rule counts: of one that was reached while it is pending, of another while it is counted itself
abbrev pub counts : (ℕ → Bool) → List Bool → List ℕ → ℕ → Bool
counts reached pending waits from = if reached from then flag pending from else nat_lt 0 (number waits from)

-- a rule is a declared producer of another over so many rules between them that weren't reached
abbrev pub ProducerBeside : ℕ → List Rule → (ℕ → Bool) → Rule → ℕ → Type 0
ProducerBeside zero rules reached rule at = MakesFor rules rule at
ProducerBeside (suc between) rules reached rule at =
    (next : ℕ) × (other : Rule) × MakesFor rules rule next × (slice_get rules next ≡ Some other) × (reached next ≡ false) × ProducerBeside between rules reached other at

-- lists of rules that weren't reached have reached ones alone
abbrev pub AreInner : List (List ℕ) → List Bool → Type 0
AreInner lists reached = (from at : ℕ) → flag reached from ≡ false → 0 < times lists from at → flag reached at ≡ true

-- what rules wait for, where some were reached, of which some are still pending
pub record IsWaiting (rules : List Rule) (reached : ℕ → Bool) (pending : List Bool) (waiting : Waiting) : Type 0 where
  pub many : length waiting.waiters.items ≡ length rules
  pub flags : (at : ℕ) → flag waiting.reached.items at ≡ reached at
  pub within : (at : ℕ) → flag pending at ≡ true → reached at ≡ true
  pub counted : (at : ℕ) → number waiting.waits.items at ≡ waits_in waiting.waiters.items (counts reached pending waiting.waits.items) at
  -- a reached rule has those for which it makes a path
  pub first : (from at : ℕ) (rule : Rule) → reached from ≡ true → slice_get rules at ≡ Some rule → MakesFor rules rule from → 0 < times waiting.waiters.items from at
  -- and one of these that wasn't reached has the reached ones behind it, and no others
  pub behind : (from next between at : ℕ) (rule : Rule) → reached from ≡ true → 0 < times waiting.waiters.items from next → reached next ≡ false → slice_get rules at ≡ Some rule
      → ProducerBeside between rules reached rule next → reached at ≡ true → 0 < times waiting.waiters.items next at
  pub inner : AreInner waiting.waiters.items waiting.reached.items
  -- each is a declared producer of those that it has
  pub led : (from at : ℕ) → 0 < times waiting.waiters.items from at → (rule : Rule) × (slice_get rules at ≡ Some rule) × DeclaredProducer rules rule from

-- numbers that count all lists that count, and one more of which so much is still to be taken away
abbrev pub AreCounts : List (List ℕ) → List Bool → List Bool → List ℕ → List ℕ → Type 0
AreCounts lists reached pending left waits = (at : ℕ) → number waits at ≡ waits_in lists (counts (flag reached) pending waits) at + count_of at left

-- whether a rule that wasn't reached is counted once
abbrev pub is_last : List Bool → List ℕ → ℕ → Bool
is_last reached waits place = not (flag reached place) && number waits place == 1

-- what is taken away where a rule is counted once less: itself, and its list, if it wasn't reached and is counted no more
abbrev pub taken : List (List ℕ) → List Bool → List ℕ → ℕ → ℕ → ℕ
taken lists reached waits place at = count_of at (place ∷ []) + (if is_last reached waits place then times lists place at else 0)

-- the rule at a place can be taken out of what others wait for
pub record CanRelease (at : ℕ) (waiting : Waiting) : Type 0 where
  pub here : at < length waiting.waiters.items
  pub within : AreWithin waiting.waiters.items
  pub inner : AreInner waiting.waiters.items waiting.reached.items
  pub held : (pending : List Bool) × AreCounts waiting.waiters.items waiting.reached.items pending (unwrap_or (slice_get waiting.waiters.items at) []) waiting.waits.items

-- it was taken out: what was counted beside its list is counted
pub record Releases (at : ℕ) (old new : Waiting) : Type 0 where
  pub lists : new.waiters ≡ old.waiters
  pub reached : new.reached ≡ old.reached
  pub fewer : (other : ℕ) → number new.waits.items other ≤ number old.waits.items other
  pub counted : (pending : List Bool) → AreCounts old.waiters.items old.reached.items pending (unwrap_or (slice_get old.waiters.items at) []) old.waits.items
      → AreCounts old.waiters.items old.reached.items pending [] new.waits.items
