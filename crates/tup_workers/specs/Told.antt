-- What a seat of a shared board was told, and what its command sees (own).
use Rattle.std.specs.Prelude.{◌≡◌, ◌⊎◌, ℕ, true, false, Bool, [], List, ◌++◌, Option, None, Some, All, Contains, IsTrue}
use Rattle.tup_path.specs.Name.{Content}
use Rattle.tup_stamp.specs.declared.Stamp.{Stamp}
use Rattle.tup_runner.specs.Next.{Asks}
use Rattle.tup_runner.specs.Refusal.{Refusal}
use Rattle.tup_core.specs.declared.event.Cause.TheVariants.{Run}
use Rattle.tup_core.specs.declared.event.CoreEvent.{CoreEvent}
use Rattle.tup_core.specs.declared.event.CoreEvent.TheVariants.{Stop}
use Rattle.tup_core.specs.declared.running.Running.{Running}
use Rattle.tup_core.specs.Run.{claims}
use Rattle.tup_board.specs.Calls.{AreKnown, AreStamped}
use Rattle.tup_board.specs.Entries.{runs_after}
use Rattle.tup_board.specs.Seat.{IsDenial, has_failed}

-- the entries of a seat, and the contents that it knows
pub record Told : Type 0 where
  pub entries : List CoreEvent
  pub known : List Content

-- what a seat was told
abbrev pub told_of : {T : Type 0} → (T → List CoreEvent) → (T → List Content) → T → Told
told_of entries known seat = record { entries = entries seat; known = known seat }

-- what it runs
abbrev pub runs : Told → Option Running
runs told = runs_after None told.entries

-- no runner failed here
abbrev pub NeverRun : CoreEvent → Type 0
NeverRun (Stop seat Run) = ⊥
NeverRun event = Unit {0}

-- at most the seat's command came on: none was claimed, and none stopped for its runner. Once a text was refused nothing more
-- happens; where the files couldn't be reached the seat runs nothing any more
pub record KeepsBy (tells : Bool) (old : Told) (was : Option Refusal) (new : Told) (is : Option Refusal) : Type 0 where
  pub added : List CoreEvent
  pub adds : new.entries ≡ old.entries ++ added
  pub none_claimed : claims added ≡ []
  pub never_run : All NeverRun added
  pub known : IsTrue tells → (content : Content) → Contains old.known content → Contains new.known content
  pub stays : (was ≡ None) ⊎ ((is ≡ was) × (new.entries ≡ old.entries))
  pub left : has_failed is ≡ true → has_failed was ≡ false → runs new ≡ None
  pub goes : has_failed is ≡ false → (running : Running) → runs old ≡ Some running → (now : Running) × (runs new ≡ Some now) × (now.rule ≡ running.rule)

-- the command that a seat ran asked just this more, and was answered so; it was denied just what its view refused since
pub record HasAskedBy (tells : Bool) (running : Running) (was : Option Refusal) (asks : Asks) (new : Told) (is : Option Refusal) : Type 0 where
  pub now : Running
  pub more : List (List ℕ × Option Stamp)
  pub runs_now : runs new ≡ Some now
  pub same : now.rule ≡ running.rule
  pub asked : now.asks ≡ running.asks ++ more
  pub stamps : AreStamped more asks
  pub known : IsTrue tells → AreKnown new.known asks
  pub denied : ((is ≡ was) × (now.denied ≡ running.denied)) ⊎ IsDenial is now.denied

-- its command came on by these asks, unless the files couldn't be reached
pub record CameBy (tells : Bool) (old : Told) (was : Option Refusal) (asks : Asks) (new : Told) (is : Option Refusal) : Type 0 where
  pub keeps : KeepsBy tells old was new is
  pub asked : has_failed is ≡ false → (running : Running) → runs old ≡ Some running → HasAskedBy tells running was asks new is
