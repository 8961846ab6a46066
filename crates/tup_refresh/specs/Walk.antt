-- The folders of a project while they are refreshed (own).
use Rattle.std.specs.Prelude.{◌≡◌, ◌<◌, ◌+◌, ℕ, length, true, Option, Some, None}
use Rattle.std.specs.BTreeSet.{contains}
use Rattle.std.specs.FinMap as finite
use Rattle.tup_path.specs.Name.{Names}
use Rattle.tup_path.specs.Order.{by_names}
use Rattle.tup_path.specs.Tree.{Tree}
use Rattle.tup_rule.specs.declared.question.Reading.{Reading}
use Rattle.tup_vars.specs.Table.{Entries}
use Rattle.tup_readings.specs.Answers.{Readings}
use Rattle.tup_readings.specs.State.{IsWork, IsStart as IsWorkStart, Notes, steps_left as steps_of}
use Rattle.tup_graph.specs.Graph.{GraphState}
use Rattle.tup_refresh.specs.declared.fetched.Fetched.{Fetched}
use Rattle.tup_refresh.specs.declared.walk.Walk.{Walk}
use Rattle.tup_refresh.specs.Found.{StandsNot}
use Rattle.tup_refresh.specs.Part.{AreFetched}
use Rattle.tup_refresh.specs.Refresh.{kept_reading}
use Rattle.tup_refresh.specs.Standing.{AllStand}

module _ (g : GraphState) (sources : Tree) (settings : Entries) where
  -- each reading is a kept one that stands, or a fresh one where none stands
  pub record AreParted (readings fresh : Readings) : Type 0 where
    pub read : (dir : Names) (left : Reading) → finite.get fresh dir ≡ Some left → (finite.get readings dir ≡ Some left) × StandsNot sources settings readings dir (kept_reading g dir)
    pub kept : (dir : Names) (left : Reading) → finite.get readings dir ≡ Some left → finite.get fresh dir ≡ None
        → (kept_reading g dir ≡ Some left) × AllStand sources settings readings dir left.asked

  -- a walk's folders are under way, its fresh readings are the new ones, and its contents are those of the sources
  pub record IsWalk (walk : Walk) : Type 0 where
    pub work : IsWork sources settings walk.work
    pub parted : AreParted walk.work.readings walk.fresh
    pub fetched : AreFetched sources walk.fetched

-- no folder is begun, and none is read
pub record IsStart (outline : Tree) (fetched : Fetched) (walk : Walk) : Type 0 where
  pub work : IsWorkStart outline walk.work
  pub fresh : walk.fresh ≡ finite.empty
  pub contents : walk.fetched ≡ fetched

-- how many steps are left at most: those of the folders, and one for each content that wasn't asked for
abbrev pub steps_left : Walk → ℕ
steps_left walk = steps_of walk.work + length walk.fetched.missing.keys

-- a folder went on, or the content of a source is needed and all is as it was
abbrev pub HasGone : Walk → Walk → Option Names → Type 0
HasGone old new None = (new.fetched ≡ old.fetched) × (steps_of new.work < steps_of old.work)
HasGone old new (Some path) = (new ≡ old) × (contains by_names old.fetched.missing path ≡ true)

-- a fresh reading is noted
pub record NotesFresh (dir : Names) (left : Reading) (old new : Walk) : Type 0 where
  pub work : Notes dir left old.work new.work
  pub fresh : new.fresh ≡ finite.insert old.fresh dir left
  pub fetched : new.fetched ≡ old.fetched
