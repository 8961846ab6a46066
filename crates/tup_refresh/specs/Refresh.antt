-- What a refresh is: reading a project again where a graph keeps what its folders were read as (own). That what was told is
-- compared, and a folder is read again only where it differs, is from Mike Shal, "Build System Rules and Algorithms" (2009).
use Rattle.std.specs.Prelude.{◌≡◌, ◌≢◌, ◌⊎◌, ◌↔◌, not, if◌then◌else◌, List, [], Option, Some, None, option_map, Result, Ok, Err, Contains, IsTrue, IsSome, map, filter}
use Rattle.std.specs.FinMap as finite
use Rattle.tup_path.specs.Name.{Names, Content}
use Rattle.tup_path.specs.Order.{by_names}
use Rattle.tup_path.specs.Tree.{Tree}
use Rattle.tup_stamp.specs.Stamp.{stamp}
use Rattle.tup_rule.specs.Question.{noted as kept_as}
use Rattle.tup_rule.specs.declared.question.Noted.{Noted}
use Rattle.tup_rule.specs.declared.question.Question.{Question}
use Rattle.tup_rule.specs.declared.question.Question.TheVariants as asks
use Rattle.tup_rule.specs.declared.question.Reading.{Reading}
use Rattle.tup_rule.specs.declared.question.Told.TheVariants as told
use Rattle.tup_vars.specs.Table.{Entries}
use Rattle.tup_vars.specs.declared.fault.ConfigFault.{ConfigFault}
use Rattle.tup_query.specs.Log.{Log, Ran, noted_log}
use Rattle.tup_tupfile.specs.Reading.{reading}
use Rattle.tup_readings.specs.Answers.{Readings, answer}
use Rattle.tup_readings.specs.Readings.{AreRead, config_fault}
use Rattle.tup_readings.specs.Sources.{has_tupfile, settings_of}
use Rattle.tup_readings.specs.declared.fault.FoldersFault.{FoldersFault}
use Rattle.tup_readings.specs.declared.fault.FoldersFault.TheVariants.{Memory}
use Rattle.tup_graph.specs.Graph.{GraphState, is_created}
use Rattle.tup_graph.specs.Swap.{reading_now}
use Rattle.tup_refresh.specs.declared.refreshed.Refreshed.{Refreshed}

-- ---- what is kept

-- the reading that is kept of a folder and may stand: the folder isn't flagged
abbrev pub kept_reading : GraphState → Names → Option Reading
kept_reading g dir = if is_created g dir then None else finite.get g.readings dir

-- a reading of a folder is true beside these sources: over what it was told, in its order, the folder reads as these rules; and
-- it was told what stands at a path now, wherever that has the stamp that is kept
pub record IsTrueBeside (sources : Tree) (dir : Names) (left : Reading) : Type 0 where
  pub log : Log
  pub ran : Ran [] (reading dir) log (Ok left.drafts)
  pub noted : left.asked ≡ noted_log log
  pub contents : (path : Names) (content : Option Content) → Contains log (asks.Content path, told.Content content)
      → option_map stamp content ≡ option_map stamp (finite.get sources path) → content ≡ finite.get sources path

-- the kept readings that may stand are true
abbrev pub AreTrue : Tree → GraphState → Type 0
AreTrue sources g = (dir : Names) (left : Reading) → kept_reading g dir ≡ Some left → IsTrueBeside sources dir left

-- ---- what is read

-- something that a reading of a folder was told is answered otherwise
abbrev pub IsToldOtherwise : Tree → Entries → Readings → Names → Reading → Type 0
IsToldOtherwise sources settings readings dir left =
    (one : Question × Noted) × Contains left.asked one × (kept_as (answer sources settings readings dir one.0) ≢ one.1)

-- a folder is to be read: it has a Tupfile, and no reading of it is kept that may stand, or the kept one was told otherwise
abbrev pub IsDue : GraphState → Tree → Entries → Readings → Names → Type 0
IsDue g sources settings readings dir =
    IsTrue (has_tupfile sources dir)
    × ((kept_reading g dir ≡ None) ⊎ ((left : Reading) × (kept_reading g dir ≡ Some left) × IsToldOtherwise sources settings readings dir left))

-- ---- what it gives

-- the readings stand in the order of their folders, each once, and so do the fresh ones
pub record AreSorted (given : Refreshed) : Type 0 where
  pub all : IsTrue (finite.is_sorted by_names given.all)
  pub fresh : IsTrue (finite.is_sorted by_names given.fresh)

-- the folders among these that have no Tupfile
abbrev pub gone_among : Tree → List (Names × Reading) → List Names
gone_among sources kept = filter (λ dir. not (has_tupfile sources dir)) (map (λ (one : Names × Reading). one.0) kept)

-- all readings are those of the sources; the fresh ones are just those of the folders that are to be read, as all readings
-- answer; those of folders without a Tupfile are gone; and the kept ones with these are all
pub record AreRefreshed (g : GraphState) (sources : Tree) (settings : Entries) (given : Refreshed) : Type 0 where
  pub read : AreRead sources settings (Ok given.all)
  pub sorted : IsTrue (finite.is_sorted by_names given.fresh)
  pub due : (dir : Names) → IsSome (finite.get (finite.from_sorted {R = by_names} given.fresh) dir) ↔ IsDue g sources settings (finite.from_sorted given.all) dir
  pub gone : given.gone ≡ gone_among sources (finite.entries g.readings)
  pub together : (dir : Names) → finite.get (finite.from_sorted {R = by_names} given.all) dir ≡ reading_now g given.fresh given.gone dir

-- the same, or why there are no readings
abbrev pub IsRefreshOver : GraphState → Tree → Entries → Result Refreshed FoldersFault → Type 0
IsRefreshOver g sources settings (Ok given) = AreRefreshed g sources settings given
IsRefreshOver g sources settings (Err fault) = AreRead sources settings (Err fault)

-- where tup.config has a fault, that is told and nothing is read
abbrev pub IsRefreshWith : GraphState → Tree → Result Entries ConfigFault → Result Refreshed FoldersFault → Type 0
IsRefreshWith g sources (Ok settings) result = IsRefreshOver g sources settings result
IsRefreshWith g sources (Err fault) result = (result ≡ Err Memory) ⊎ (result ≡ Err (config_fault fault))

-- what comes of a refresh
abbrev pub IsRefresh : GraphState → Tree → Result Refreshed FoldersFault → Type 0
IsRefresh g sources result = IsRefreshWith g sources (settings_of sources) result

-- the readings that it gives
abbrev pub readings_of : Result Refreshed FoldersFault → Result (List (Names × Reading)) FoldersFault
readings_of (Ok given) = Ok given.all
readings_of (Err fault) = Err fault
