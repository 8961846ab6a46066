-- The readings of a project's folders, each over the sources and the readings that it asks about, which stand before it. So no
-- folder waits for itself, over any number of folders. Folders are read in the order of their paths, but one that another waits
-- for before that one (own; what a reading is, is the manual's).
-- A circle is named from that of its folders on which was begun first.
use Rattle.std.specs.Prelude.{◌≡◌, ◌⊎◌, List, [], ◌∷◌, ◌++◌, codes, Some, None, Result, Ok, Err, IsTrue, IsSome}
use Rattle.std.specs.declared.cmp.Ordering.TheVariants.{Less}
use Rattle.std.specs.FinMap as finite
use Rattle.std.specs.List.{IsDistinct}
use Rattle.tup_path.specs.Name.{Names}
use Rattle.tup_path.specs.Order.{by_names, same_path}
use Rattle.tup_path.specs.Tree.{Tree}
use Rattle.tup_rule.specs.declared.question.Question.{Question}
use Rattle.tup_rule.specs.declared.question.Reading.{Reading}
use Rattle.tup_rule.specs.declared.question.Told.{Told}
use Rattle.tup_vars.specs.Table.{Entries}
use Rattle.tup_vars.specs.declared.fault.ConfigFault.{ConfigFault}
use Rattle.tup_vars.specs.declared.fault.ConfigFault.TheVariants as config
use Rattle.tup_query.specs.declared.fault.ParseFault.{ParseFault}
use Rattle.tup_query.specs.Log.{Log, Ran, Halts, told_before, noted_log}
use Rattle.tup_tupfile.specs.Reading.{reading}
use Rattle.tup_readings.specs.declared.fault.FoldersFault.{FoldersFault}
use Rattle.tup_readings.specs.declared.fault.FoldersFault.TheVariants.{Parse, Circular, Memory}
use Rattle.tup_readings.specs.Sources.{has_tupfile, settings_of}
use Rattle.tup_readings.specs.Answers.{Readings, awaited, answer}

module _ (sources : Tree) (settings : Entries) where
  -- what a reading of a folder was told is what sources and readings answer, and no answer waits for a reading
  abbrev pub IsAnswered : Readings → Names → Log → Type 0
  IsAnswered readings dir log = (question : Question) (told : Told) → told_before log question ≡ Some told
      → (awaited sources readings dir question ≡ None) × (told ≡ answer sources settings readings dir question)

  -- a folder's reading over the readings of others
  pub record IsReadingOver (readings : Readings) (dir : Names) (left : Reading) : Type 0 where
    pub log : Log
    pub answered : IsAnswered readings dir log
    pub ran : Ran [] (reading dir) log (Ok left.drafts)
    pub noted : left.asked ≡ noted_log log

  -- it ends with a fault
  pub record IsFaultOver (readings : Readings) (dir : Names) (fault : ParseFault) : Type 0 where
    pub has : IsTrue (has_tupfile sources dir)
    pub log : Log
    pub answered : IsAnswered readings dir log
    pub ran : Ran [] (reading dir) log (Err fault)

  -- it comes to a question whose answer waits for the reading of another folder
  pub record WaitsFor (readings : Readings) (dir next : Names) : Type 0 where
    pub has : IsTrue (has_tupfile sources dir)
    pub log : Log
    pub answered : IsAnswered readings dir log
    pub question : Question
    pub halts : Halts [] (reading dir) log question
    pub waits : awaited sources readings dir question ≡ Some next

  -- folders, the last one read first, and their readings, each over those before it
  abbrev pub AreReadings : List Names → Readings → Type 0
  AreReadings [] readings = readings ≡ finite.empty
  AreReadings (dir ∷ earlier) readings =
      (before : Readings) × (left : Reading) × AreReadings earlier before × IsTrue (has_tupfile sources dir)
      × (finite.get before dir ≡ None) × IsReadingOver before dir left × (readings ≡ finite.insert before dir left)

  -- readings of some folders
  abbrev pub AreSomeReadings : Readings → Type 0
  AreSomeReadings readings = (order : List Names) × AreReadings order readings

  -- the readings of all folders that have a Tupfile
  pub record AreAllReadings (readings : Readings) : Type 0 where
    pub some : AreSomeReadings readings
    pub all : (dir : Names) → IsTrue (has_tupfile sources dir) → IsSome (finite.get readings dir)

  -- each of these waits for the one behind it
  abbrev pub IsLine : Readings → List Names → Type 0
  IsLine readings [] = Unit {0}
  IsLine readings (dir ∷ []) = Unit {0}
  IsLine readings (dir ∷ next ∷ more) = WaitsFor readings dir next × IsLine readings (next ∷ more)

  -- all folders before the first of these, in the order of paths, are read
  abbrev pub IsTurn : Readings → List Names → Type 0
  IsTurn readings [] = Unit {0}
  IsTurn readings (first ∷ more) =
      (dir : Names) → IsTrue (has_tupfile sources dir) → by_names dir first ≡ Less → IsSome (finite.get readings dir)

  -- folders under way, over the readings so far: the first is that whose turn it is, and each waits for the one behind it
  pub record AreUnderWay (readings : Readings) (dirs : List Names) : Type 0 where
    pub some : AreSomeReadings readings
    pub turn : IsTurn readings dirs
    pub line : IsLine readings dirs

  -- the fault that is met first: the last folder under way ends with it
  pub record IsFirstFault (fault : ParseFault) : Type 0 where
    pub readings : Readings
    pub front : List Names
    pub dir : Names
    pub under_way : AreUnderWay readings (front ++ dir ∷ [])
    pub ends : IsFaultOver readings dir fault

  -- the circle that is met first: the last of the folders under way, of which none stands twice, waits for one of them, and the
  -- two or more from there on wait for each other
  pub record IsFirstCircle (dirs : List Names) : Type 0 where
    pub readings : Readings
    pub front : List Names
    pub first : Names
    pub inner : List Names
    pub last : Names
    pub are : dirs ≡ first ∷ inner ++ last ∷ []
    pub under_way : AreUnderWay readings (front ++ dirs)
    pub once : IsDistinct same_path (front ++ dirs)
    pub closes : WaitsFor readings last first

  -- what comes of reading all folders
  abbrev pub AreRead : Result (List (Names × Reading)) FoldersFault → Type 0
  AreRead (Ok list) = IsTrue (finite.is_sorted by_names list) × AreAllReadings (finite.from_sorted list)
  AreRead (Err (Parse fault)) = IsFirstFault fault
  AreRead (Err (Circular dirs)) = IsFirstCircle dirs
  AreRead (Err Memory) = Unit {0}

-- a fault of tup.config, as one of the top
abbrev pub config_fault : ConfigFault → FoldersFault
config_fault (config.At line kind) = Parse (record { dir = []; file = codes "tup.config" ∷ []; line = line; kind = kind })
config_fault config.Memory = Memory

-- what tup.config sets, or why it isn't told
abbrev pub IsConfig : Result Entries ConfigFault → Result Entries FoldersFault → Type 0
IsConfig found (Ok settings) = found ≡ Ok settings
IsConfig found (Err fault) = (fault ≡ Memory) ⊎ ((end : ConfigFault) × (found ≡ Err end) × (fault ≡ config_fault end))

-- the same with these settings; where tup.config has a fault, that is told and nothing is read
abbrev pub AreReadWith : Tree → Result Entries ConfigFault → Result (List (Names × Reading)) FoldersFault → Type 0
AreReadWith sources (Ok settings) result = AreRead sources settings result
AreReadWith sources (Err fault) result = (result ≡ Err Memory) ⊎ (result ≡ Err (config_fault fault))

-- what comes of reading all folders of some sources
abbrev pub IsOutcome : Tree → Result (List (Names × Reading)) FoldersFault → Type 0
IsOutcome sources result = AreReadWith sources (settings_of sources) result
