-- Which Tupfiles an update reads, and which files it removes: just those that it has to (own).
use Rattle.std.specs.Prelude.{◌≡◌, ◌⊎◌, ◌↔◌, true, false, List, [], Option, None, Some, Ok, Contains, is_some}
use Rattle.std.specs.FinMap as finite
use Rattle.tup_path.specs.Name.{Names, Content}
use Rattle.tup_stamp.specs.declared.Stamp.{Stamp}
use Rattle.tup_site.specs.World.{World, TreeStays}
use Rattle.tup_rule.specs.Rule.{is_generated}
use Rattle.tup_rule.specs.declared.question.Reading.{Reading}
use Rattle.tup_rule.specs.declared.rule.Rule.{Rule}
use Rattle.tup_vars.specs.Table.{Entries}
use Rattle.tup_readings.specs.Readings.{AreRead}
use Rattle.tup_readings.specs.Sources.{settings_of}
use Rattle.tup_graph.specs.Answers.{tup_config}
use Rattle.tup_graph.specs.Graph.{GraphState, is_owned}
use Rattle.tup_graph.specs.Kept.{IsGraphIn}
use Rattle.tup_graph.specs.Reach.{stamp_in}
use Rattle.tup_graph.specs.Scan.{IsScanned}
use Rattle.tup_ledger.specs.Ascending.{IsAscending}
use Rattle.tup_ledger.specs.Sources.{sources_of}
use Rattle.tup_refresh.specs.Refresh.{IsDue as IsToRead}
use Rattle.tup_promise.specs.Kept.{AsksFor}
use Rattle.tup_promise.specs.declared.log.Log.{Log}
use Rattle.tup_promise.specs.declared.stop.Stop.{Stop}
use Rattle.tup_promise.specs.declared.stop.Stop.TheVariants.{NoStore, BadStore, Sources, UserFile, Bad, Run, Full, Outside}

-- ---- Tupfiles

-- a graph is the one that a scan leaves of another, which found this in tup.config
abbrev pub IsScannedFrom : GraphState → Option Content → GraphState → Type 0
IsScannedFrom old config new = (files : List (Names × Stamp)) × IsScanned old files config new

-- the graph of a world was scanned, and since then no file changed
pub record IsNoted (first now : World) (g : GraphState) : Type 0 where
  pub was : GraphState
  pub stored : IsGraphIn first.store was
  pub scanned : IsScannedFrom was (finite.get first.tree tup_config) g
  pub tree : TreeStays first now

-- The graph that the store of a world comes to once the files of that world are noted in it: it has seen each file as it is and no
-- others, and the folders and rules that this touches are marked.
pub record HasNoted (w : World) (g : GraphState) : Type 0 where
  pub noted : IsNoted w w g
  pub seen : (path : Names) → finite.get g.seen path ≡ stamp_in w.tree path

-- Just these folders are those of a world whose Tupfile has to be read, in the order of paths, each once: the folder has a Tupfile,
-- and once the files are noted it is marked, or no reading of it is kept, or the kept one was told something else than the sources
-- and the readings of all folders answer.
pub record ReadsWhatIsDue (w : World) (read : List Names) : Type 0 where
  pub graph : GraphState
  pub noted : HasNoted w graph
  -- what tup.config sets, and the readings of all folders
  pub settings : Entries
  pub config : settings_of (sources_of graph w.tree) ≡ Ok settings
  pub readings : List (Names × Reading)
  pub are : AreRead (sources_of graph w.tree) settings (Ok readings)
  pub ascend : IsAscending read
  pub just : (dir : Names) → Contains read dir ↔ IsToRead graph (sources_of graph w.tree) settings (finite.from_sorted readings) dir

-- ---- files

-- A path of which an update that begins in a world removes the file: it is owned there, a file stands there, and none of the rules
-- makes it that the sources ask for.
pub record IsToRemove (w : World) (path : Names) : Type 0 where
  pub graph : GraphState
  pub stored : IsGraphIn w.store graph
  pub owned : is_owned graph path ≡ true
  pub stands : is_some (finite.get w.tree path) ≡ true
  pub rules : List Rule
  pub asked : AsksFor w rules
  pub unmade : is_generated rules path ≡ false

-- just these are such paths, in their order, each once
pub record RemovesWhatIsUnmade (w : World) (removed : List Names) : Type 0 where
  pub ascend : IsAscending removed
  pub just : (path : Names) → Contains removed path ↔ IsToRemove w path

-- ---- a log

-- no Tupfile was read, and no file was removed
abbrev pub DidNeither : Log → Type 0
DidNeither log = (log.read ≡ []) × (log.removed ≡ [])

-- all Tupfiles were read that had to be, and no file was removed
abbrev pub OnlyRead : World → Log → Type 0
OnlyRead w log = ReadsWhatIsDue w log.read × (log.removed ≡ [])

-- all Tupfiles were read that had to be, and all files were removed that had to be
abbrev pub DidBoth : World → Log → Type 0
DidBoth w log = ReadsWhatIsDue w log.read × RemovesWhatIsUnmade w log.removed

-- What the log of an update that began in a world says of both, by why it stopped. One that came to its rules did both before. What
-- the Tupfiles come to is known before any of them is logged, and a file of the user's is met before any is removed. Something
-- outside may stop an update before, between and after; files whose removal it cut off aren't logged.
abbrev pub ReadAndRemoved : World → Log → Option Stop → Type 0
ReadAndRemoved w log None = DidBoth w log
ReadAndRemoved w log (Some NoStore) = DidNeither log
ReadAndRemoved w log (Some (BadStore offset)) = DidNeither log
ReadAndRemoved w log (Some (Sources fault)) = DidNeither log
ReadAndRemoved w log (Some (UserFile path written found)) = OnlyRead w log
ReadAndRemoved w log (Some (Bad name verdict)) = DidBoth w log
ReadAndRemoved w log (Some Run) = DidBoth w log
ReadAndRemoved w log (Some Full) = DidNeither log ⊎ OnlyRead w log ⊎ DidBoth w log
ReadAndRemoved w log (Some (Outside failed)) = DidNeither log ⊎ OnlyRead w log ⊎ DidBoth w log
