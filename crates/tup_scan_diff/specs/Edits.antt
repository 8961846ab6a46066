-- The edits that a scan makes of a graph (own).
use Rattle.std.specs.Prelude.{◌≡◌, ◌↔◌, Bool, false, not, ℕ, List, ◌++◌, Option, None, Some, Contains, is_none, map, filter, bytes_eq}
use Rattle.std.specs.FinMap as finite
use Rattle.std.specs.List.Sorted.{IsStrictlySortedBy}
use Rattle.std.specs.Ordering.{nat_cmp}
use Rattle.tup_path.specs.Name.{Names, Content}
use Rattle.tup_path.specs.Order.{by_names}
use Rattle.tup_stamp.specs.declared.Stamp.{Stamp}
use Rattle.tup_record.specs.declared.record.Record.TheVariants as records
use Rattle.tup_graph.specs.declared.edit.Edit.{Edit}
use Rattle.tup_graph.specs.declared.edit.Edit.TheVariants.{Put, Remove}
use Rattle.tup_graph.specs.Above.{IsAbove}
use Rattle.tup_graph.specs.Graph.{GraphState, is_flagged, is_created}
use Rattle.tup_graph.specs.Scan.{IsStale}
use Rattle.tup_graph.specs.Transactions.{seen_so, flag_edits}
use Rattle.tup_scan_diff.specs.Present.{seeing}
use Rattle.tup_scan_diff.specs.Touched.{IsScanRoot}

-- whether a file was seen with this stamp
abbrev pub is_same : Option Stamp → Stamp → Bool
is_same None stamp = false
is_same (Some seen) stamp = bytes_eq seen.0 stamp.0

-- whether a file is new, or has another stamp
abbrev pub is_news : GraphState → Names × Stamp → Bool
is_news g file = not (is_same (finite.get g.seen file.0) file.1)

-- whether a file that was seen is gone
abbrev pub is_gone : finite.FinMap by_names Stamp → Names × Stamp → Bool
is_gone stamps file = is_none (finite.get stamps file.0)

-- a file is seen no longer
abbrev pub not_seen : Names × Stamp → Edit
not_seen file = Remove (records.Seen file.0 file.1)

-- those of some files that are new, or have another stamp, are seen with these
abbrev pub news_edits : GraphState → List (Names × Stamp) → List Edit
news_edits g files = map seen_so (filter (is_news g) files)

-- those of some files that are gone are seen no longer
abbrev pub gone_edits : finite.FinMap by_names Stamp → List (Names × Stamp) → List Edit
gone_edits stamps files = map not_seen (filter (is_gone stamps) files)

-- files are seen with these stamps, and no others are
abbrev pub seen_edits : GraphState → finite.FinMap by_names Stamp → List Edit
seen_edits g stamps = news_edits g (finite.entries stamps) ++ gone_edits stamps (finite.entries g.seen)

-- a folder is to be read
abbrev pub to_read : Names → Edit
to_read dir = Put (records.Create dir)

-- folders are to be read, those aside that are so already
abbrev pub create_edits : GraphState → List Names → List Edit
create_edits g dirs = map to_read (filter (λ dir. not (is_created g dir)) dirs)

-- rules are to be run, those aside that are so already
abbrev pub modify_edits : GraphState → List ℕ → List Edit
modify_edits g numbers = flag_edits (filter (λ number. not (is_flagged g number)) numbers)

-- a rule with which a scan that found these files begins
abbrev pub BeginsScan : GraphState → List (Names × Stamp) → ℕ → Type 0
BeginsScan g files = IsScanRoot g (seeing g (finite.from_entries files))

-- all of it: of each key one edit, and none that changes nothing
pub record AreScanEdits (g : GraphState) (files : List (Names × Stamp)) (config : Option Content) (edits : List Edit) : Type 0 where
  pub dirs : List Names
  pub numbers : List ℕ
  pub stale : (dir : Names) → Contains dirs dir ↔ IsStale (seeing g (finite.from_entries files)) config dir
  pub dirs_once : IsStrictlySortedBy by_names dirs
  pub above : (number : ℕ) → Contains numbers number ↔ IsAbove (seeing g (finite.from_entries files)) (BeginsScan g files) number
  pub numbers_once : IsStrictlySortedBy nat_cmp numbers
  pub all : edits ≡ seen_edits g (finite.from_entries files) ++ create_edits g dirs ++ modify_edits g numbers
