-- Records that a graph takes last: files that were seen, and owned paths (own). As their keys differ, the order in which they
-- are put in doesn't matter.
use Rattle.std.specs.Prelude.{◌≡◌, ◌≢◌, ◌⊎◌, List, [], ◌∷◌, ◌++◌}
use Rattle.std.specs.List.{AllByRecursion}
use Rattle.tup_record.specs.declared.record.Record.{Record}
use Rattle.tup_record.specs.declared.record.Record.TheVariants as records
use Rattle.tup_record.specs.Spelling.{key_of}
use Rattle.tup_graph.specs.declared.late.Late.{Late}
use Rattle.tup_graph.specs.declared.late.Late.TheVariants.{Seen, Owned}
use Rattle.tup_graph.specs.Graph.{GraphState}
use Rattle.tup_graph.specs.Opening.{put}

-- the record
abbrev pub late_record : Late → Record
late_record (Seen path stamp) = records.Seen path stamp
late_record (Owned path owned) = records.Owned path owned.maker owned.state

-- a graph with records, one after another
abbrev pub with_late : GraphState → List Late → GraphState
with_late g [] = g
with_late g (late ∷ more) = with_late (put g (late_record late)) more

-- a record is put into a graph, or held behind those that are put in last
abbrev pub IsHeld : Record → GraphState → List Late → GraphState → List Late → Type 0
IsHeld r g late new later = ((new ≡ put g r) × (later ≡ late)) ⊎ ((one : Late) × (new ≡ g) × (r ≡ late_record one) × (later ≡ late ++ one ∷ []))

-- the records have keys that differ
abbrev pub AreApart : List Late → Type 0
AreApart [] = Unit {0}
AreApart (late ∷ more) = AllByRecursion (λ (other : Late). key_of (late_record late) ≢ key_of (late_record other)) more × AreApart more
