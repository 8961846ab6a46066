-- The changes of a table that edits come to (own): of each key the last one, in the byte order of keys, and none that
-- changes nothing.
use Rattle.std.specs.Prelude.{ℕ, Bool, not, List, Option, None, Some, filter, fold, map, bytes_eq}
use Rattle.std.specs.Option.{option_map, option_eq}
use Rattle.std.specs.FinMap as finite
use Rattle.tup_path.specs.Order.{by_bytes}
use Rattle.tup_table.specs.declared.change.Change.{Change}
use Rattle.tup_table.specs.declared.change.Change.TheVariants.{Put, Delete}
use Rattle.tup_table.specs.declared.entry.Entry.{Entry}
use Rattle.tup_table.specs.Entries.{Standing, entry_at, key_of, committed}
use Rattle.tup_graph.specs.declared.edit.Edit.{Edit}
use Rattle.tup_graph.specs.Edits.{change_of}

-- the value under a key
abbrev pub value_at : Standing → List ℕ → Option (List ℕ)
value_at entries key = option_map (λ (entry : Entry). entry.value) (entry_at entries key)

-- the value that a change leaves under its key
abbrev pub value_after : Change → Option (List ℕ)
value_after (Put key value) = Some value
value_after (Delete key) = None

-- the last of some changes of each key
abbrev pub last_changes : List Change → finite.FinMap by_bytes Change
last_changes changes = fold (λ last change. finite.insert last (key_of change) change) finite.empty changes

-- whether another value stands under the key of a change than it leaves
abbrev pub changes_it : Standing → Change → Bool
changes_it entries change = not (option_eq bytes_eq (value_at entries (key_of change)) (value_after change))

-- the changes that are to be written
abbrev pub needed : Standing → List Change → List Change
needed entries changes = filter (changes_it entries) (finite.values (last_changes changes))

-- what edits leave of the entries of a table, whose commit stands behind the gate at this offset
abbrev pub once_made : ℕ → Standing → List Edit → Standing
once_made origin entries edits = committed origin entries (needed entries (map change_of edits))
