-- What the commits of a store leave (own): under each key the last value that was put there and not deleted since, in
-- the byte order of keys.
use Rattle.std.specs.Prelude.{◌≡◌, ℕ, ◌+◌, List, [], ◌∷◌, length, Option}
use Rattle.std.specs.List.{AllByRecursion}
use Rattle.std.specs.declared.cmp.Ordering.TheVariants.{Less}
use Rattle.std.specs.BTreeMap.{insert_entry, is_at}
use Rattle.std.specs.Map.{lookup, remove_entry}
use Rattle.tup_path.specs.Order.{by_bytes}
use Rattle.tup_table.specs.declared.change.Change.{Change}
use Rattle.tup_table.specs.declared.change.Change.TheVariants.{Put, Delete}
use Rattle.tup_table.specs.declared.entry.Entry.{Entry}
use Rattle.tup_table.specs.Spelling.{commit}

-- keys with what stands under them
abbrev pub Standing : Type 0
Standing = List (List ℕ × Entry)

-- what stands under a key
abbrev pub entry_at : Standing → List ℕ → Option Entry
entry_at entries key = lookup (is_at (by_bytes key)) entries

-- the key that a change is about
abbrev pub key_of : Change → List ℕ
key_of (Put key value) = key
key_of (Delete key) = key

-- the keys ascend in byte order, so each stands once
abbrev pub IsAscending : {X : Type 0} → List (List ℕ × X) → Type 0
IsAscending [] = Unit {0}
IsAscending (first ∷ more) = AllByRecursion (λ later. by_bytes first.0 later.0 ≡ Less) more × IsAscending more

-- what a change leaves, in a commit behind the gate at this offset
abbrev pub changed : ℕ → Standing → Change → Standing
changed origin entries (Put key value) = insert_entry by_bytes entries key (record { value = value; origin = origin })
changed origin entries (Delete key) = remove_entry (is_at (by_bytes key)) entries

-- what changes leave, one after another
abbrev pub committed : ℕ → Standing → List Change → Standing
committed origin entries [] = entries
committed origin entries (change ∷ changes) = committed origin (changed origin entries change) changes

-- what commits leave, the first of them behind the gate at this offset
abbrev pub left_from : ℕ → Standing → List (List Change) → Standing
left_from gate entries [] = entries
left_from gate entries (changes ∷ commits) = left_from (gate + (1 + length (commit changes))) (committed gate entries changes) commits

-- what the commits of a low area leave
abbrev pub entries_of : List (List Change) → Standing
entries_of commits = left_from 17 [] commits
