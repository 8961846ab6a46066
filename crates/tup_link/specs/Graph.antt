-- A graph: a list for each place of the places to which it leads (own).
use Rattle.std.specs.Prelude.{ℕ, zero, suc, ◌<◌, List, [], length, slice_get, unwrap_or, Contains}

-- the places to which a place leads
abbrev pub led_to : List (List ℕ) → ℕ → List ℕ
led_to graph at = unwrap_or (slice_get graph at) []

-- a place leads to another
abbrev pub Leads : List (List ℕ) → ℕ → ℕ → Type 0
Leads graph at next = Contains (led_to graph at) next

-- the same over so many places between the two
abbrev pub LeadsOver : ℕ → List (List ℕ) → ℕ → ℕ → Type 0
LeadsOver zero graph at end = Leads graph at end
LeadsOver (suc between) graph at end = (next : ℕ) × Leads graph at next × LeadsOver between graph next end

-- no place leads outside
abbrev pub IsWithin : List (List ℕ) → Type 0
IsWithin graph = (at next : ℕ) → Leads graph at next → next < length graph

-- no place leads to itself, over whatever places between
abbrev pub HasNoCircle : List (List ℕ) → Type 0
HasNoCircle graph = (at between : ℕ) → LeadsOver between graph at at → ⊥
