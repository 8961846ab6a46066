-- Names with their values, in the order in which the names came first (own).
use Rattle.std.specs.Prelude.{ℕ, List, [], ◌∷◌, map, Option, None, Some, unwrap_or, bytes_eq, if◌then◌else◌, String, string_bytes}

-- names and their values
abbrev pub Entries : Type 0
Entries = List (List ℕ × List ℕ)

-- the value of a name
abbrev pub look : Entries → List ℕ → Option (List ℕ)
look [] name = None
look ((key, value) ∷ more) name = if bytes_eq name key then Some value else look more name

-- the value of a name, or the empty text
abbrev pub value_of : Entries → List ℕ → List ℕ
value_of entries name = unwrap_or (look entries name) []

-- a name with a value, in the place of the one that it had, or else at the end
abbrev pub put : Entries → List ℕ → List ℕ → Entries
put [] name value = (name, value) ∷ []
put ((key, old) ∷ more) name value = if bytes_eq name key then (key, value) ∷ more else (key, old) ∷ put more name value

-- the entries of a map whose keys are texts
abbrev pub named : {Y : Type 0} → List (String Y × List ℕ) → Entries
named all = map (λ entry. (string_bytes entry.0, entry.1)) all
