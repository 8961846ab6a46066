-- The settings that a text names (own).
use Rattle.std.specs.Prelude.{ℕ, if◌then◌else◌, List, Option, Some, None}
use Rattle.std.specs.List.{filter_map}
use Rattle.tup_vars.specs.Name.{is_name}
use Rattle.tup_vars.specs.Segments.{Segment, Setting, marked, opened, segments}

-- the name of a setting that a lookup is asked for
abbrev pub asked_name : Segment → Option (List ℕ)
asked_name (Setting name) = if is_name name then Some name else None
asked_name _ = None

-- that of the bracket that is closed behind a part of a text
abbrev pub closed_name : List ℕ → Option (List ℕ)
closed_name part = elim (opened part) [ Some (front, mark, name) ↦ asked_name (marked mark name) | None ↦ None ]

-- the names for which a lookup is asked where a text is expanded whole, in order
abbrev pub setting_names : List ℕ → List (List ℕ)
setting_names text = filter_map asked_name (segments text)
