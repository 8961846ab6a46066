-- Macros by their names. From the manual: a rule takes a macro by its name. Own: a name has one macro at most.
use Rattle.std.specs.Prelude.{◌≡◌, ℕ, List, Option, Some, bytes_eq, if◌then◌else◌}
use Rattle.std.specs.Map.{lookup}
use Rattle.tup_macro.specs.declared.macros.Macro.{Macro}

-- names with their macros, in the order of their definitions
abbrev pub Definitions : Type 0
Definitions = List (List ℕ × Macro)

-- the macro of a name
abbrev pub macro_of : Definitions → List ℕ → Option Macro
macro_of macros name = lookup (bytes_eq name) macros

-- a name has got a macro, and each other name has what it had
abbrev pub Defines : Definitions → Definitions → List ℕ → Macro → Type 0
Defines old new name body = (other : List ℕ) → macro_of new other ≡ (if bytes_eq name other then Some body else macro_of old other)
