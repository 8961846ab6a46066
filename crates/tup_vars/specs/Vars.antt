-- What the variables of a Tupfile are set to. How values are joined is the manual's; what is refused is own.
-- A lookup that finds no memory has stopped. The blank before added text counts.
use Rattle.std.specs.Prelude.{ℕ, nat_lt, Bool, if◌then◌else◌, List, [], ◌∷◌, ◌++◌, length, Result, Ok, Err}
use Rattle.tup_vars.specs.Name.{is_free}
use Rattle.tup_vars.specs.Table.{Entries, put, value_of}
use Rattle.tup_vars.specs.declared.fault.VarFault.{VarFault}
use Rattle.tup_vars.specs.declared.fault.VarFault.TheVariants.{BadName, TooLong}

-- whether so many bytes are more than a value, or an expanded text, may have
abbrev pub is_too_long : ℕ → Bool
is_too_long bytes = nat_lt 1048576 bytes

-- a variable set to a text
abbrev pub set_to : Entries → List ℕ → List ℕ → Result Entries VarFault
set_to variables name value = if is_free name then Ok (put variables name value) else Err BadName

-- what stands between a value and a text that is put behind it: one space, and nothing behind an empty value
abbrev pub joint : List ℕ → List ℕ
joint [] = []
joint (_ ∷ _) = 32 ∷ []

-- a value with a text behind it
abbrev pub appended : List ℕ → List ℕ → List ℕ
appended value text = value ++ (joint value ++ text)

-- a text put behind the value of a variable
abbrev pub appending : Entries → List ℕ → List ℕ → Result Entries VarFault
appending variables name text =
    let value = appended (value_of variables name) text in
    if is_free name then (if is_too_long (length value) then Err TooLong else Ok (put variables name value)) else Err BadName
