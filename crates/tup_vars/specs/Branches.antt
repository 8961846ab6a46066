-- The conditionals that are open, from the outermost on. `else` and `endif` are the manual's, the limit and the refusals own.
use Rattle.std.specs.Prelude.{ℕ, ◌-◌, nat_lt, Bool, true, false, not, if◌then◌else◌, List, [], ◌∷◌, ◌++◌, length, take, slice_get, Some, None, Result, Ok, Err}
use Rattle.std.specs.List.{slice_set, list_all}
use Rattle.tup_vars.specs.declared.branches.Level.{Level}
use Rattle.tup_vars.specs.declared.fault.VarFault.{VarFault}
use Rattle.tup_vars.specs.declared.fault.VarFault.TheVariants.{TooDeep, StrayElse, StrayEndif, MissingEndif}

-- an open conditional by its line, whether it holds, and whether its `else` was there
abbrev pub level : ℕ → Bool → Bool → Level
level line on other = record { line = line; on = on; other = other }

-- one more conditional, whose `else` wasn't there yet
abbrev pub entered : List Level → ℕ → Bool → Result (List Level) VarFault
entered levels line on = if nat_lt (length levels) 64 then Ok (levels ++ level line on false ∷ []) else Err TooDeep

-- the innermost conditional at its `else`: what held doesn't, and the other way round
abbrev pub turned : List Level → Result (List Level) VarFault
turned levels = let last = length levels - 1 in elim (slice_get levels last) [
  | Some innermost ↦ if innermost.other then Err StrayElse else Ok (slice_set levels last (level innermost.line (not innermost.on) true))
  | None ↦ Err StrayElse
]

-- all conditionals but the innermost
abbrev pub left : List Level → Result (List Level) VarFault
left [] = Err StrayEndif
left (outermost ∷ more) = Ok (take (length more) (outermost ∷ more))

-- whether lines count: all open conditionals hold
abbrev pub all_on : List Level → Bool
all_on levels = list_all (λ one. one.on) levels

-- at the end of a file nothing may be open
abbrev pub ended : List Level → Result (Unit {0}) VarFault
ended [] = Ok tt
ended (outermost ∷ _) = Err (MissingEndif outermost.line)
