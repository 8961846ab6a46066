-- Places that are made durable in several threads. Own.
use Rattle.std.specs.Prelude.{◌≡◌, IfErr, String, string_bytes}
use Rattle.std.specs.Global.{Global}
use Rattle.std.specs.BTreeSet.{BTreeSet}
use Rattle.std.specs.List.{Any}
use Rattle.tup_disk.specs.Told.{IsUnsynced}
use Rattle.tup_disk.specs.declared.syncing.Job.{Job}

-- the place of a job is one of these
abbrev pub IsOneOf : BTreeSet (String Global) → Job → Type 0
IsOneOf places job = Any (λ (place : String Global). string_bytes place ≡ string_bytes job.place) places.keys

-- a job that was tried: if it was refused, its place wasn't made durable
abbrev pub IsTried : Job → Job → Type 0
IsTried job tried = IfErr tried.done (IsUnsynced (string_bytes job.place))
