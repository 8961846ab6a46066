use Rattle.std.proofs.Common.{◌≡◌, take, string_bytes}
use Rattle.tup_disk.specs.Place.{place_of}
use Rattle.tup_disk.proofs.disk.place_below.Given as goal

abbrev pub invariant-loop-name : goal.invariant-loop-name
invariant-loop-name l = string_bytes l.place ≡ place_of l.root (take l.name-index l.names)
