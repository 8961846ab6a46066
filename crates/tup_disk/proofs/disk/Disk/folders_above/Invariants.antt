use Rattle.std.proofs.Common.{◌≡◌, take, map, string_bytes}
use Rattle.tup_disk.specs.Place.{places_to}
use Rattle.tup_disk.proofs.disk.Disk.folders_above.Given as goal

abbrev pub invariant-loop-last : goal.invariant-loop-last
invariant-loop-last g l = map string_bytes l.folders.items ≡ places_to (string_bytes l.self.root) (take l.last l.path)
