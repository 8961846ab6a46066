use Rattle.std.proofs.Common.{◌-◌, length, map, take, string_bytes}
use Rattle.std.specs.Vec.Iter.{into_iter_items}
use Rattle.tup_disk.specs.Place.{places_to}
use Rattle.tup_disk.specs.Told.{IsBarredAbove}
use Rattle.tup_disk.specs.declared.failure.Refused.{Refused}
use Rattle.tup_disk.proofs.disk.Disk.look_above.Given as goal

abbrev pub invariant-loop-folder : goal.invariant-loop-folder
invariant-loop-folder g l = (refused : Refused) → IsBarredAbove (map string_bytes (into_iter_items l.folder-iterator)) refused
    → IsBarredAbove (places_to (string_bytes l.self.root) (take (length l.path - 1) l.path)) refused
