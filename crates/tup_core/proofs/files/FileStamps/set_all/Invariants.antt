use Rattle.std.proofs.Common.{◌≡◌, take}
use Rattle.tup_path.specs.Name.{Names}
use Rattle.tup_core.specs.Step.{with_stamps}
use Rattle.tup_core.specs.Files.{stamp_in, has_room}
use Rattle.tup_core.proofs.files.FileStamps.set_all.Given as goal

abbrev pub invariant-loop-path : goal.invariant-loop-path
invariant-loop-path l = record {
  first : l.self.first ≡ l.fn.self.first;
  stamps : (path : Names) → stamp_in l.self path ≡ with_stamps (stamp_in l.fn.self) (take l.path-index l.files) path;
  room : (path : Names) → has_room l.self path ≡ has_room l.fn.self path;
}
