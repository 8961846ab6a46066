use Rattle.std.proofs.Common.{◌≡◌, true, take}
use Rattle.tup_path.specs.Name.{Names}
use Rattle.tup_rule.specs.Rule.{among}
use Rattle.tup_core.specs.Files.{has_room, AreKept}
use Rattle.tup_core.proofs.files.FileStamps.make_room.Given as goal

abbrev pub invariant-loop-path : goal.invariant-loop-path
invariant-loop-path l = record {
  kept : AreKept l.fn.self l.self;
  room : (path : Names) → among path (take l.path-index l.paths) ≡ true → has_room l.self path ≡ true;
}
