use Rattle.std.proofs.Common.{take}
use Rattle.tup_core.specs.Files.{AreKept, HasRoomFor}
use Rattle.tup_core.specs.Links.{is_one_of}
use Rattle.tup_core.proofs.files.FileStamps.make_rooms.Given as goal

abbrev pub invariant-loop-at : goal.invariant-loop-at
invariant-loop-at l = record {
  kept : AreKept l.fn.self l.self;
  room : HasRoomFor l.plan.rules (is_one_of (take l.at-index l.plan.reach)) l.self;
}
