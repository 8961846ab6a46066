use Rattle.std.proofs.Common.{sym}
use Rattle.std.proofs.lemmas.Bool.{true≢false}
use Rattle.tup_core.proofs.FilesLaws.{kept_all, kept_more, room_more}
use Rattle.tup_core.proofs.files.FileStamps.make_room.Goals as goal

pub loop-path-init : goal.loop-path-init
loop-path-init c = record { kept = kept_all c.args.self.now; room = λ path found. absurd (true≢false (sym found)) }

pub loop-path-preserved : goal.loop-path-preserved
loop-path-preserved c = record {
  kept = kept_more c.args.self.now c.loop-path.self c.make_one.new.self c.loop-path.invariant.kept c.in_ok-make_one.ensures.kept;
  room =
      room_more c.args.paths.now c.loop-path.path-index c.path-item.result c.loop-path.self c.make_one.new.self c.loop-path-test.true c.path-item.is c.in_ok-make_one.ensures.kept
      c.in_ok-make_one.ensures.room c.loop-path.invariant.room;
}

pub returns-clause-kept : goal.returns-clause-kept
returns-clause-kept c = c.loop-path.invariant.kept
