use Rattle.std.proofs.Common.{◌≡◌, true, Some, subst}
use Rattle.tup_path.specs.Name.{Names}
use Rattle.tup_core.specs.Files.{has_room}
use Rattle.tup_core.proofs.FilesLaws.{put_one, room_same}
use Rattle.tup_core.proofs.files.FileStamps.set.Goals as goal

pub returns-in-Some-clause-stamps : goal.returns-in-Some-clause-stamps
returns-in-Some-clause-stamps c = λ q. put_one c.args.path.now q c.args.stamp _ _ _ (((c.get_mut.follows.holds (Some c.args.stamp)).3 c.requires).0 q)

pub returns-in-Some-clause-room : goal.returns-in-Some-clause-room
returns-in-Some-clause-room c = λ q.
    room_same c.args.path.now q (Some c.args.stamp) _ _
    (λ same. subst (λ (p : Names). has_room c.args.self.now p ≡ true) same c.requires)
    (((c.get_mut.follows.holds (Some c.args.stamp)).3 c.requires).0 q)
