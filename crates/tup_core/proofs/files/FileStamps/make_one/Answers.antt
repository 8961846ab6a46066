use Rattle.std.proofs.Common.{◌∙◌, ap, sym, refl}
use Rattle.tup_core.specs.Files.{stamp_since}
use Rattle.tup_core.proofs.FilesLaws.{kept_one, room_stays, room_here}
use Rattle.tup_core.proofs.files.FileStamps.make_one.Goals as goal

pub returns-clause-kept : goal.returns-clause-kept
returns-clause-kept c = record {
  first = refl;
  stamps = λ q.
      kept_one c.in_ok-clone.field-0 q c.since-stamp.result _ _ _ (λ same. c.since-stamp.ensures ∙ ap (stamp_since c.args.self.now) (sym (same ∙ c.in_ok-clone.ensures.cases)))
      (c.in_ok-insert.ensures.updates.0 q);
  room = λ q had. room_stays _ _ _ _ (c.in_ok-insert.ensures.updates.0 q) had;
}

pub returns-clause-room : goal.returns-clause-room
returns-clause-room c = room_here c.in_ok-clone.field-0 c.args.path.now c.since-stamp.result _ _ c.in_ok-clone.ensures.cases (c.in_ok-insert.ensures.updates.0 c.args.path.now)
