use Rattle.std.proofs.Common.{◌≡◌, List, None, Option, ap, sym, ◌∙◌}
use Rattle.tup_path.specs.Name.{Names}
use Rattle.tup_stamp.specs.declared.Stamp.{Stamp}
use Rattle.tup_core.specs.Step.{State, with_stamps}
use Rattle.tup_core.proofs.Entries.{stamps_of_entries}
use Rattle.tup_core.proofs.SeenLaws.{first_seen}
use Rattle.tup_schedule.specs.Course.{CourseState}
use Rattle.tup_schedule.proofs.Views.{now_is}
use Rattle.tup_schedule.proofs.course.Course.file.Goals as goal

pub file-requires : goal.file-requires
file-requires c =
    let path = c.args.path.now in
    let files_are = c.self.invariant.by_files ∙ ap (λ (course : CourseState). course.files) c.self.view_is in
    first_seen c.self.inside.core.files path c.args.seen
    (c.requires ∙ ap (λ (files : List (Names × Stamp)). with_stamps (λ _. None) files path) (sym files_are) ∙ stamps_of_entries c.self.inside.core.files.first.value path)

pub returns : goal.returns
returns c = c.file.ensures ∙ ap (λ (s : State). s.files c.args.path.now) (now_is _ _ _ _ _ _ c.self.invariant c.self.view_is)
