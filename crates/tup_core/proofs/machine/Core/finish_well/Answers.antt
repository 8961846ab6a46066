use Rattle.std.proofs.Common.{◌≡◌, List, true, ◌∙◌, ap, subst, refl, None}
use Rattle.std.specs.Vec.{with_item}
use Rattle.tup_path.specs.Name.{Names}
use Rattle.tup_stamp.specs.declared.Stamp.{Stamp}
use Rattle.tup_rule.specs.Rule.{among}
use Rattle.tup_access.specs.declared.verdict.Verdict.TheVariants.{Good}
use Rattle.tup_core.specs.declared.machine.Core.{Core}
use Rattle.tup_core.specs.Step.{with_stamps}
use Rattle.tup_core.specs.Files.{stamp_in, has_room, paths_in}
use Rattle.tup_core.proofs.StepLaws.{ends_within, ends_release, has_rooms, finished_well}
use Rattle.tup_core.proofs.machine.Core.finish_well.Goals as goal

pub complete-requires-clause-waiting : goal.complete-requires-clause-waiting
complete-requires-clause-waiting c = λ up.
    ends_release c.args.plan.now c.args.self.now c.args.at c.requires.core (ends_within c.args.plan.now c.args.self.now c.args.seat Good c.args.writes.now c.args.at c.requires.core c.requires.ends).0 up

pub set_all-requires : goal.set_all-requires
set_all-requires c = λ path found.
    ap (λ (core : Core). has_room core.files path) c.complete.ensures.rest
    ∙ has_rooms c.args.plan.now c.args.self.now c.args.seat c.args.writes.now c.args.at c.requires.core c.requires.ends path (subst (λ (l : List (Names × Stamp)). among path (paths_in l) ≡ true) c.as_slice.ensures found)

pub returns : goal.returns
returns c =
    finished_well c.args.plan.now c.args.self.now (record c.args.self.now { seats = with_item c.args.self.now.seats c.args.seat None }) c.complete.new.self (record c.complete.new.self { files = c.set_all.new.self }) c.args.seat c.args.at c.args.writes.now
    c.requires.core c.requires.ends refl c.complete.ensures c.set_all.ensures.first
    (λ path. c.set_all.ensures.stamps path ∙ ap (λ (l : List (Names × Stamp)). with_stamps (stamp_in c.complete.new.self.files) l path) c.as_slice.ensures)
    c.set_all.ensures.room
