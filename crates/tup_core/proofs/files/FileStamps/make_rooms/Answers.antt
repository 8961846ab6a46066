use Rattle.std.proofs.Common.{◌≡◌, ◌<◌, ◌≤◌, ℕ, ◌∙◌, List, get_or, length, true, sym, ap, subst, arith}
use Rattle.std.proofs.lemmas.Bool.{true≢false}
use Rattle.std.proofs.lemmas.List.{take_all}
use Rattle.tup_path.specs.Name.{Names}
use Rattle.tup_rule.specs.declared.rule.Rule.{Rule}
use Rattle.tup_rule.specs.Rule.{among}
use Rattle.tup_core.specs.Files.{HasRoomFor}
use Rattle.tup_core.specs.Links.{is_one_of}
use Rattle.tup_core.proofs.FilesLaws.{kept_all, kept_more, rooms_more}
use Rattle.tup_core.proofs.MachineLaws.{next_is, next_reached}
use Rattle.tup_core.proofs.StepLaws.{rule_got}
use Rattle.tup_core.proofs.files.FileStamps.make_rooms.Goals as goal

pub bounds-as_slice-at : goal.bounds-as_slice-at
bounds-as_slice-at c =
    subst (λ (l : List Rule). get_or c.as_slice-at-items.result.now c.loop-at.at-index 0 < length l) (sym c.as_slice.ensures)
    (next_reached c.args.plan.now c.as_slice-at-items.result.now c.loop-at.at-index c.requires c.as_slice-at-items.ensures c.loop-at-test.true)

pub loop-at-init : goal.loop-at-init
loop-at-init c = record { kept = kept_all c.args.self.now; room = λ number rule path found. absurd (true≢false (sym found)) }

pub loop-at-preserved : goal.loop-at-preserved
loop-at-preserved c =
    let plan = c.args.plan.now in
    let list = c.as_slice-at-items.result.now in
    let i = c.loop-at.at-index in
    let at = get_or list i 0 in
    let rule = c.index-as_slice-at.result in
    let next = next_is plan list i c.as_slice-at-items.ensures c.loop-at-test.true in
    let within = next_reached plan list i c.requires c.as_slice-at-items.ensures c.loop-at-test.true in
    let placed = rule_got plan.rules c.as_slice.result.now at rule c.as_slice.ensures within c.index-as_slice-at.is in
    let outputs = c.as_slice-in-loop-at.ensures ∙ ap (λ (r : Rule). r.outputs) (sym c.index-as_slice-at.is) in
    record {
      kept = kept_more c.args.self.now c.loop-at.self c.make_room.new.self c.loop-at.invariant.kept c.in_ok-make_room.ensures.kept;
      room =
          rooms_more plan.rules plan.reach i at rule c.loop-at.self c.make_room.new.self (subst (λ (l : List ℕ). i < length l) c.as_slice-at-items.ensures c.loop-at-test.true) next placed c.in_ok-make_room.ensures.kept
          (λ path written. c.in_ok-make_room.ensures.room path (subst (λ (l : List Names). among path l ≡ true) (sym outputs) written)) c.loop-at.invariant.room;
    }

pub returns-clause-kept : goal.returns-clause-kept
returns-clause-kept c = c.loop-at.invariant.kept

pub returns-clause-room : goal.returns-clause-room
returns-clause-room c =
    let plan = c.args.plan.now in
    let past : length plan.reach ≤ c.loop-at.at-index = (let long = ap length c.as_slice-at-items.ensures in omega (arith, long, c.loop-at-test.false)) in
    subst (λ (l : List ℕ). HasRoomFor plan.rules (is_one_of l) c.loop-at.self) (take_all c.loop-at.at-index plan.reach past) c.loop-at.invariant.room
