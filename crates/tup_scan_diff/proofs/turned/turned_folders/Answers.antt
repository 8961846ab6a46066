use Rattle.std.proofs.lemmas.Result.{IfOk-weaker}
use Rattle.tup_path.specs.Name.{Names}
use Rattle.std.proofs.Common.{◌⊎◌}
use Rattle.std.specs.BTreeSet.{BTreeSet}
use Rattle.std.specs.Prelude.{◌↔◌}
use Rattle.tup_path.specs.Order.{by_names}
use Rattle.tup_scan_diff.specs.Present.{seeing, stamps_from}
use Rattle.tup_scan_diff.specs.Sets.{Has}
use Rattle.tup_scan_diff.specs.Turned.{AreTurned, IsLacking}
use Rattle.tup_scan_diff.proofs.Folders.{none_came, turned_are}
use Rattle.tup_scan_diff.proofs.turned.turned_folders.Goals as goal

pub returns-in-Edited-clause-turned : goal.returns-in-Edited-clause-turned
returns-in-Edited-clause-turned c =
    none_came c.args.nodes.now c.args.stamps.now c.new.result _ c.new.ensures.empty c.in-Edited.is c.requires.stamps

pub returns-in_ok-seen-in-Found-clause-turned : goal.returns-in_ok-seen-in-Found-clause-turned
returns-in_ok-seen-in-Found-clause-turned c =
    let nodes = c.args.nodes.now in
    let found = seeing nodes (stamps_from nodes c.args.stamps.now) in
    let before = c.in_ok-seen-in-Found.field-0.folders in
    let after = c.args.folders.now in
    IfOk-weaker c.in_one.result (λ (paths : BTreeSet Names). (path : Names) → Has by_names paths path ↔ (IsLacking before after.keys path ⊎ IsLacking after before.keys path)) (AreTurned nodes found)
    (λ paths just. turned_are nodes found before after paths c.in_ok-seen-in-Found.ensures.index.folders c.requires.folders just) c.in_one.ensures.paths
