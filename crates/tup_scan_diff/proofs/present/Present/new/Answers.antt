use Rattle.std.proofs.Common.{List, ap, subst, ◌∙◌}
use Rattle.std.specs.FinMap as finite
use Rattle.tup_path.specs.Name.{Names}
use Rattle.tup_path.specs.Order.{by_names}
use Rattle.tup_stamp.specs.declared.Stamp.{Stamp}
use Rattle.tup_scan_diff.specs.Index.{IsIndexOf, IsSourceAmong}
use Rattle.tup_scan_diff.specs.Present.{stamps_from}
use Rattle.tup_scan_diff.proofs.Founding.{index_found, present_is}
use Rattle.tup_scan_diff.proofs.present.Present.new.Goals as goal

pub turned_folders-requires-clause-folders : goal.turned_folders-requires-clause-folders
turned_folders-requires-clause-folders c = λ path.
    (index_found c.args.nodes.now (stamps_from c.args.nodes.now c.in_ok-stamps.stamps) c.args.seen.now.files c.in_ok-index.index
    (c.in_ok-stamps.ensures.stamps ∙ ap (λ (l : List (Names × Stamp)). finite.from_entries {R = by_names} l) c.as_slice.ensures)
    (subst (λ (l : List (Names × Stamp)). IsIndexOf (IsSourceAmong c.args.nodes.now l) c.in_ok-index.index) c.as_slice-2.ensures c.in_ok-index.ensures.index)).folders path

pub returns-clause-present : goal.returns-clause-present
returns-clause-present c =
    present_is (record { nodes = c.args.nodes; stamps = c.in_ok-stamps.stamps; index = c.in_ok-index.index; turned = c.in_ok-turned.turned; parents = c.in_ok-parents.parents; made = c.in_ok-made.made; settings = c.in_ok-settings.settings }) c.args.seen.now.files c.args.seen.now.config c.in_ok-stamp.stamp
    (c.in_ok-stamps.ensures.stamps ∙ ap (λ (l : List (Names × Stamp)). finite.from_entries {R = by_names} l) c.as_slice.ensures)
    (subst (λ (l : List (Names × Stamp)). IsIndexOf (IsSourceAmong c.args.nodes.now l) c.in_ok-index.index) c.as_slice-2.ensures c.in_ok-index.ensures.index)
    c.in_ok-parents.ensures.parents c.in_ok-made.ensures.made c.in_ok-stamp.ensures.stamp c.in_ok-settings.ensures.settings
