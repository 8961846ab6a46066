use Rattle.std.proofs.Common.{ap, sym, ◌∙◌, ◌++◌, List, map, take}
use Rattle.tup_rule.specs.declared.draft.Draft.{Draft}
use Rattle.tup_link.specs.Placed.{Placed, placed, placed_in}
use Rattle.tup_link.proofs.Finding.{placed_more}
use Rattle.tup_link.proofs.placed.all_placed.Goals as goal

pub loop-dir-preserved : goal.loop-dir-preserved
loop-dir-preserved c =
    let read = c.loop-dir-item.result in
    let front = placed (take c.loop-dir.dir-index c.args.readings.now) in
    c.in_ok-add.ensures
    ∙ ap (λ (l : List Placed). l ++ map (placed_in read.0) c.as_slice.result.now) c.loop-dir.invariant
    ∙ ap (λ (ds : List Draft). front ++ map (placed_in read.0) ds) c.as_slice.ensures
    ∙ sym (placed_more c.args.readings.now c.loop-dir.dir-index read c.loop-dir-test.true c.loop-dir-item.is)
