use Rattle.tup_scan_diff.proofs.Stamped.{stamp_more}
use Rattle.tup_scan_diff.proofs.stamps.all_stamps.Goals as goal

pub loop-path-preserved : goal.loop-path-preserved
loop-path-preserved c =
    let file = c.loop-path-item.result in
    stamp_more c.args.files.now c.loop-path.path-index file file c.loop-path.stamps c.add_stamp.new.stamps c.loop-path-test.true c.loop-path-item.is c.loop-path.invariant c.in_ok-add_stamp.ensures.stamps
