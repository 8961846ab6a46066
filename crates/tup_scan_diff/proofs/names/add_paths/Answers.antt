use Rattle.tup_scan_diff.proofs.Named.{paths_more}
use Rattle.tup_scan_diff.proofs.names.add_paths.Goals as goal

pub loop-path-preserved : goal.loop-path-preserved
loop-path-preserved c =
    let path = c.path-item.result in
    paths_more c.args.dir.now c.args.paths.now c.loop-path.path-index path path c.args.names.now c.loop-path.names c.add_path.new.names c.loop-path-test.true c.path-item.is c.loop-path.invariant c.in_ok-add_path.ensures.names
