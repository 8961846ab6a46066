use Rattle.tup_scan_diff.proofs.Looking.{among_every}
use Rattle.tup_scan_diff.proofs.present.Present.every_root.Goals as goal

pub returns-clause-roots : goal.returns-clause-roots
returns-clause-roots c = among_every c.args.self.now _ _ c.new-roots.ensures c.in_ok-push_every.ensures.roots
