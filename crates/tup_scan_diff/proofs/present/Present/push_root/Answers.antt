use Rattle.tup_scan_diff.proofs.Looking.{root_pushed}
use Rattle.tup_scan_diff.proofs.present.Present.push_root.Goals as goal

pub returns-in_ok-push-clause-roots : goal.returns-in_ok-push-clause-roots
returns-in_ok-push-clause-roots c = root_pushed c.args.roots.now c.push.new.self c.args.number c.in_ok-push.ensures.ok (c.is_root.ensures.0 c.if-is_root.true)
