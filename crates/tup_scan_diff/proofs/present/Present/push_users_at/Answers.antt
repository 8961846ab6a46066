use Rattle.std.proofs.Common.{◌∙◌, ap}
use Rattle.std.proofs.lemmas.Result.{on_ok_weaker}
use Rattle.tup_scan_diff.specs.Touched.{file_of}
use Rattle.tup_scan_diff.proofs.Looking.{at_no_path, at_path}
use Rattle.tup_scan_diff.proofs.present.Present.push_users_at.Goals as goal

pub returns-in-Some-clause-roots : goal.returns-in-Some-clause-roots
returns-in-Some-clause-roots c = on_ok_weaker c.push_users.result
    (at_path c.args.self.now c.args.graph.now c.args.edit.now c.in-Some.path.now (c.in-Some.ensures ∙ ap file_of c.record_of.ensures)) c.push_users.ensures.roots

pub returns-in-None-clause-roots : goal.returns-in-None-clause-roots
returns-in-None-clause-roots c = at_no_path c.args.self.now c.args.graph.now c.args.edit.now (c.in-None.ensures ∙ ap file_of c.record_of.ensures)
