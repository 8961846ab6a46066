use Rattle.std.proofs.Common.{◌∙◌, ap}
use Rattle.std.specs.FinMap as finite
use Rattle.tup_path.specs.Name.{Names}
use Rattle.tup_scan_diff.proofs.Making.{outputs_set}
use Rattle.tup_scan_diff.proofs.made.Made.give.Goals as goal

pub returns-clause-given : goal.returns-clause-given
returns-clause-given c = (
  c.add_made.new.outputs,
  outputs_set c.args.drafts.now c.new-outputs.result c.add_made.new.outputs c.new-outputs.ensures.empty c.in_ok-add_made.ensures.outputs,
  c.in_ok-insert.ensures.ok ∙ ap (λ (p : Names). finite.insert c.args.self.now.outputs p c.add_made.new.outputs) c.in_ok-clone.ensures.cases,
)
