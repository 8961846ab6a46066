use Rattle.std.proofs.Common.{take}
use Rattle.tup_readings.specs.Done.{AreOutputs}
use Rattle.tup_readings.proofs.done.outputs_of.Given as goal

abbrev pub invariant-loop-draft : goal.invariant-loop-draft
invariant-loop-draft l = AreOutputs (take l.draft-index l.drafts) l.outputs
