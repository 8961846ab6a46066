use Rattle.tup_clean.specs.Queue.{IsFilled}
use Rattle.tup_clean.proofs.queue.Queue.new.Given as goal

abbrev pub invariant-loop-rule : goal.invariant-loop-rule
invariant-loop-rule l = IsFilled l.rules l.rule-index l.queue
