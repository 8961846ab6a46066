use Rattle.std.proofs.Common.{arith}
use Rattle.tup_core.proofs.WalkLaws.{raised_start, raised_next, raised_all}
use Rattle.tup_core.proofs.waiting.raise_all.Goals as goal

pub loop-at-init : goal.loop-at-init
loop-at-init c = raised_start c.args.readers.now c.args.reached.now c.args.entries.now c.requires.entries c.requires.down

pub raise_readers-requires-clause-entries : goal.raise_readers-requires-clause-entries
raise_readers-requires-clause-entries c = c.loop-at.invariant.many

pub loop-at-preserved : goal.loop-at-preserved
loop-at-preserved c = raised_next c.args.readers.now c.args.reached.now c.loop-at.at c.loop-at.entries c.raise_readers.new.entries c.loop-at.invariant c.raise_readers.ensures

pub returns : goal.returns
returns c = raised_all c.args.readers.now c.args.reached.now c.loop-at.entries c.loop-at.at c.requires.within c.requires.reached c.loop-at.invariant (omega arith)
