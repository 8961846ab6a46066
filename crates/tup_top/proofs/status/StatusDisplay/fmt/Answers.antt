use Rattle.tup_top.proofs.status.StatusDisplay.fmt.Goals as goal

-- src/status.rt:130:5
pub returns-in-Unwritten-clause-writes : goal.returns-in-Unwritten-clause-writes
returns-in-Unwritten-clause-writes g c = rw c.in-Unwritten.is c.write-in-Unwritten.ensures.writes
