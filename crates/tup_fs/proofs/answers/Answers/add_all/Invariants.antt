use Rattle.std.proofs.Common.{◌≡◌}
use Rattle.tup_fs.specs.Answers.{StayKnown}
use Rattle.tup_fs.proofs.answers.Answers.add_all.Given as goal

abbrev pub invariant-loop-file : goal.invariant-loop-file
invariant-loop-file l = StayKnown l.fn.self l.self × (l.self.is_listed ≡ l.fn.self.is_listed)
