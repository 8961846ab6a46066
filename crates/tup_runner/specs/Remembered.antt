-- Asks as snapshots remember them, for contracts alone.
use Rattle.std.specs.Prelude.{ℕ, List}
use Rattle.std.specs.declared.snapshot.Snapshot.{Snapshot}
use Rattle.tup_runner.specs.declared.step.Answer.{Answer}

-- one ask with its answer
abbrev pub remembered : Snapshot (List ℕ) × Snapshot Answer → List ℕ × Answer
remembered ask = (ask.0.value, ask.1.value)
