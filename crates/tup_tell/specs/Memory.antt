-- What a sink in memory shows of itself.
use Rattle.std.specs.Prelude.{ℕ, List}
use Rattle.tup_tell.specs.declared.memory.MemSink.{MemSink}

-- all bytes that it was given
abbrev pub held_of : MemSink → List ℕ
held_of sink = sink.bytes

-- the numbers of the writes that fail
abbrev pub fails_of : MemSink → List ℕ
fails_of sink = sink.fails.items

-- how often it was written to
abbrev pub writes_of : MemSink → ℕ
writes_of sink = sink.writes

-- how many writes failed
abbrev pub faults_of : MemSink → ℕ
faults_of sink = sink.faults
