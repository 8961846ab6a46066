-- What reporters are told, and why they aren't (own).
use Rattle.std.specs.Prelude.{◌≡◌, ◌⊎◌, ℕ, Bool, true, false, List, [], ◌∷◌, ◌++◌, count_by, Result, Err}
use Rattle.tup_path.specs.Count.{Rose}
use Rattle.tup_tell.specs.declared.event.Event.{Event}
use Rattle.tup_tell.specs.declared.event.Event.TheVariants.{Read, Removed, Started, Ended}
use Rattle.tup_tell.specs.declared.reporter.TellFailed.{TellFailed}
use Rattle.tup_tell.specs.declared.reporter.TellFailed.TheVariants as told
use Rattle.tup_tell.specs.declared.sink.SinkFailed.{SinkFailed}
use Rattle.tup_tell.specs.declared.tally.Kind.{Kind}
use Rattle.tup_tell.specs.declared.tally.Kind.TheVariants as kind
use Rattle.tup_tell.specs.declared.sink.SinkFailed.TheVariants as sink

-- a reporter's count of faults rises where it answers Fault, and at no other answer
abbrev pub FailsByCount : {T : Type 0} → ℕ → ℕ → Result T TellFailed → Type 0
FailsByCount before now (Err told.Fault) = Rose before now
FailsByCount before now result = now ≡ before

-- a refusal of a sink, as its reporter answers it
abbrev pub of_sink : SinkFailed → TellFailed
of_sink sink.Fault = told.Fault
of_sink sink.Memory = told.Memory

-- ---- events by their kind
-- that a folder's source was read
abbrev pub is_read : Event → Bool
is_read (Read dir) = true
is_read other = false

-- that an output was removed
abbrev pub is_removed : Event → Bool
is_removed (Removed path) = true
is_removed other = false

-- that a rule was begun
abbrev pub is_started : Event → Bool
is_started (Started rule) = true
is_started other = false

-- that a rule ended
abbrev pub is_ended : Event → Bool
is_ended (Ended rule verdict) = true
is_ended other = false

-- that an event is of a kind
abbrev pub is_of : Kind → Event → Bool
is_of kind.Read event = is_read event
is_of kind.Removed event = is_removed event
is_of kind.Started event = is_started event
is_of kind.Ended event = is_ended event

-- how many events of each kind there are
abbrev pub counts_of : List Event → List ℕ
counts_of events = count_by is_read events ∷ count_by is_removed events ∷ count_by is_started events ∷ count_by is_ended events ∷ []
