-- What the reporters of this crate show of themselves.
use Rattle.std.specs.Prelude.{ℕ, List}
use Rattle.tup_tell.specs.declared.event.Event.{Event}
use Rattle.tup_tell.specs.declared.keep.Keep.{Keep}
use Rattle.tup_tell.specs.declared.tally.Tally.{Tally}
use Rattle.tup_tell.specs.declared.keep_then_fail.KeepThenFail.{KeepThenFail}

-- what a Keep was told
abbrev pub kept_by : Keep → List Event
kept_by keep = keep.events.items

-- what a Tally was told
abbrev pub tallied_by : Tally → List Event
tallied_by tally = kept_by tally.kept

-- what a KeepThenFail was told
abbrev pub kept_until : KeepThenFail → List Event
kept_until one = kept_by one.kept

-- how many events it keeps at most
abbrev pub most_of : KeepThenFail → ℕ
most_of one = one.most

-- how often it failed
abbrev pub failed_so_often : KeepThenFail → ℕ
failed_so_often one = one.faults
