-- What a reporter shows of itself that writes lines.
use Rattle.std.specs.Prelude.{List}
use Rattle.tup_tell.specs.declared.event.Event.{Event}
use Rattle.tup_tell.specs.declared.line_reporter.LineReporter.{LineReporter}

-- what it was told
abbrev pub written_by : {K : Type 0} → LineReporter K → List Event
written_by reporter = reporter.events.items

-- what it writes to
abbrev pub sink_of : {K : Type 0} → LineReporter K → K
sink_of reporter = reporter.sink
