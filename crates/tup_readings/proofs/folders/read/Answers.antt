use Rattle.std.proofs.Common.{refl}
use Rattle.tup_readings.proofs.Stops.{read_over, fault_over, came}
use Rattle.tup_readings.proofs.folders.read.Goals as goal

pub returns-in-Ok : goal.returns-in-Ok
returns-in-Ok c = λ has.
    let a = c.args in
    let is = c.in-Ok.ensures.reading in
    read_over a.sources.now a.settings.now a.readings.now a.reader.now c.in-Ok.reading is.0 is.1 is.2 is.3

pub returns-in-Err-Fault : goal.returns-in-Err-Fault
returns-in-Err-Fault c = λ has.
    let a = c.args in
    let is = rw c.in-Err-Fault.field-0-is at c.in-Err-Fault.ensures.reading in
    fault_over a.sources.now a.settings.now a.readings.now a.reader.now c.in-Err-Fault.fault is.0 has is.1 is.2

pub returns-in-Err-Stopped : goal.returns-in-Err-Stopped
returns-in-Err-Stopped c = λ has.
    let a = c.args in
    let env = c.read_tupfile.new.env in
    let is = rw c.in-Err-Stopped.field-0-is at c.in-Err-Stopped.ensures.reading in
    came a.sources.now a.settings.now a.readings.now a.reader.now c.stopped.result env.stop env.sources.now env.settings.now env.readings.now env.reader.now is.0 is.2 has is.1 is.3 is.4
    (c.in-Err-Stopped.ensures.same refl) c.stopped.ensures
