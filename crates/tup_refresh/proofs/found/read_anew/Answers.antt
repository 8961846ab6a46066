use Rattle.std.proofs.Common.{refl}
use Rattle.tup_refresh.proofs.Told.{read_so, fault_so, came_so, lack_so, lack_if}
use Rattle.tup_refresh.proofs.found.read_anew.Goals as goal

pub returns-in-Ok-clause-found : goal.returns-in-Ok-clause-found
returns-in-Ok-clause-found c = λ sources part has.
    let a = c.args in
    let is = c.in-Ok.ensures.reading in
    read_so sources a.part.now.outline.now a.settings.now a.readings.now a.dir.now a.part.now.fetched.now part.paths part.contents c.in-Ok.reading is.0 is.1 is.2 is.3

pub returns-in-Err-Fault-clause-found : goal.returns-in-Err-Fault-clause-found
returns-in-Err-Fault-clause-found c = λ sources part has.
    let a = c.args in
    let is = rw c.in-Err-Fault.field-0-is at c.in-Err-Fault.ensures.reading in
    fault_so sources a.part.now.outline.now a.settings.now a.readings.now a.dir.now a.part.now.fetched.now part.paths part.contents c.in-Err-Fault.fault is.0 has is.1 is.2

pub returns-in-Err-Stopped-clause-found : goal.returns-in-Err-Stopped-clause-found
returns-in-Err-Stopped-clause-found c = λ sources part has.
    let a = c.args in
    let env = c.read_tupfile.new.env in
    let is = rw c.in-Err-Stopped.field-0-is at c.in-Err-Stopped.ensures.reading in
    came_so a.part.now.outline.now env.asked.sources.now a.settings.now env.asked.settings.now a.readings.now env.asked.readings.now a.dir.now env.asked.reader.now a.part.now.fetched.now env.fetched.now
    (c.in-Err-Stopped.ensures.same refl) sources c.halted.result env.halt is.0 is.2 part.paths part.contents has is.1 is.3 is.4 c.halted.ensures

pub returns-in-Err-Stopped-clause-lacks : goal.returns-in-Err-Stopped-clause-lacks
returns-in-Err-Stopped-clause-lacks c =
    let a = c.args in
    let env = c.read_tupfile.new.env in
    let is = rw c.in-Err-Stopped.field-0-is at c.in-Err-Stopped.ensures.reading in
    lack_if a.part.now.fetched.now c.halted.result
    (lack_so a.part.now.outline.now env.asked.sources.now a.settings.now env.asked.settings.now a.readings.now env.asked.readings.now a.dir.now env.asked.reader.now a.part.now.fetched.now env.fetched.now
    (c.in-Err-Stopped.ensures.same refl) c.halted.result env.halt is.2 is.3 c.halted.ensures)
