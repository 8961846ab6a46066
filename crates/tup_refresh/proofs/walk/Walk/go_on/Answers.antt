use Rattle.std.proofs.lemmas.Result.{err_from_is_err_and}
use Rattle.tup_refresh.proofs.Walking.{has_tup, part_of, walk_kept, walk_read, walk_on, walk_ends, walk_closes}
use Rattle.tup_refresh.proofs.walk.Walk.go_on.Goals as goal

pub returns-in-Err-clause-fault : goal.returns-in-Err-clause-fault
returns-in-Err-clause-fault c = λ sources outlined trues is.
    let a = c.args in
    let has = has_tup a.nodes.now sources a.settings.now a.self.now a.dir is c.requires in
    walk_ends a.nodes.now sources a.settings.now a.self.now a.dir is c.requires c.in-Err.fault (c.in-Err.ensures.found sources (part_of a.nodes.now sources a.settings.now a.outline.now a.self.now outlined is) has (trues a.dir))

pub returns-in_ok-note-in-Ok-Stands-clause-walk : goal.returns-in_ok-note-in-Ok-Stands-clause-walk
returns-in_ok-note-in-Ok-Stands-clause-walk c = λ sources outlined trues is.
    let a = c.args in
    let has = has_tup a.nodes.now sources a.settings.now a.self.now a.dir is c.requires in
    walk_kept a.nodes.now sources a.settings.now a.self.now a.dir is c.requires c.note.new.self c.in-Ok-Stands.reading
    ((rw c.in-Ok-Stands.field-0-is at c.in-Ok-Stands.ensures.found) sources (part_of a.nodes.now sources a.settings.now a.outline.now a.self.now outlined is) has (trues a.dir)) c.in_ok-note-in-Ok-Stands.ensures

pub returns-in_ok-note_fresh-in-Ok-Read-clause-walk : goal.returns-in_ok-note_fresh-in-Ok-Read-clause-walk
returns-in_ok-note_fresh-in-Ok-Read-clause-walk c = λ sources outlined trues is.
    let a = c.args in
    let has = has_tup a.nodes.now sources a.settings.now a.self.now a.dir is c.requires in
    walk_read a.nodes.now sources a.settings.now a.self.now a.dir is c.requires c.note_fresh.new.self c.in-Ok-Read.reading
    ((rw c.in-Ok-Read.field-0-is at c.in-Ok-Read.ensures.found) sources (part_of a.nodes.now sources a.settings.now a.outline.now a.self.now outlined is) has (trues a.dir)) c.in_ok-note_fresh-in-Ok-Read.ensures

pub returns-in_ok-wait-in-Ok-Waits-clause-walk : goal.returns-in_ok-wait-in-Ok-Waits-clause-walk
returns-in_ok-wait-in-Ok-Waits-clause-walk c = λ sources outlined trues is.
    let a = c.args in
    let has = has_tup a.nodes.now sources a.settings.now a.self.now a.dir is c.requires in
    walk_on a.nodes.now sources a.settings.now a.self.now a.dir is c.requires c.wait.new.self c.in-Ok-Waits.next
    ((rw c.in-Ok-Waits.field-0-is at c.in-Ok-Waits.ensures.found) sources (part_of a.nodes.now sources a.settings.now a.outline.now a.self.now outlined is) has (trues a.dir)) c.in_ok-wait-in-Ok-Waits.ensures.begins

pub returns-in_err-wait-in-Ok-Waits-clause-fault : goal.returns-in_err-wait-in-Ok-Waits-clause-fault
returns-in_err-wait-in-Ok-Waits-clause-fault c =
    let a = c.args in
    let p = err_from_is_err_and c.from_residual-in_err-wait-in-Ok-Waits.result c.from_residual-in_err-wait-in-Ok-Waits.ensures.1 in
    rw (p.1, p.2) (λ sources outlined trues is.
    let has = has_tup a.nodes.now sources a.settings.now a.self.now a.dir is c.requires in
    walk_closes a.nodes.now sources a.settings.now a.self.now a.dir is c.requires c.in_err-wait-in-Ok-Waits.field-0.0 c.in-Ok-Waits.next
    ((rw c.in-Ok-Waits.field-0-is at c.in-Ok-Waits.ensures.found) sources (part_of a.nodes.now sources a.settings.now a.outline.now a.self.now outlined is) has (trues a.dir)) c.in_err-wait-in-Ok-Waits.ensures.closes)
