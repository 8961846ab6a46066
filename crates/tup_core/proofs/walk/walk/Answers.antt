use Rattle.std.proofs.Common.{◌<◌, List, ℕ, length, get_or, sym, ap, ◌∙◌, subst, arith}
use Rattle.std.proofs.lemmas.Option.{unwrap_or-slice_get}
use Rattle.tup_core.specs.Walk.{Notes}
use Rattle.tup_core.proofs.WalkLaws.{list_at, reads_within, walked_start, walked_more, next_within}
use Rattle.tup_core.proofs.walk.walk.Goals as goal

pub note_all-requires : goal.note_all-requires
note_all-requires c =
    reads_within c.args.readers.now c.args.from c.args.seen.now c.as_slice.result.now c.requires.within c.requires.seen
    (list_at c.args.readers.now c.args.from c.index-readers-from.result c.as_slice.result.now c.requires.from c.as_slice.ensures c.index-readers-from.is)

pub walk-init : goal.walk-init
walk-init c =
    walked_start c.args.readers.now c.args.pending.now c.args.from c.as_slice.result.now c.args.seen.now c.note_all.new.seen c.note_all.new.found c.requires.seen c.requires.down
    (list_at c.args.readers.now c.args.from c.index-readers-from.result c.as_slice.result.now c.requires.from c.as_slice.ensures c.index-readers-from.is)
    (subst (λ (l : List ℕ). Notes c.as_slice.result.now c.args.seen.now l c.note_all.new.seen c.note_all.new.found) c.new-found.ensures c.in_ok-note_all.ensures)

pub go_on-requires-clause-at : goal.go_on-requires-clause-at
go_on-requires-clause-at c =
    let less : c.walk.next < length c.walk.found = omega (arith, c.walk-test.true, c.len.ensures) in
    next_within c.args.readers.now c.args.pending.now c.args.from c.walk.found c.walk.next c.walk.seen c.as_slice-in-walk.result.now c.walk.invariant less c.as_slice-in-walk.ensures

pub walk-preserved : goal.walk-preserved
walk-preserved c =
    let less : c.walk.next < length c.walk.found = omega (arith, c.walk-test.true, c.len.ensures) in
    walked_more c.args.readers.now c.args.pending.now c.args.from c.walk.found c.walk.next c.walk.seen (get_or c.as_slice-in-walk.result.now c.walk.next 0) c.go_on.new.seen c.go_on.new.found c.walk.invariant less
    (ap (λ (l : List ℕ). get_or l c.walk.next 0) c.as_slice-in-walk.ensures ∙ sym (unwrap_or-slice_get c.walk.found c.walk.next 0)) c.in_ok-go_on.ensures
