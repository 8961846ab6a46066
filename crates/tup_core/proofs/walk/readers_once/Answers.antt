use Rattle.std.proofs.Common.{◌≡◌, ◌<◌, List, ℕ, false, subst}
use Rattle.tup_clean.specs.Queue.{count_of}
use Rattle.tup_core.specs.Waiting.{flag}
use Rattle.tup_core.specs.Walk.{Notes}
use Rattle.tup_core.proofs.WalkLaws.{list_at, reads_within, all_down, noted_once, noted_flagged}
use Rattle.tup_core.proofs.walk.readers_once.Goals as goal

pub note_all-requires : goal.note_all-requires
note_all-requires c =
    reads_within c.args.readers.now c.args.from c.args.seen.now c.as_slice.result.now c.requires.within c.requires.seen
    (list_at c.args.readers.now c.args.from c.index-readers-from.result c.as_slice.result.now c.requires.from c.as_slice.ensures c.index-readers-from.is)

pub returns-clause-down : goal.returns-clause-down
returns-clause-down c =
    let noted = subst (λ (l : List ℕ). Notes c.as_slice.result.now c.args.seen.now l c.note_all.new.seen c.note_all.new.found) c.new-found.ensures c.in_ok-note_all.ensures in
    all_down c.note_all.new.seen c.lower.new.flags c.note_all.new.found (noted_flagged c.as_slice.result.now c.args.seen.now c.note_all.new.seen c.note_all.new.found c.requires.down noted)
    (subst (λ (l : List ℕ). (at : ℕ) → 0 < count_of at l → flag c.lower.new.flags at ≡ false) c.as_slice-2.ensures c.lower.ensures.down) c.lower.ensures.rest

pub returns-clause-once : goal.returns-clause-once
returns-clause-once c =
    let noted = subst (λ (l : List ℕ). Notes c.as_slice.result.now c.args.seen.now l c.note_all.new.seen c.note_all.new.found) c.new-found.ensures c.in_ok-note_all.ensures in
    noted_once c.args.readers.now c.args.from c.as_slice.result.now c.args.seen.now c.note_all.new.seen c.note_all.new.found c.requires.down
    (list_at c.args.readers.now c.args.from c.index-readers-from.result c.as_slice.result.now c.requires.from c.as_slice.ensures c.index-readers-from.is) noted
