use Rattle.std.proofs.Common.{List, ℕ, sym, ◌∙◌, subst}
use Rattle.std.specs.Prelude.{OnOk}
use Rattle.std.proofs.lemmas.Option.{unwrap_or-slice_get}
use Rattle.tup_core.specs.Walk.{Notes}
use Rattle.tup_core.proofs.WalkLaws.{list_at, reads_within, follows_down}
use Rattle.tup_core.proofs.walk.go_on.Goals as goal

pub note_all-requires : goal.note_all-requires
note_all-requires c =
    reads_within c.args.readers.now c.args.at c.args.seen.now c.as_slice.result.now c.requires.within c.requires.seen
    (list_at c.args.readers.now c.args.at c.index-readers-at.result c.as_slice.result.now c.requires.at c.as_slice.ensures c.index-readers-at.is)

pub returns : goal.returns
returns c =
    subst (λ (l : List ℕ). OnOk c.note_all.result (Notes l c.args.seen.now c.args.found.now c.note_all.new.seen c.note_all.new.found))
    (list_at c.args.readers.now c.args.at c.index-readers-at.result c.as_slice.result.now c.requires.at c.as_slice.ensures c.index-readers-at.is
    ∙ sym (follows_down c.args.readers.now c.args.pending.now c.args.at (unwrap_or-slice_get c.args.pending.now c.args.at _ ∙ c.if-pending-at.false)))
    c.note_all.ensures
