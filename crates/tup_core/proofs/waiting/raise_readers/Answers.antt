use Rattle.std.proofs.Common.{◌≡◌, Bool, List, ℕ, [], sym, ap, ◌∙◌, subst}
use Rattle.std.specs.Prelude.{if◌then◌else◌, slice_get, unwrap_or}
use Rattle.tup_core.specs.Walk.{Raises, readers_if}
use Rattle.tup_core.proofs.WalkLaws.{list_at, reads_within, raised_none}
use Rattle.tup_core.proofs.waiting.raise_readers.Goals as goal

pub raise-requires : goal.raise-requires
raise-requires c =
    reads_within c.args.readers.now c.args.at c.args.entries.now c.as_slice.result.now c.requires.within c.requires.entries
    (list_at c.args.readers.now c.args.at c.index-readers-at.result c.as_slice.result.now c.requires.at c.as_slice.ensures c.index-readers-at.is)

pub returns-then-is_up : goal.returns-then-is_up
returns-then-is_up c =
    let here = list_at c.args.readers.now c.args.at c.index-readers-at.result c.as_slice.result.now c.requires.at c.as_slice.ensures c.index-readers-at.is in
    let all : readers_if c.args.readers.now c.args.reached.now c.args.at ≡ unwrap_or (slice_get c.args.readers.now c.args.at) [] =
    ap (λ (b : Bool). if b then unwrap_or (slice_get c.args.readers.now c.args.at) [] else []) (sym c.is_up.ensures ∙ c.if-is_up.true) in
    subst (λ (l : List ℕ). Raises l c.args.entries.now c.raise.new.flags) (here ∙ sym all) c.raise.ensures

pub returns-else-is_up : goal.returns-else-is_up
returns-else-is_up c =
    let none : readers_if c.args.readers.now c.args.reached.now c.args.at ≡ [] =
    ap (λ (b : Bool). if b then unwrap_or (slice_get c.args.readers.now c.args.at) [] else []) (sym c.is_up.ensures ∙ c.if-is_up.false) in
    subst (λ (l : List ℕ). Raises l c.args.entries.now c.args.entries.now) (sym none) (raised_none c.args.entries.now)
