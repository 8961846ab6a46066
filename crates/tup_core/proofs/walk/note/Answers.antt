use Rattle.std.proofs.Common.{List, ℕ, [], ◌∷◌, true, sym, ◌∙◌, subst}
use Rattle.std.specs.List.{slice_set}
use Rattle.std.proofs.lemmas.Option.{unwrap_or-slice_get}
use Rattle.tup_core.specs.Walk.{Notes}
use Rattle.tup_core.proofs.WalkLaws.{notes_new}
use Rattle.tup_core.proofs.walk.note.Goals as goal

pub returns : goal.returns
returns c =
    subst (λ (l : List ℕ). Notes (c.args.place ∷ []) c.args.seen.now c.args.found.now (slice_set c.args.seen.now c.args.place true) l) (sym c.in_ok-push.ensures.ok)
    (notes_new c.args.place c.args.seen.now c.args.found.now c.requires (unwrap_or-slice_get c.args.seen.now c.args.place _ ∙ c.if-seen-place.false))
