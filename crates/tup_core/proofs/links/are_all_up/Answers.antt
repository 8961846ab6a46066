use Rattle.std.proofs.Common.{◌<◌, ℕ, List, get_or, refl, sym, ◌∙◌, subst, arith}
use Rattle.std.proofs.lemmas.List.{take_all}
use Rattle.tup_clean.specs.Queue.{count_of}
use Rattle.tup_core.proofs.LinksLaws.{all_up_more}
use Rattle.tup_core.proofs.links.are_all_up.Goals as goal

none : 0 < 0 → ⊥
none some = omega arith

pub loop-place-init : goal.loop-place-init
loop-place-init c = λ at some. absurd (none some)

pub loop-place-preserved : goal.loop-place-preserved
loop-place-preserved c =
    all_up_more c.args.places.now c.args.flags.now c.loop-place.place-index (get_or c.args.places.now c.loop-place.place-index 0) c.loop-place-test.true refl (sym c.is_up.ensures ∙ c.if-not-is_up.false) c.loop-place.invariant

pub returns : goal.returns
returns c = λ _ at some. c.loop-place.invariant at (subst (λ (l : List ℕ). 0 < count_of at l) (sym (take_all c.loop-place.place-index c.args.places.now c.loop-place-test.false)) some)
