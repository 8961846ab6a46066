use Rattle.std.proofs.Common.{◌≡◌, [], ◌∷◌, ◌++◌, false, true, ℕ, refl, sym, ap, ◌∙◌, append_assoc}
use Rattle.std.proofs.lemmas.Bool.{false≢true}
use Rattle.std.proofs.lemmas.List.Elements.{All-push}
use Rattle.tup_path.specs.Name.{Names}
use Rattle.tup_apart.specs.Place.{HasPlace}
use Rattle.tup_apart.proofs.Placing.{holds_of_all, listed_key}
use Rattle.tup_apart.proofs.place.have_places.Goals as goal

pub loop-path-preserved : goal.loop-path-preserved
loop-path-preserved c =
    let before = c.loop-path.invariant in
    let one : Names × ℕ = (c.in-Some.path.now, c.in-Some.field-0-1.now) in (
      before.0 ++ one ∷ [],
      append_assoc before.0 _ _ ∙ ap (λ l. before.0 ++ l) (sym c.in-Some.ensures.steps) ∙ before.1,
      All-push (λ (entry : Names × ℕ). HasPlace c.args.nodes.now c.args.makers.now entry.0) before.0 one before.2 (c.in_ok-has_place.ensures.0 c.if-not-branch.false),
    )

pub returns-then-not-branch : goal.returns-then-not-branch
returns-then-not-branch c =
    let before = c.loop-path.invariant in
    let one : Names × ℕ = (c.in-Some.path.now, c.in-Some.field-0-1.now) in
    let some = listed_key c.args.makers.now before.0 _ one
    (ap (λ l. before.0 ++ l) (sym c.in-Some.ensures.steps) ∙ before.1 ∙ c.into_iter-path-iterator.ensures.into_iter_gives ∙ c.iter-path-items.ensures) in (
      λ (wrong : false ≡ true). absurd (false≢true wrong),
      λ places. absurd (false≢true (sym c.if-not-branch.true ∙ c.in_ok-has_place.ensures.1 (places one.0 some))),
    )

pub returns : goal.returns
returns c =
    let before = c.loop-path.invariant in (
      λ _. holds_of_all c.args.makers.now before.0 c.loop-path.path-iterator (HasPlace c.args.nodes.now c.args.makers.now)
          (before.1 ∙ c.into_iter-path-iterator.ensures.into_iter_gives ∙ c.iter-path-items.ensures) c.in-None.ensures.steps.0 before.2,
      λ _. refl,
    )
