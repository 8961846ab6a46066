use Rattle.std.proofs.Common.{◌≡◌, false, true, List, ℕ, rules, sym, ◌∙◌, subst}
use Rattle.std.proofs.lemmas.Bool.{false≢true, not-true, not-false}
use Rattle.std.proofs.lemmas.Result.{IfOk-weaker}
use Rattle.tup_rule.specs.declared.rule.Rule.{Rule}
use Rattle.tup_apart.specs.Makers.{AreOnlyMakers, Makers}
use Rattle.tup_apart.specs.Place.{HavePlaces}
use Rattle.tup_apart.proofs.Apart.{apart_is, have_places, only_makers}
use Rattle.tup_apart.proofs.plan.are_apart.Goals as goal

-- the same of the same makers, rules and numbers
only_as : (makers others : Makers) (rules list : List Rule) (near numbers : List ℕ) → makers ≡ others → rules ≡ list → near ≡ numbers → AreOnlyMakers makers rules near → AreOnlyMakers others list numbers
only_as makers others rules list near numbers same is are only =
    subst (AreOnlyMakers others list) are (subst (λ (l : List Rule). AreOnlyMakers others l near) is (subst (λ (m : Makers). AreOnlyMakers m rules near) same only))

pub returns-then-not-have_one_maker : goal.returns-then-not-have_one_maker
returns-then-not-have_one_maker c =
    let is : c.have_one_maker.result ≡ false = search (rules, not-true) in (
      λ (wrong : false ≡ true). absurd (false≢true wrong),
      λ apart. absurd (false≢true (sym is ∙ c.have_one_maker.ensures.1
          (only_as _ _ _ _ _ _ (sym c.in_ok-makers.ensures) (sym c.as_slice.ensures) (sym c.as_slice-2.ensures) (only_makers c.args.nodes.now c.args.plan.now apart)))),
    )

pub returns : goal.returns
returns c =
    let plan = c.args.plan.now in
    let g = c.args.nodes.now in
    let is : c.have_one_maker.result ≡ true = search (rules, not-false) in
    let only = only_as _ _ _ _ _ _ c.in_ok-makers.ensures c.as_slice.ensures c.as_slice-2.ensures (c.have_one_maker.ensures.0 is) in
    IfOk-weaker c.have_places.result _ _ (λ places tested. (
      λ yes. apart_is g plan c.requires only (subst (HavePlaces g) c.in_ok-makers.ensures (tested.0 yes)),
      λ apart. tested.1 (subst (HavePlaces g) (sym c.in_ok-makers.ensures) (have_places g plan apart)),
    )) c.have_places.ensures
