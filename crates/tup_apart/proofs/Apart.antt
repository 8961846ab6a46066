-- Outputs are apart just where each has one maker and a place.
use Rattle.std.proofs.Common.{◌≡◌, ℕ, true, List, Option, Some, None, refl, sym, ◌∙◌, subst, inl, inr}
use Rattle.std.specs.Prelude.{Contains, IsSome, get_or, slice_get}
use Rattle.std.specs.FinMap as finite
use Rattle.std.proofs.lemmas.List.Elements.{All-contains, Contains-get_or}
use Rattle.tup_path.specs.Name.{Names}
use Rattle.tup_rule.specs.declared.rule.Rule.{Rule}
use Rattle.tup_rule.specs.Rule.{writes}
use Rattle.tup_rule.proofs.Laws.{among-decides}
use Rattle.tup_graph.specs.Graph.{GraphState}
use Rattle.tup_core.specs.declared.plan.Plan.{Plan}
use Rattle.tup_core.specs.Sound.{HasNear, HasOneMaker, IsMadeBy}
use Rattle.tup_board.specs.Outputs.{AreApart, IsToMake}
use Rattle.tup_apart.specs.Makers.{AreOnlyMakers, IsOnlyMaker, Makers, MakesOnly, makers_in, outputs_at}
use Rattle.tup_apart.specs.Place.{HavePlaces, IsUnderFile}
use Rattle.tup_apart.proofs.Making.{AreMakers, a_rule, are_makers, its_outputs}

module _ (g : GraphState) (plan : Plan) where
  abbrev makers : Makers
  makers = makers_in plan

  are : AreMakers plan makers
  are = are_makers plan

  -- there is a maker
  pub its_maker : (path : Names) → IsSome (finite.get makers path) → (number : ℕ) × (finite.get makers path ≡ Some number)
  its_maker path some = by (finite.get makers path) refl some
    where
      by : (o : Option ℕ) → finite.get makers path ≡ o → IsSome o → (number : ℕ) × (finite.get makers path ≡ Some number)
      by (Some number) is here = (number, is)
      by None is here = cc

  made : (path : Names) → IsSome (finite.get makers path) → IsToMake plan path
  made path some = let maker = its_maker path some in let it = are.makes path maker.0 maker.1 in (maker.0, it.0, it.1)

  module _ (near : HasNear plan) (only : AreOnlyMakers makers plan.rules plan.near) (places : HavePlaces g makers) where
    -- a rule that makes an output of the reach is near, and so it is its only maker
    its_only_maker : (number : ℕ) (rule : Rule) (path : Names) → IsMadeBy plan.rules plan.reach path → slice_get plan.rules number ≡ Some rule → writes rule path ≡ true → IsOnlyMaker makers number path
    its_only_maker number rule path made here makes =
        All-contains (IsOnlyMaker makers number) (outputs_at plan.rules number) path
        (All-contains (MakesOnly makers plan.rules) plan.near number only (near.each number rule path made here (inr makes)))
        (subst (λ (paths : List Names). Contains paths path) (sym (its_outputs plan number rule here)) ((among-decides path rule.outputs).0 makes))

    one_maker : HasOneMaker plan
    one_maker at other rule another path reached here there makes also =
        let made : IsMadeBy plan.rules plan.reach path = record { number = at; rule = rule; listed = reached; here = here; written = makes } in
        let maker = its_maker path (are.each path (at, reached, record { rule = rule; here = here; output = makes })) in
        sym (its_only_maker at rule path made here makes maker.0 maker.1) ∙ its_only_maker other another path made there also maker.0 maker.1

    pub apart_is : AreApart plan g
    apart_is = record {
      not_top = λ path makes. (places path (are.each path makes)).not_top;
      above_seen = λ path other makes seen. (places path (are.each path makes)).none_below other seen;
      below_seen = λ path other makes seen below. (places path (are.each path makes)).none_above (other, below, inr seen);
      above_other = λ path other makes also below. (places other (are.each other also)).none_above (path, below, inl (are.each path makes));
      one_maker = one_maker;
    }

  module _ (apart : AreApart plan g) where
    pub only_makers : AreOnlyMakers makers plan.rules plan.near
    only_makers = λ i n inside k d within maker got.
        let number = get_or plan.near i n in
        let outputs = outputs_at plan.rules number in
        let path = get_or outputs k d in
        let makes = are.makes path maker got in
        let also = a_rule plan number path ((among-decides path outputs).1 (Contains-get_or outputs k d within)) in
        apart.one_maker maker number makes.1.rule also.rule path makes.0 makes.1.here also.here makes.1.output also.output

    pub have_places : HavePlaces g makers
    have_places path some = record {
      not_top = apart.not_top path (made path some);
      none_above = none_above;
      none_below = λ other seen. apart.above_seen path other (made path some) seen;
    }
      where
        none_above : IsUnderFile g makers path → ⊥
        none_above (folder, below, inl file) = apart.above_other folder path (made folder file) (made path some) below
        none_above (folder, below, inr file) = apart.below_seen path folder (made path some) file below
