use Rattle.std.proofs.lemmas.Result.{IfOk-weaker}
use Rattle.tup_core.specs.Links.{HasMaker, IsIn}
use Rattle.tup_core.specs.Sound.{IsMadeBy}
use Rattle.tup_core.proofs.NearLaws.{namers_of}
use Rattle.tup_core.proofs.LinksLaws.{made_known, made_within, near_of}
use Rattle.tup_core.proofs.links.near_readers.Goals as goal

pub makers_of-requires : goal.makers_of-requires
makers_of-requires c =
    namers_of c.args.rules.now (IsMadeBy c.args.rules.now c.args.reach.now) (IsIn c.in_ok-made.made) c.args.near.now c.in_ok-made.ensures.only c.requires.near

pub readers_by-requires-clause-near : goal.readers_by-requires-clause-near
readers_by-requires-clause-near c =
    namers_of c.args.rules.now (IsMadeBy c.args.rules.now c.args.reach.now) (HasMaker c.in_ok-makers.makers) c.args.near.now
    (λ path one. c.in_ok-made.ensures.only path (made_known c.in_ok-made.made c.args.rules.now c.in_ok-makers.makers c.in_ok-makers.ensures path one)) c.requires.near

pub readers_by-requires-clause-below : goal.readers_by-requires-clause-below
readers_by-requires-clause-below c = made_within c.in_ok-made.made c.args.rules.now c.in_ok-makers.makers c.in_ok-makers.ensures

pub returns : goal.returns
returns c =
    IfOk-weaker c.readers_by.result _ _ (λ lists listed flags reach. near_of c.args.rules.now flags c.args.reach.now c.in_ok-made.made c.in_ok-makers.makers lists.items reach c.in_ok-made.ensures c.in_ok-makers.ensures listed) c.readers_by.ensures
