use Rattle.std.proofs.Common.{List, ℕ, inl, subst}
use Rattle.std.proofs.lemmas.Result.{IfOk-weaker}
use Rattle.tup_core.specs.Links.{AreUp}
use Rattle.tup_core.proofs.WaitingLaws.{readers_links}
use Rattle.tup_core.proofs.links.links.Goals as goal

pub near_readers-requires-clause-reach : goal.near_readers-requires-clause-reach
near_readers-requires-clause-reach c = c.requires.reach.places

pub returns-then-are_up : goal.returns-then-are_up
returns-then-are_up c = record {
  near = c.in_ok-lists.ensures c.args.reached.now c.requires.reach;
  others = inl (subst (λ (l : List (List ℕ)). AreUp l c.args.reached.now) c.deref.ensures.value (c.are_up.ensures c.if-are_up.true));
}

pub returns : goal.returns
returns c = IfOk-weaker c.readers.result _ _ (λ lists are. readers_links c.args.rules.now c.args.reached.now lists.items c.requires.reached are) c.readers.ensures
