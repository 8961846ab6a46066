use Rattle.tup_link.proofs.Gathering.{gives_some-ok, gives_nothing}
use Rattle.tup_link.proofs.groups.give.Goals as goal

pub returns-in-Some : goal.returns-in-Some
returns-in-Some c =
    gives_some-ok c.give_all.result c.args.draft.now c.in-Some.group c.as_slice.result.now c.args.groups.now c.give_all.new.groups c.in-Some.is c.as_slice.ensures c.give_all.ensures

pub returns-in-None : goal.returns-in-None
returns-in-None c = gives_nothing c.args.draft.now c.args.groups.now c.in-None.is
