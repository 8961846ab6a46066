use Rattle.std.proofs.Common.{◌≡◌, [], subst}
use Rattle.tup_rule.specs.declared.draft.Draft.{Draft}
use Rattle.tup_link.specs.Groups.{Gives}
use Rattle.tup_link.proofs.Gathering.{members_none, members_more}
use Rattle.tup_link.proofs.groups.groups.Goals as goal

pub loop-one-init : goal.loop-one-init
loop-one-init c =
    let none : c.in-Ok.groups ≡ [] = let h = c.in-Ok.ensures in cc in
    members_none c.in-Ok.groups none

pub loop-one-preserved : goal.loop-one-preserved
loop-one-preserved c =
    members_more c.args.all.now c.loop-one.one-index c.one-item.result c.loop-one.groups c.give.new.groups c.loop-one-test.true c.one-item.is c.loop-one.invariant
    (subst (λ (d : Draft). Gives d c.loop-one.groups c.give.new.groups) c.draft.ensures c.in_ok-give.ensures)
