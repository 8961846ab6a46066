use Rattle.std.proofs.Common.{◌∷◌, ◌++◌, [], ap, ◌∙◌}
use Rattle.tup_path.specs.Name.{Names}
use Rattle.tup_graph.specs.declared.edit.Edit.{Edit}
use Rattle.tup_graph.specs.declared.owned.Owned.{Owned}
use Rattle.tup_rule_diff.specs.Edits.{WasOwned, own_so}
use Rattle.tup_rule_diff.proofs.Pushing.{given}
use Rattle.tup_rule_diff.proofs.NewPuts.{one_put, stays_put}
use Rattle.tup_rule_diff.proofs.putting.push_if_changed.Goals as goal

pub returns-then-was_owned-clause-ok : goal.returns-then-was_owned-clause-ok
returns-then-was_owned-clause-ok c = stays_put (WasOwned c.args.nodes.now) own_so (c.args.path.now, c.args.one.now) c.args.edits.now (c.was_owned.ensures c.if-was_owned.true)

pub returns-clause-ok : goal.returns-clause-ok
returns-clause-ok c =
    let one : Names × Owned = (c.args.path.now, c.args.one.now) in
    one_put (WasOwned c.args.nodes.now) own_so one c.args.edits.now c.push.new.self (c.in_ok-push.ensures.ok ∙ ap (λ (e : Edit). c.args.edits.now ++ e ∷ []) (given c.in_ok-own.field-0 (own_so one) _ c.in_ok-own.ensures))
