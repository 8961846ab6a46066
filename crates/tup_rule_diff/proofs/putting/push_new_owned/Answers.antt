use Rattle.std.proofs.Common.{◌∷◌, ◌∙◌, [], List, map, sym, subst}
use Rattle.std.specs.FinMap as finite
use Rattle.std.specs.Map.Iter.{deref_pair}
use Rattle.std.proofs.lemmas.List.{map-append}
use Rattle.std.proofs.lemmas.Map.Iter.{iter_end}
use Rattle.tup_path.specs.Name.{Names}
use Rattle.tup_graph.specs.declared.owned.Owned.{Owned}
use Rattle.tup_rule_diff.specs.Edits.{PutsNews, WasOwned, own_so}
use Rattle.tup_rule_diff.proofs.NewPuts.{none_put, puts_on}
use Rattle.tup_rule_diff.proofs.putting.push_new_owned.Goals as goal

pub loop-path-init : goal.loop-path-init
loop-path-init c = none_put (WasOwned c.args.nodes.now) own_so c.args.edits.now

pub loop-path-preserved : goal.loop-path-preserved
loop-path-preserved c =
    subst (λ (l : List (Names × Owned)). PutsNews (WasOwned c.args.nodes.now) own_so l c.args.edits.now c.push_if_changed.new.edits) (sym (map-append deref_pair c.loop-path.yielded ((c.in-Some.path, c.in-Some.one) ∷ [])))
    (puts_on (WasOwned c.args.nodes.now) own_so (map deref_pair c.loop-path.yielded) (deref_pair (c.in-Some.path, c.in-Some.one) ∷ []) c.args.edits.now c.loop-path.edits c.push_if_changed.new.edits c.loop-path.invariant c.in_ok-push_if_changed.ensures.ok)

pub returns-clause-ok : goal.returns-clause-ok
returns-clause-ok c =
    let all = iter_end deref_pair (finite.entries c.args.owned.now) c.loop-path.yielded c.into_iter-path-iterator.result c.loop-path.path-iterator c.next.new.self c.next.result
    (c.into_iter-path-iterator.ensures.into_iter_gives ∙ c.iter-path-items.ensures) c.loop-path.yielded_by c.in-None.is c.next.ensures.steps in
    subst (λ (l : List (Names × Owned)). PutsNews (WasOwned c.args.nodes.now) own_so l c.args.edits.now c.loop-path.edits) all.0 c.loop-path.invariant
