use Rattle.std.proofs.Common.{List, subst}
use Rattle.tup_graph.specs.Graph.{GraphState}
use Rattle.tup_graph.specs.declared.edit.Edit.{Edit}
use Rattle.tup_readers.specs.Suspects.{HasAllOthers}
use Rattle.tup_scan_diff.specs.Touched.{AsksOneOf, FindsRoots, UsesOneOf}
use Rattle.tup_scan_diff.proofs.Looking.{roots_found}
use Rattle.tup_scan_diff.proofs.present.Present.near_roots.Goals as goal

pub returns-clause-roots : goal.returns-clause-roots
returns-clause-roots c =
    let present = c.args.self.now in
    let suspects = c.suspects.result.now in
    roots_found present c.requires.turned suspects (subst (λ (h : GraphState). HasAllOthers h.seen h.runs suspects) c.requires.same c.suspects.ensures) _ _ _ _ _ c.new-roots.ensures
    c.in_ok-push_flagged.ensures.roots c.in_ok-push_set.ensures.roots
    (subst (λ (x : GraphState × List Edit). FindsRoots present (UsesOneOf x.0 x.1) c.push_set.new.roots c.push_users_of.new.roots) (λ i. (c.requires.same i, c.requires.seen i)) c.in_ok-push_users_of.ensures.roots)
    (subst (λ (h : GraphState). FindsRoots present (AsksOneOf h present.turned.keys) c.push_users_of.new.roots c.push_turned.new.roots) c.requires.same c.in_ok-push_turned.ensures.roots)
