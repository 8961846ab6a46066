-- The files that a graph has seen are those of the tree.
use Rattle.std.proofs.Common.{◌≡◌, sym, subst, ap, ◌∙◌}
use Rattle.std.specs.FinMap as finite
use Rattle.tup_path.specs.Order.{by_names}
use Rattle.tup_path.specs.Tree.{Tree}
use Rattle.tup_stamp.specs.declared.Stamp.{Stamp}
use Rattle.tup_graph.specs.Graph.{GraphState}
use Rattle.tup_graph.specs.Transactions.{with_forgotten}
use Rattle.tup_stored_graph.specs.Held.{Held}
use Rattle.tup_stale.specs.Cleared.{forgotten}
use Rattle.tup_stale.specs.Files.{without}
use Rattle.tup_stale.specs.Unmade.{standing, unmade}
use Rattle.tup_phases.specs.Prepared.{HasSeen}

-- in an equal tree
pub seen_again : (g : GraphState) (old new : Tree) → new ≡ old → HasSeen g old → HasSeen g new
seen_again g old new same seen = subst (HasSeen g) (sym same) seen

-- by a graph that has seen the same
pub seen_alike : (g h : GraphState) (tree : Tree) → h.seen ≡ g.seen → HasSeen g tree → HasSeen h tree
seen_alike g h tree same seen = λ path. ap (λ (files : finite.FinMap by_names Stamp). finite.get files path) same ∙ seen path

-- once the owned paths that no rule makes are cleared
pub seen_cleared : (old new : Held) (before now : Tree) → new ≡ forgotten old (unmade old.nodes) → now ≡ without before (standing before (unmade old.nodes))
    → HasSeen (with_forgotten old.nodes (unmade old.nodes)) (without before (standing before (unmade old.nodes))) → HasSeen new.nodes now
seen_cleared old new before now is left seen = subst (λ (h : Held). HasSeen h.nodes now) (sym is) (seen_again (with_forgotten old.nodes (unmade old.nodes)) (without before (standing before (unmade old.nodes))) now left seen)
