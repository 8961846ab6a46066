-- Where files are as they are seen, the sources of a graph are those in the tree, and no folder came or went.
use Rattle.std.specs.Prelude.{◌≡◌, ◌⊎◌, if◌then◌else◌, List, Option, None}
use Rattle.std.proofs.Common.{refl, sym, subst, inl, inr}
use Rattle.std.specs.FinMap as finite
use Rattle.tup_path.specs.Name.{Names}
use Rattle.tup_path.specs.Tree.{Tree}
use Rattle.tup_rule.specs.declared.rule.Rule.{Rule}
use Rattle.tup_record.specs.declared.run.RunRecord.{RunRecord}
use Rattle.tup_graph.specs.Answers.{Sources}
use Rattle.tup_graph.specs.Graph.{GraphState, source}
use Rattle.tup_graph.specs.Reach.{source_in, stamp_in}
use Rattle.tup_graph.specs.Turned.{AskedTurned, IsTurned}

-- the sources that a graph sees are those in the tree, as another one owns them that owns the same paths
pub sources_seen : (g scanned : GraphState) (tree : Tree) → scanned.owned ≡ g.owned → ((path : Names) → finite.get scanned.seen path ≡ stamp_in tree path) → source scanned ≡ source_in g tree
sources_seen g scanned tree owned as_seen = λ i path. if finite.contains_key (owned i) path then None else as_seen path i

-- nothing turns where the sources stay
never_turned : (sources : Sources) (path : Names) → IsTurned sources sources path → ⊥
never_turned sources path (inl (has, had_none)) = had_none has
never_turned sources path (inr (had, has_none)) = has_none had

pub none_asked_turned : (old new : Sources) (rule : Rule) (run : RunRecord) → old ≡ new → AskedTurned old new rule run → ⊥
none_asked_turned old new rule run same (path, asked, turned) = never_turned old path (subst (λ (s : Sources). IsTurned old s path) (sym same) turned)
