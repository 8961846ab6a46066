-- After an update that is done nothing is left to be run or to be removed.
use Rattle.std.proofs.Common.{◌≡◌, zero, true, false, List, [], ◌∷◌, None, Ok, All, refl, sym, ap, subst, ◌∙◌}
use Rattle.std.proofs.lemmas.Bool.{true≢false}
use Rattle.std.proofs.lemmas.List.Elements.{All-head}
use Rattle.tup_path.specs.Name.{Names}
use Rattle.tup_path.specs.Tree.{Tree}
use Rattle.tup_site.specs.World.{World}
use Rattle.tup_rule.specs.Rule.{is_generated}
use Rattle.tup_rule.specs.declared.rule.Rule.{Rule}
use Rattle.tup_rule.specs.declared.rule.RuleName.{RuleName}
use Rattle.tup_runner.specs.Next.{Next}
use Rattle.tup_project.specs.Project.{ComeTo}
use Rattle.tup_graph.specs.Graph.{GraphState, is_owned}
use Rattle.tup_graph.specs.Kept.{IsGraphIn}
use Rattle.tup_graph.specs.Reach.{IsReached}
use Rattle.tup_ledger.specs.Sources.{sources_of}
use Rattle.tup_law_site.proofs.Stores.{one_in_bytes}
use Rattle.tup_promise.specs.Did.{IsToRemove, RemovesWhatIsUnmade}
use Rattle.tup_promise.specs.Finished.{ExactlyTheFiles, IsFinished}
use Rattle.tup_promise.specs.Kept.{AsksFor}
use Rattle.tup_promise.specs.Needed.{IsDueName}
use Rattle.tup_promise.proofs.Asked.{one_asked}
use Rattle.tup_ends.proofs.Names.{contains_at}

module _ (next : Next) (sources : Tree) (w : World) (h : GraphState) (stored : IsGraphIn w.store h) (done : IsFinished next sources h w.tree) where
  -- the rules that a finished project asks for are those of its graph
  asked : AsksFor w h.rules
  asked = (h, stored, subst (λ (tree : Tree). ComeTo tree (Ok h.rules)) (sym done.sources_are) done.rules)

  not_due : (name : RuleName) → IsDueName w name → ⊥
  not_due name due =
      let (k, reads, come) = due.asked in
      let (l, mine, reached) = due.due in
      done.none_due due.rules due.at
      (subst (λ (tree : Tree). ComeTo tree (Ok due.rules)) done.sources_are (subst (λ (g : GraphState). ComeTo (sources_of g w.tree) (Ok due.rules)) (one_in_bytes w.store k h reads stored) come))
      (subst (λ (g : GraphState). IsReached g w.tree due.rules due.at) (one_in_bytes w.store l h mine stored) reached)

  not_removed : (path : Names) → IsToRemove w path → ⊥
  not_removed path gone =
      true≢false (sym gone.owned
      ∙ ap (λ (g : GraphState). is_owned g path) (one_in_bytes w.store gone.graph h gone.stored stored)
      ∙ done.owned path
      ∙ ap (λ (rules : List Rule). is_generated rules path) (one_asked w h.rules gone.rules asked gone.asked)
      ∙ gone.unmade)

-- where no element has what all elements of a list have, it has none
none_at_all : (w : World) → ((name : RuleName) → IsDueName w name → ⊥) → (names : List RuleName) → All (IsDueName w) names → names ≡ []
none_at_all w none [] due = refl
none_at_all w none (name ∷ names) due = absurd (none name (All-head (IsDueName w) name names due))

none_to_go : (w : World) → ((path : Names) → IsToRemove w path → ⊥) → (removed : List Names) → RemovesWhatIsUnmade w removed → removed ≡ []
none_to_go w none [] removes = refl
none_to_go w none (path ∷ rest) removes = absurd (none path ((removes.just path).0 (contains_at (path ∷ rest) zero path refl)))

pub none_runs_then : (next : Next) (old new : World) (ran : List RuleName) → ExactlyTheFiles next old new None → All (IsDueName new) ran → ran ≡ []
none_runs_then next old new ran (g, mine, (h, stored, done)) = none_at_all new (not_due next (sources_of g old.tree) new h stored done) ran

pub none_goes_then : (next : Next) (old new : World) (removed : List Names) → ExactlyTheFiles next old new None → RemovesWhatIsUnmade new removed → removed ≡ []
none_goes_then next old new removed (g, mine, (h, stored, done)) = none_to_go new (not_removed next (sources_of g old.tree) new h stored done) removed
