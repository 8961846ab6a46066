-- Where no rule is flagged and the tree is as it was seen, no rule is reached.
use Rattle.std.specs.Prelude.{◌≡◌, ℕ, zero, suc, false, List, None, Some, Ok}
use Rattle.std.proofs.Common.{refl, sym, subst, ◌∙◌, inl, inr}
use Rattle.std.specs.FinMap as finite
use Rattle.std.proofs.lemmas.Bool.{true≢false}
use Rattle.std.proofs.lemmas.List.Elements.{All-contains}
use Rattle.tup_path.specs.Name.{Names, Content}
use Rattle.tup_path.specs.Tree.{Tree}
use Rattle.tup_stamp.specs.declared.Stamp.{Stamp}
use Rattle.tup_rule.specs.declared.rule.Rule.{Rule}
use Rattle.tup_runner.specs.Next.{Next}
use Rattle.tup_project.specs.Project.{ComeTo}
use Rattle.tup_project.proofs.Alike.{projects_alike}
use Rattle.tup_record.specs.declared.run.RunRecord.{RunRecord}
use Rattle.tup_graph.specs.Graph.{GraphState, is_flagged, source}
use Rattle.tup_graph.specs.Kept.{IsKept, IsRuleAt, HasSeenStamps}
use Rattle.tup_graph.specs.Reach.{source_in, stamp_in, IsChanged, IsReachRoot, ReachedOver, IsReached}
use Rattle.tup_graph.specs.Records.{Language}
use Rattle.tup_graph.proofs.Keeping.{has_run}
use Rattle.tup_law_graph.proofs.Turning.{none_asked_turned, sources_seen}

-- a record with the seen stamps isn't changed in a tree that holds them
pub unchanged : (g : GraphState) (tree : Tree) (rule : Rule) (run : RunRecord) → ((path : Names) → finite.get g.seen path ≡ stamp_in tree path) → HasSeenStamps g rule run → IsChanged tree rule run → ⊥
unchanged g tree rule run as_seen has (inl (path, given, asked, apart)) = apart (has.asked path given asked ∙ as_seen path)
unchanged g tree rule run as_seen has (inr (path, given, wrote, apart)) =
    apart (sym (All-contains (λ (file : Names × Stamp). finite.get g.seen file.0 ≡ Some file.1) run.writes (path, given) has.wrote wrote) ∙ as_seen path)

module _ (next : Next) (language : Language) (known : List Content) (g : GraphState) (tree : Tree) (kept : IsKept next language known g)
    (done : (number : ℕ) (rule : Rule) → IsRuleAt g number rule → is_flagged g number ≡ false) (as_seen : (path : Names) → finite.get g.seen path ≡ stamp_in tree path) where
  up_to_date : (number : ℕ) (rule : Rule) → IsRuleAt g number rule → (run : RunRecord) × (finite.get g.runs number ≡ Some run) × HasSeenStamps g rule run
  up_to_date number rule here = has_run next language known g kept number rule (record { here = here; unflagged = done number rule here })

  not_root : (at : ℕ) (rule : Rule) → IsRuleAt g at rule → IsReachRoot g tree rule → ⊥
  not_root at rule here (inl none) = none at here
  not_root at rule here (inr (inl (number, there, inl flagged))) = true≢false (sym flagged ∙ done number rule there)
  not_root at rule here (inr (inl (number, there, inr no_run))) =
      let has = up_to_date number rule there in
      let e : None ≡ Some has.0 = sym no_run ∙ has.1 in
      cc
  not_root at rule here (inr (inr (number, run, is, inr told))) = none_asked_turned (source g) (source_in g tree) rule run (sources_seen g g tree refl as_seen) told
  not_root at rule here (inr (inr (number, run, is, inl changed))) =
      let has = up_to_date number rule is.same in
      let e : Some has.0 ≡ Some run = sym has.1 ∙ is.run_of in
      let one : has.0 ≡ run = cc in
      unchanged g tree rule run as_seen (subst (HasSeenStamps g rule) one has.2) changed

  over : (reads at : ℕ) → ReachedOver reads g tree g.rules at → ⊥
  over zero at (rule, here, root) = not_root at rule here root
  over (suc reads) at (rule, before, maker, number, run, path, given, here, has, asked, there, wrote, further) = over reads before further

  pub none_reached : (at : ℕ) → IsReached g tree g.rules at → ⊥
  none_reached at (reads, is) = over reads at is

  -- the rules of sources are one list
  pub none_left : (sources : Tree) (rules : List Rule) → ComeTo sources (Ok g.rules) → ComeTo sources (Ok rules) → (at : ℕ) → IsReached g tree rules at → ⊥
  none_left sources rules mine come at reached = none_reached at (subst (λ (l : List Rule). IsReached g tree l at) (projects_alike sources (Ok rules) (Ok g.rules) come mine) reached)
