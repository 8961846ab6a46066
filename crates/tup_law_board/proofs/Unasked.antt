-- No rule that isn't flagged asked an owned path that no rule makes any more.
use Rattle.std.specs.Prelude.{◌≡◌, ℕ, Bool, true, false, List, Option, None, Some, IsSome, Ok, cond, is_some, option_map}
use Rattle.std.proofs.Common.{refl, sym, ap, inl, inr, ◌∙◌}
use Rattle.std.specs.FinMap as finite
use Rattle.std.proofs.lemmas.Bool.{true≢false}
use Rattle.std.proofs.lemmas.Option.{same_Some}
use Rattle.tup_path.specs.Name.{Names, Content}
use Rattle.tup_path.specs.Tree.{Tree}
use Rattle.tup_stamp.specs.declared.Stamp.{Stamp}
use Rattle.tup_stamp.specs.Stamp.{stamp}
use Rattle.tup_rule.specs.Rule.{among}
use Rattle.tup_rule.specs.declared.rule.Rule.{Rule}
use Rattle.tup_rule.proofs.Laws.{maker-Some}
use Rattle.tup_clean.proofs.Among.{is_generated-maker}
use Rattle.tup_runner.specs.Next.{Next}
use Rattle.tup_record.specs.declared.run.RunRecord.{RunRecord}
use Rattle.tup_project.specs.Project.{ComeTo}
use Rattle.tup_graph.specs.declared.owned.Owned.{Owned}
use Rattle.tup_graph.specs.Graph.{GraphState, is_owned, source}
use Rattle.tup_graph.specs.Kept.{Asked, IsKept, IsUnflagged}
use Rattle.tup_graph.specs.Reach.{stamp_in}
use Rattle.tup_graph.specs.Records.{Language}
use Rattle.tup_law_graph.proofs.Declared.{come_there}
use Rattle.tup_stale.specs.Unmade.{unmade}
use Rattle.tup_law_board.proofs.Unmade.{unmade_at}

module _ (next : Next) (language : Language) (known : List Content) (g : GraphState) (sources : Tree) (kept : IsKept next language known g) (come : ComeTo sources (Ok g.rules))
    (sees : (q : Names) → source g q ≡ stamp_in sources q) where
  -- what is owned is no source
  no_source : (path : Names) → is_owned g path ≡ true → IsSome (finite.get sources path) → ⊥
  no_source path owned some = by (finite.get sources path) some (sym (sees path) ∙ ap (λ (b : Bool). cond b None (finite.get g.seen path)) owned)
    where
      by : (found : Option Content) → IsSome found → option_map stamp found ≡ None → ⊥
      by (Some content) there none = true≢false (ap is_some none)
      by None there none = true≢false (sym there)

  -- so what is declared and owned has a maker
  has_maker : (number : ℕ) (rule : Rule) (run : RunRecord) (path : Names) (given : Option Stamp) → IsUnflagged g number rule → finite.get g.runs number ≡ Some run → Asked rule run path given
      → (o : Owned) → finite.get g.owned path ≡ Some o → o.maker ≡ None → ⊥
  has_maker number rule run path given unflagged ran asked o here none =
      let owned : is_owned g path ≡ true = ap is_some here in
      elim (come_there sources g.rules come number rule path unflagged.here (kept.declared number rule run path given unflagged ran asked owned)) [
        | inl source ↦ no_source path owned source
        | inr generated ↦
            let at = is_generated-maker g.rules path generated in
            let it = maker-Some g.rules path at.0 at.1 in
            let made = kept.owners.made at.0 it.rule path it.here it.writes_it in
            let wrong : Some at.0 ≡ None = sym made.2 ∙ (λ i. (same_Some made.0 o (sym made.1 ∙ here) i).maker) ∙ none in
            absurd (cc)
      ]

  pub not_asked : (number : ℕ) (rule : Rule) (run : RunRecord) (path : Names) (given : Option Stamp) → IsUnflagged g number rule → finite.get g.runs number ≡ Some run → Asked rule run path given
      → among path (unmade g) ≡ false
  not_asked number rule run path given unflagged ran asked = by (among path (unmade g)) refl
    where
      by : (b : Bool) → among path (unmade g) ≡ b → among path (unmade g) ≡ false
      by false e = e
      by true e = (let found = unmade_at g path e in absurd (has_maker number rule run path given unflagged ran asked found.0 found.1 found.2))
