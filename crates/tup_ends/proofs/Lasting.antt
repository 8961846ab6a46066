-- A site on which a board works stays kept, whatever happens on the board.
use Rattle.std.proofs.Common.{◌≡◌, ◌⊎◌, inl, inr, ℕ, ◌≤◌, Bool, true, false, is_some, Option, None, Some, IsTrue, refl, sym, ap, subst, ◌∙◌, arith}
use Rattle.std.specs.List.{IsDistinct}
use Rattle.std.specs.Prelude.{is_none, slice_get}
use Rattle.tup_path.specs.Name.{Names}
use Rattle.tup_path.specs.Order.{same_path}
use Rattle.tup_site.specs.World.{World}
use Rattle.tup_site.specs.declared.site.Site.{Ghosts as Site}
use Rattle.tup_rule.specs.Rule.{is_generated}
use Rattle.tup_rule.specs.declared.rule.Rule.{Rule}
use Rattle.tup_runner.specs.declared.runner.Runner.{Ghosts as Runner}
use Rattle.tup_table.specs.Table.{entries_in}
use Rattle.tup_graph.specs.Graph.{GraphState, is_owned}
use Rattle.tup_graph.specs.Opening.{IsGraphOf}
use Rattle.tup_stored_graph.specs.Held.{is_fresh}
use Rattle.tup_rule_outputs.specs.Lost.{Lost}
use Rattle.tup_board.specs.Board.{BoardState, first_graph, plan_of}
use Rattle.tup_board.specs.Come.{HasComeTo}
use Rattle.tup_board.specs.Sound.{Before, IsImage, IsSound}
use Rattle.tup_law_site.specs.Over.{IsKeptNow, LeftNow}
use Rattle.tup_law_site.proofs.Remaining.{has_graph}
use Rattle.tup_law_site.proofs.Stores.{in_bytes, one_in_bytes}
use Rattle.tup_law_board.specs.Kept.{HoldsTogether}
use Rattle.tup_law_board.proofs.Sites.{kept_lost, kept_now, site_kept}
use Rattle.tup_law_phases.specs.Language.{tupfiles}
use Rattle.tup_promise.specs.Crashes.{IsAskedOutput, IsOwnedIn, OwnsNoMore, SourcesAndCrashes}
use Rattle.tup_promise.specs.Kept.{AsksFor, OfGraph}
use Rattle.tup_promise.specs.Prepared.{IsPrepared}

module _ {S R : Type 0} (site : Site S) (runner : Runner R) (b : BoardState S) (sound : IsSound site runner b) (tells : IsTrue site.tells) (told : IsTrue runner.tells) (first : World) (since : ℕ)
    (prepared : IsPrepared site runner.next first since b.opening.graph b.opening.site) (once : (number : ℕ) (rule : Rule) → slice_get (plan_of b).rules number ≡ Some rule → IsDistinct same_path rule.outputs)
    (earlier : (t u : ℕ) (w : World) → t ≤ u → site.left_since b.opening.site u w → site.left_since b.opening.site t w) (present : Before site b (site.world b.opening.site)) where
  held : HoldsTogether b
  held = record { made = prepared.made; once = once }

  -- as it is
  module _ (fresh_graph : IsTrue (is_fresh b.graph) → IsGraphOf (entries_in b.graph.table) b.graph.nodes)
      (earlier_now : (t u : ℕ) (w : World) → t ≤ u → site.left_since b.site u w → site.left_since b.site t w) (present_now : LeftNow site b.site (site.world b.site)) where
    pub kept_always : IsKeptNow site runner.next tupfiles (site.known b.site) b.site
    kept_always = by b.lost refl
      where
        by : (lost : Option Lost) → b.lost ≡ lost → IsKeptNow site runner.next tupfiles (site.known b.site) b.site
        by None none =
            kept_now site runner b sound tells told tupfiles prepared.kept prepared.over.is_graph held earlier present earlier_now present_now none (fresh_graph (sound.fresh ∙ ap is_none none))
        by (Some commit) lost = kept_lost site runner b sound tells told tupfiles prepared.kept prepared.over.is_graph held earlier present earlier_now present_now commit lost

module _ {S R : Type 0} (site : Site S) (runner : Runner R) (b : BoardState S) (sound : IsSound site runner b) (tells : IsTrue site.tells) (told : IsTrue runner.tells) (old : S)
    (prepared : IsPrepared site runner.next (site.world old) (site.moment old) b.opening.graph b.opening.site)
    (once : (number : ℕ) (rule : Rule) → slice_get (plan_of b).rules number ≡ Some rule → IsDistinct same_path rule.outputs)
    (earlier : (t u : ℕ) (w : World) → t ≤ u → site.left_since b.opening.site u w → site.left_since b.opening.site t w) (present : Before site b (site.world b.opening.site))
    (owns : OwnsNoMore site old (site.moment old) b.opening.site) where
  abbrev fg : GraphState
  fg = first_graph b

  -- a path that may be owned
  abbrev MayOwn : Names → Type 0
  MayOwn path = IsOwnedIn site old path ⊎ IsAskedOutput (site.world old) path

  abbrev opened : World
  opened = site.world b.opening.site

  -- the graph with which the board began owns no more
  first_owns : (path : Names) → is_owned fg path ≡ true → MayOwn path
  first_owns path mine =
      let here = owns opened (earlier (site.moment old) (site.moment b.opening.site) opened prepared.over.began present) in
      let stored = has_graph site runner.next tupfiles (site.known b.opening.site) (site.world old) (site.moment old) b.opening.graph b.opening.site prepared.over earlier opened present in
      here.2 path (ap (λ (g : GraphState). is_owned g path) (one_in_bytes opened.store here.0 fg here.1 stored) ∙ mine)

  asked : AsksFor (site.world old) (plan_of b).rules
  asked = subst (AsksFor (site.world old)) (sym sound.opening.plan.rules) prepared.rules

  -- nor does an image
  come_owns : (g : GraphState) → HasComeTo b g → (path : Names) → is_owned g path ≡ true → MayOwn path
  come_owns g come path mine = by (is_generated (plan_of b).rules path) refl
    where
      by : (made : Bool) → is_generated (plan_of b).rules path ≡ made → MayOwn path
      by true made = inr ((plan_of b).rules, asked, made)
      by false unmade = first_owns path (sym (ap is_some (come.beside.owned path unmade)) ∙ mine)

  owns_then : OwnsNoMore site old (site.moment old) b.site
  owns_then w left = by (sound.since tells (site.moment old) w prepared.over.began left)
    where
      by : site.left_since b.opening.site (site.moment old) w ⊎ IsImage site b w → OfGraph w (λ g. (path : Names) → is_owned g path ≡ true → MayOwn path)
      by (inl before) = owns w before
      by (inr (v, was, g, image)) = (g, in_bytes g w.store image.store, come_owns g image.come)

  pub crashes_left : SourcesAndCrashes site runner.next old b.site
  crashes_left = record {
    later = (let began = prepared.over.began in let later = sound.later tells in omega (arith, began, later));
    kept = site_kept site runner b sound tells told tupfiles (site.world old) (site.moment old) prepared.over (record { made = prepared.made; once = once }) earlier present;
    owned = owns_then;
  }
