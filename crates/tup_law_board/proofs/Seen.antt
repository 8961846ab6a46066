-- What a graph sees once it forgot the paths that were cleared.
use Rattle.std.proofs.Common.{◌≡◌, Bool, true, false, cond, ◌&&◌, is_some, List, None, refl, sym, ap, ◌∙◌}
use Rattle.std.specs.FinMap as finite
use Rattle.std.specs.Option.{option_map}
use Rattle.tup_path.specs.Name.{Names}
use Rattle.tup_path.specs.Tree.{Tree}
use Rattle.tup_stamp.specs.Stamp.{stamp}
use Rattle.tup_rule.specs.Rule.{among}
use Rattle.tup_graph.specs.Graph.{GraphState}
use Rattle.tup_graph.specs.Reach.{stamp_in}
use Rattle.tup_graph.specs.Transactions.{with_forgotten}
use Rattle.tup_graph.proofs.Keeping.{get_removed}
use Rattle.tup_stale.specs.Files.{without}
use Rattle.tup_stale.specs.Unmade.{standing}
use Rattle.tup_law_board.proofs.Cleared.{none_there}
use Rattle.tup_law_board.proofs.Unmade.{among_filtered}

module _ (g : GraphState) (tree : Tree) (paths : List Names) (path : Names) (sees : finite.get g.seen path ≡ stamp_in tree path) where
  abbrev files : List Names
  files = standing tree paths

  listed : among path files ≡ (among path paths && is_some (finite.get tree path))
  listed = among_filtered (λ (p : Names). is_some (finite.get tree p)) paths path

  -- the file that is left there
  left : (b : Bool) → among path files ≡ b → finite.get (without tree files) path ≡ cond b None (finite.get tree path)
  left b e = get_removed files tree path ∙ ap (λ (c : Bool). cond c None (finite.get tree path)) e

  -- and what is seen of it
  seen_then : (b : Bool) → among path paths ≡ b → finite.get (with_forgotten g paths).seen path ≡ cond b None (finite.get g.seen path)
  seen_then b e = get_removed paths g.seen path ∙ ap (λ (c : Bool). cond c None (finite.get g.seen path)) e

  none_left : among path paths ≡ true → finite.get (without tree files) path ≡ None
  none_left inside = by (among path files) refl
    where
      by : (b : Bool) → among path files ≡ b → finite.get (without tree files) path ≡ None
      by true e = left true e
      by false e =
          left false e ∙ none_there (finite.get tree path) (sym (listed ∙ ap (λ (b : Bool). b && is_some (finite.get tree path)) inside) ∙ e)

  pub cleared_seen : finite.get (with_forgotten g paths).seen path ≡ stamp_in (without tree files) path
  cleared_seen = by (among path paths) refl
    where
      by : (b : Bool) → among path paths ≡ b → finite.get (with_forgotten g paths).seen path ≡ stamp_in (without tree files) path
      by true inside = seen_then true inside ∙ sym (ap (option_map stamp) (none_left inside))
      by false outside =
          seen_then false outside ∙ sees
          ∙ sym (ap (option_map stamp) (left false (listed ∙ ap (λ (b : Bool). b && is_some (finite.get tree path)) outside)))
