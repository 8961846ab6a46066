-- A crash leaves a finished project as it is.
use Rattle.std.proofs.Common.{◌≡◌, inl, inr, ℕ, ◌≤◌, Bool, true, false, is_some, Option, None, Some, refl, sym, ap, ◌∙◌}
use Rattle.std.specs.FinMap as finite
use Rattle.std.specs.Option.{option_map}
use Rattle.std.proofs.lemmas.Option.{none-some, same_Some}
use Rattle.tup_path.specs.Name.{Names, Content}
use Rattle.tup_path.specs.Order.{by_names-total, by_names-antisymmetric}
use Rattle.tup_path.specs.Tree.{Tree}
use Rattle.tup_site.specs.Known.{Joins, KnowsTree}
use Rattle.tup_site.specs.World.{World}
use Rattle.tup_site.specs.declared.site.Site.{Ghosts as Site}
use Rattle.tup_stamp.specs.declared.Stamp.{Stamp}
use Rattle.tup_stamp.specs.Stamp.{stamp}
use Rattle.tup_runner.specs.Next.{Next}
use Rattle.tup_record.specs.declared.owned.OwnedState.{OwnedState}
use Rattle.tup_record.specs.declared.owned.OwnedState.TheVariants.{Unsure, Written}
use Rattle.tup_graph.specs.declared.owned.Owned.{Owned}
use Rattle.tup_graph.specs.Graph.{GraphState, is_owned}
use Rattle.tup_graph.specs.Kept.{HoldsItsOwn, file_beside}
use Rattle.tup_stored_graph.specs.Held.{Held}
use Rattle.tup_law_site.specs.Over.{LeftNow, StandsOver}
use Rattle.tup_law_site.proofs.Remaining.{has_graph, holds_before, sources_before}
use Rattle.tup_law_site.proofs.Stores.{one_in_bytes}
use Rattle.tup_law_phases.specs.Language.{tupfiles}
use Rattle.tup_promise.specs.Finished.{IsAsWritten, IsFinished, IsSettled}

-- two stamps that are written at once are one
pub written_one : (state : OwnedState) (one other : Stamp) → state ≡ Written one → state ≡ Written other → one ≡ other
written_one state one other mine theirs = let same : Written one ≡ Written other = sym mine ∙ theirs in cc

never_unsure : (state : OwnedState) (seen : Stamp) → state ≡ Written seen → state ≡ Unsure → ⊥
never_unsure state seen written unsure = let wrong : Written seen ≡ Unsure = sym written ∙ unsure in absurd (cc)

-- what isn't owned is a source
beside_plain : (w : World) (h : GraphState) (path : Names) → is_owned h path ≡ false → file_beside w h path ≡ finite.get w.tree path
beside_plain w h path unowned = ap (λ (owned : Bool). elim owned as (λ _. Option Content) [ true ↦ None | false ↦ finite.get w.tree path ]) unowned

module _ {S : Type 0} (site : Site S) (next : Next) (graph : Held) (at : S) (over : StandsOver site next tupfiles (site.known at) (site.world at) (site.moment at) graph at)
    (earlier : (t u : ℕ) (w : World) → t ≤ u → site.left_since at u w → site.left_since at t w) (present : LeftNow site at (site.world at)) (knows : KnowsTree (site.known at) (site.world at).tree)
    (joins : (w : World) → LeftNow site at w → Joins (site.known at) w.tree) (sources : Tree) (finished : IsFinished next sources graph.nodes (site.world at).tree) where
  abbrev h : GraphState
  h = graph.nodes

  abbrev now : World
  now = site.world at

  first_is : over.kept.now.graph ≡ h
  first_is = one_in_bytes now.store over.kept.now.graph h over.kept.now.reads (has_graph site next tupfiles (site.known at) now (site.moment at) graph at over earlier now present)

  -- files with one stamp are the same
  same_stamped : (w : World) (path : Names) (seen : Stamp) → LeftNow site at w → option_map stamp (finite.get w.tree path) ≡ Some seen → option_map stamp (finite.get now.tree path) ≡ Some seen
      → finite.get w.tree path ≡ finite.get now.tree path
  same_stamped w path seen left mine theirs = by (finite.get w.tree path) (finite.get now.tree path) refl refl mine theirs
    where
      by : (one other : Option Content) → finite.get w.tree path ≡ one → finite.get now.tree path ≡ other → option_map stamp one ≡ Some seen → option_map stamp other ≡ Some seen → one ≡ other
      by (Some one) (Some other) here there a b =
          ap Some (joins w left one other (inr (path, here)) (inl (knows path other there)) (same_Some (stamp one) (stamp other) (a ∙ sym b)))
      by None other here there a b = absurd (none-some seen a)
      by (Some one) None here there a b = absurd (none-some seen b)

  owned_same : (w : World) (path : Names) (owner : Owned) → LeftNow site at w → IsAsWritten now.tree path owner → HoldsItsOwn now w path owner → finite.get w.tree path ≡ finite.get now.tree path
  owned_same w path owner left (seen, state, stands) (inl unsure) = absurd (never_unsure owner.state seen state unsure)
  owned_same w path owner left (seen, state, stands) (inr (inl same)) = same
  owned_same w path owner left (seen, state, stands) (inr (inr (other, written, holds))) =
      same_stamped w path seen left (holds ∙ ap Some (written_one owner.state other seen written state)) stands

  same_file : (w : World) → LeftNow site at w → (path : Names) → finite.get w.tree path ≡ finite.get now.tree path
  same_file w left path = by (finite.get h.owned path) refl
    where
      by : (found : Option Owned) → finite.get h.owned path ≡ found → finite.get w.tree path ≡ finite.get now.tree path
      by (Some owner) here =
          owned_same w path owner left (finished.written path owner here) (holds_before site next tupfiles (site.known at) now (site.moment at) graph at over earlier w left path owner here)
      by None here =
          sym (beside_plain w h path (ap is_some here))
          ∙ sources_before site next tupfiles (site.known at) now (site.moment at) graph at over earlier w left path
          ∙ ap (λ (g : GraphState). file_beside now g path) first_is ∙ beside_plain now h path (ap is_some here)

  pub settled : IsSettled site at
  settled w left =
      let files : w.tree ≡ now.tree = finite.same_map by_names-total by_names-antisymmetric w.tree now.tree (same_file w left) in
      let store : w.store ≡ now.store = over.stands.rests.durable w left in
      λ i. record { tree = files i; store = store i }
