-- Where a file may stand.
use Rattle.std.proofs.Common.{◌≡◌, ◌≢◌, Bool, true, false, not, List, [], ◌∷◌, ◌++◌, map, refl, sym, ap, subst, ◌∙◌, arith}
use Rattle.std.specs.Prelude.{◌↔◌, All, Contains, IsSome, IsTrue}
use Rattle.std.specs.FinMap as finite
use Rattle.std.proofs.lemmas.Bool.{false≢true}
use Rattle.std.proofs.lemmas.List.{append-nil, map-append}
use Rattle.std.proofs.lemmas.List.Elements.{All-contains, All-map, Contains-append_right}
use Rattle.tup_path.specs.Name.{Names}
use Rattle.tup_path.specs.Order.{by_names}
use Rattle.tup_rule.proofs.Laws.{among-decides}
use Rattle.tup_ledger.proofs.Keys.{among_keys}
use Rattle.tup_graph.specs.Graph.{GraphState}
use Rattle.tup_apart.specs.Makers.{Makers}
use Rattle.tup_apart.specs.Place.{HasPlace, IsOver, IsUnderFile}

module _ {X : Type 0} (m : finite.FinMap by_names X) (path : Names) where
  -- what a map has is among its keys, and nothing else is
  pub key_at : IsSome (finite.get m path) → Contains (finite.keys m) path
  key_at here = (among-decides path (finite.keys m)).0 (among_keys m path ∙ here)

  pub at_key : Contains (finite.keys m) path → IsSome (finite.get m path)
  at_key has = sym (among_keys m path) ∙ (among-decides path (finite.keys m)).1 has

module _ {X : Type 0} (m : finite.FinMap by_names X) (before rest : List (Names × X)) where
  -- what stands among the entries of a map is in it
  pub listed_key : (entry : Names × X) → before ++ entry ∷ rest ≡ finite.entries m → IsSome (finite.get m entry.0)
  listed_key entry whole =
      at_key m entry.0 (subst (λ (es : List (Names × X)). Contains (map (λ (e : Names × X). e.0) es) entry.0) whole
      (subst (λ (ks : List Names). Contains ks entry.0) (sym (map-append (λ (e : Names × X). e.0) before (entry ∷ rest)))
      (Contains-append_right (map (λ (e : Names × X). e.0) before) (map (λ (e : Names × X). e.0) (entry ∷ rest)) entry.0 (0, omega arith, refl))))

  -- and what holds of all of them holds of what it has
  pub holds_of_all : (P : Names → Type 0) → before ++ rest ≡ finite.entries m → rest ≡ [] → All (λ (e : Names × X). P e.0) before → (path : Names) → IsSome (finite.get m path) → P path
  holds_of_all P whole none all path some =
      All-contains P (finite.keys m) path
      (All-map P (λ (e : Names × X). e.0) (finite.entries m)
      (subst (λ (es : List (Names × X)). All (λ (e : Names × X). P e.0) es) (sym (append-nil before) ∙ ap (λ (l : List (Names × X)). before ++ l) (sym none) ∙ whole) all))
      (key_at m path some)

-- a test that fails just where something holds
pub turned : (b : Bool) (P Q : Type 0) → IsTrue b ↔ P → ((P → ⊥) → Q) → (Q → P → ⊥) → IsTrue (not b) ↔ Q
turned true P Q tested holds apart = (λ (wrong : false ≡ true). absurd (false≢true wrong), λ q. absurd (apart q (tested.0 refl)))
turned false P Q tested holds apart = (λ _. holds (λ p. false≢true (tested.1 p)), λ _. refl)

module _ (g : GraphState) (makers : Makers) (path : Names) where
  pub placed : path ≢ [] → (IsOver path (finite.keys g.seen) → ⊥) → (IsUnderFile g makers path → ⊥) → HasPlace g makers path
  placed not_top not_over not_under = record {
    not_top = not_top;
    none_above = not_under;
    none_below = λ other seen below. not_over (other, key_at g.seen other seen, below);
  }

  pub not_over : HasPlace g makers path → IsOver path (finite.keys g.seen) → ⊥
  not_over place (other, key, below) = place.none_below other (at_key g.seen other key) below
