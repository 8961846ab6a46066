-- Which graphs may follow a kept one on a kept site: those that a scan and a swap of rules leave.
use Rattle.std.proofs.Common.{◌≡◌, ◌⊎◌, inl, inr, ℕ, Bool, true, false, is_some, List, Option, None, Some, All, Contains, refl, sym, ap, ◌∙◌}
use Rattle.std.specs.FinMap as finite
use Rattle.std.specs.Prelude.{option_to_list}
use Rattle.std.proofs.lemmas.Option.{same_Some}
use Rattle.tup_path.specs.Name.{Names, Content}
use Rattle.tup_path.specs.Order.{by_names}
use Rattle.tup_site.specs.World.{World}
use Rattle.tup_stamp.specs.declared.Stamp.{Stamp}
use Rattle.tup_rule.specs.Rule.{maker}
use Rattle.tup_rule.specs.declared.question.Reading.{Reading}
use Rattle.tup_rule.specs.declared.rule.Rule.{Rule}
use Rattle.tup_rule.proofs.Laws.{maker-Some}
use Rattle.tup_runner.specs.Next.{Next}
use Rattle.tup_record.specs.declared.owned.OwnedState.TheVariants.{Unsure}
use Rattle.tup_graph.specs.declared.owned.Owned.{Owned}
use Rattle.tup_graph.specs.Graph.{GraphState, is_owned, source}
use Rattle.tup_graph.specs.Kept.{HoldsItsOwn, IsKept}
use Rattle.tup_graph.specs.Records.{Language}
use Rattle.tup_graph.specs.Scan.{IsScanned}
use Rattle.tup_graph.specs.Swap.{IsSwapped}
use Rattle.tup_law_graph.specs.Fitting.{AreFitting}
use Rattle.tup_law_graph.proofs.Scanning.{scan_keeps}
use Rattle.tup_law_graph.proofs.Swapping.{owned_by, owned_if, swap_keeps}
use Rattle.tup_law_site.specs.Over.{HasNoFile, MayFollow}

module _ (next : Next) (language : Language) (known : List Content) (first : World) (Left : World → Type 0) (g new : GraphState) (kept : IsKept next language known g) where
  pub scan_follows : (files : List (Names × Stamp)) (config : Option Content) → All (Contains known) (option_to_list config) → IsScanned g files config new → MayFollow next language known first Left g new
  scan_follows files config knows is = record {
    kept = scan_keeps next language known g new files config kept knows is;
    owned = λ path. inl (ap (λ (m : finite.FinMap by_names Owned). is_some (finite.get m path)) is.owned);
    own = λ path o here. inr (inl (o, ap (λ (m : finite.FinMap by_names Owned). finite.get m path) (sym is.owned) ∙ here, refl));
  }

  module _ (fresh : List (Names × Reading)) (gone : List Names) (rules : List Rule) (fits : AreFitting language known g fresh gone rules) (is : IsSwapped g fresh gone rules new) where
    -- what comes to be owned is no file that is seen
    pub new_is_unseen : (path : Names) → is_owned g path ≡ false → is_owned new path ≡ true → source g path ≡ None
    new_is_unseen path before after = by (maker path rules) refl (finite.get g.owned path) refl
      where
        by : (found : Option ℕ) → maker path rules ≡ found → (was : Option Owned) → finite.get g.owned path ≡ was → source g path ≡ None
        by (Some number) makes was here = (let it = maker-Some rules path number makes in fits.beside.apart number it.rule path it.here it.writes_it)
        by None makes (Some o) here = absurd (let wrong : true ≡ false = sym (ap is_some here) ∙ before in cc)
        by None makes None here =
            absurd (let wrong : false ≡ true = sym (ap is_some (owned_if language known g new fresh gone rules fits is path None makes ∙ ap (owned_by None) here)) ∙ after in cc)

    module _ (gone_there : (path : Names) → is_owned g path ≡ false → is_owned new path ≡ true → HasNoFile Left path × (finite.get first.tree path ≡ None)) where
      abbrev Stays : Names → Owned → Type 0
      Stays path o = (o.state ≡ Unsure) ⊎ ((was : Owned) × (finite.get g.owned path ≡ Some was) × (o.state ≡ was.state)) ⊎ ((w : World) → Left w → HoldsItsOwn first w path o)

      owned_alike : (path : Names) → (is_owned new path ≡ is_owned g path) ⊎ HasNoFile Left path
      owned_alike path = by (is_owned g path) refl (is_owned new path) refl
        where
          was : (o : Option Owned) → finite.get g.owned path ≡ o → is_some o ≡ true → is_owned new path ≡ true
          was (Some o) here some = still (maker path rules) refl
            where
              still : (found : Option ℕ) → maker path rules ≡ found → is_owned new path ≡ true
              still (Some number) makes = ap is_some (owned_if language known g new fresh gone rules fits is path (Some number) makes)
              still None makes = ap is_some (owned_if language known g new fresh gone rules fits is path None makes ∙ ap (owned_by None) here)
          was None here some = absurd (let wrong : false ≡ true = some in cc)

          by : (before : Bool) → is_owned g path ≡ before → (after : Bool) → is_owned new path ≡ after → (is_owned new path ≡ is_owned g path) ⊎ HasNoFile Left path
          by true before after now = inl (was (finite.get g.owned path) refl before ∙ sym before)
          by false before false now = inl (now ∙ sym before)
          by false before true now = inr (gone_there path before now).0

      state_stays : (path : Names) (o : Owned) → finite.get new.owned path ≡ Some o → Stays path o
      state_stays path o here = by (finite.get g.owned path) refl (maker path rules) refl
        where
          by : (before : Option Owned) → finite.get g.owned path ≡ before → (found : Option ℕ) → maker path rules ≡ found → Stays path o
          by (Some was) before found makes =
              inr (inl (was, before, states found (sym here ∙ owned_if language known g new fresh gone rules fits is path found makes ∙ ap (owned_by found) before)))
            where
              states : (found : Option ℕ) → Some o ≡ owned_by found (Some was) → o.state ≡ was.state
              states (Some number) same = ap (λ (y : Owned). y.state) (same_Some o (record { maker = Some number; state = was.state }) same)
              states None same = ap (λ (y : Owned). y.state) (same_Some o (record { maker = None; state = was.state }) same)
          by None before found makes =
              let none = gone_there path (ap is_some before) (ap is_some here) in
              inr (inr (λ w left. inr (inl (none.0 w left ∙ sym none.1))))

      pub swap_follows : MayFollow next language known first Left g new
      swap_follows = record { kept = swap_keeps language known g new fresh gone rules fits is next kept; owned = owned_alike; own = state_stays }
