-- Folders of sources that came or went, found by comparing two sets of folders.
use Rattle.std.specs.Prelude.{◌≡◌, ◌⊎◌, ◌↔◌, Bool, true, false, not, cond, Decides, List, [], ◌∷◌, ◌++◌, Option, None, Some, Contains, is_some}
use Rattle.std.proofs.Common.{refl, sym, ap, subst, ◌∙◌, inl, inr}
use Rattle.std.specs.BTreeSet.{BTreeSet, contains}
use Rattle.std.specs.FinMap as finite
use Rattle.std.proofs.lemmas.Bool.{true≢false}
use Rattle.std.proofs.lemmas.List.Elements.{Contains-append_left, Contains-push, Contains-push_cases}
use Rattle.tup_path.specs.Name.{Names}
use Rattle.tup_path.specs.Order.{by_names}
use Rattle.tup_path.proofs.Same.{by_names-decides}
use Rattle.tup_stamp.specs.declared.Stamp.{Stamp}
use Rattle.tup_rule.specs.Rule.{writes}
use Rattle.tup_rule.specs.declared.rule.Rule.{Rule}
use Rattle.tup_graph.specs.Answers.{HasSourceBelow, IsSource, Sources}
use Rattle.tup_graph.specs.Graph.{GraphState, is_owned, source}
use Rattle.tup_graph.specs.Turned.{IsTurned}
use Rattle.tup_closure.proofs.Members.{contained, in_empty, in_set}
use Rattle.tup_scan_diff.specs.Present.{over, seeing, stamps_from}
use Rattle.tup_scan_diff.specs.Sets.{GrowsBy, Has}
use Rattle.tup_scan_diff.specs.Turned.{AreAtSamePaths, AreFolders, AreTurned, AtSamePaths, HasTurned, IsLacking, IsToldTurned}
use Rattle.tup_scan_diff.specs.declared.present.Present.{Present}
use Rattle.tup_scan_diff.specs.declared.stamps.Stamps.{Stamps}
use Rattle.tup_scan_diff.specs.declared.stamps.Stamps.TheVariants.{Edited}
use Rattle.tup_scan_diff.proofs.Sets.{set_as, set_on}

-- ---- files at the same paths

-- a folder has a source below it, where each source is one
below_too : (old new : Sources) (path : Names) → ((p : Names) → IsSource old p → IsSource new p) → HasSourceBelow old path → HasSourceBelow new path
below_too old new path too (file, below, is) = (file, below, too file is)

module _ (g : GraphState) (stamps : finite.FinMap by_names Stamp) (same : AtSamePaths g.seen stamps) where
  same_source : (p : Names) → is_some (source (seeing g stamps) p) ≡ is_some (source g p)
  same_source p = either (is_owned g p)
    where
      either : (b : Bool) → is_some (cond b None (finite.get stamps p)) ≡ is_some (cond b None (finite.get g.seen p))
      either true = refl
      either false = same p

  came_not : (path : Names) → HasSourceBelow (source (seeing g stamps)) path → HasSourceBelow (source g) path
  came_not path = below_too (source (seeing g stamps)) (source g) path (λ p is. sym (same_source p) ∙ is)

  went_not : (path : Names) → HasSourceBelow (source g) path → HasSourceBelow (source (seeing g stamps)) path
  went_not path = below_too (source g) (source (seeing g stamps)) path (λ p is. same_source p ∙ is)

  not_turned : (path : Names) → IsTurned (source g) (source (seeing g stamps)) path → ⊥
  not_turned path (inl (has, had_none)) = had_none (came_not path has)
  not_turned path (inr (had, has_none)) = has_none (went_not path had)

  -- no path turned
  none_turned : (none : BTreeSet Names) → none.keys ≡ [] → AreTurned g (seeing g stamps) none
  none_turned none empty path = (
    λ h. absurd (true≢false (sym h ∙ in_empty by_names by_names-decides none path empty)),
    λ turned. absurd (not_turned path turned),
  )

-- nor where just some files have other stamps
pub none_came : (g : GraphState) (stamps : Stamps) (none : BTreeSet Names) (changed : finite.FinMap by_names Stamp) → none.keys ≡ [] → stamps ≡ Edited changed → AreAtSamePaths g stamps → AreTurned g (seeing g (stamps_from g stamps)) none
none_came g stamps none changed empty is same =
    subst (λ (s : Stamps). AreTurned g (seeing g (stamps_from g s)) none) (sym is) (none_turned g (over g.seen changed) (subst (AreAtSamePaths g) is same) none empty)

-- ---- the paths that are in just one of two sets

-- one path more that another set may lack
pub lacking_more : (other : BTreeSet Names) (paths : List Names) (path : Names) (a b c : BTreeSet Names) → GrowsBy by_names (IsLacking other paths) a b → GrowsBy by_names (λ one. (one ≡ path) × (Has by_names other path → ⊥)) b c
    → GrowsBy by_names (IsLacking other (paths ++ path ∷ [])) a c
lacking_more other paths path a b c first one = set_as to from (set_on first one)
  where
    to : (p : Names) → IsLacking other paths p ⊎ ((p ≡ path) × (Has by_names other path → ⊥)) → IsLacking other (paths ++ path ∷ []) p
    to p (inl (h, none)) = (Contains-append_left paths (path ∷ []) p h, none)
    to p (inr (e, none)) = (subst (Contains (paths ++ path ∷ [])) (sym e) (Contains-push paths path), subst (λ (q : Names). Has by_names other q → ⊥) (sym e) none)

    from : (p : Names) → IsLacking other (paths ++ path ∷ []) p → IsLacking other paths p ⊎ ((p ≡ path) × (Has by_names other path → ⊥))
    from p (h, none) = elim (Contains-push_cases paths path p h) [
      | inl before ↦ inl (before, none)
      | inr last ↦ inr (sym last, subst (λ (q : Names). Has by_names other q → ⊥) (sym last) none)
    ]

-- both ways
pub in_either : {P Q : Names → Type 0} (a b c : BTreeSet Names) → a.keys ≡ [] → GrowsBy by_names P a b → GrowsBy by_names Q b c → (path : Names) → Has by_names c path ↔ (P path ⊎ Q path)
in_either {P} {Q} a b c empty first second path = (to, from)
  where
    early : Has by_names b path → P path ⊎ Q path
    early h = elim (first.keys.only path h) [
      | inl at_first ↦ absurd (true≢false (sym at_first ∙ in_empty by_names by_names-decides a path empty))
      | inr p ↦ inl p
    ]

    to : Has by_names c path → P path ⊎ Q path
    to h = elim (second.keys.only path h) [ inl before ↦ early before | inr q ↦ inr q ]

    from : P path ⊎ Q path → Has by_names c path
    from (inl p) = second.keys.kept path (first.keys.all path p)
    from (inr q) = second.keys.all path q

-- of the folders of two graphs these are the paths that turned
module _ (old new : GraphState) (before after turned : BTreeSet Names) (were : AreFolders old before) (are : AreFolders new after)
    (just : (path : Names) → Has by_names turned path ↔ (IsLacking before after.keys path ⊎ IsLacking after before.keys path)) where
  to_turned : (path : Names) → IsLacking before after.keys path ⊎ IsLacking after before.keys path → IsTurned (source old) (source new) path
  to_turned path (inl (h, none)) = inl ((are path).0 (in_set by_names by_names-decides after path h), λ had. none ((were path).1 had))
  to_turned path (inr (h, none)) = inr ((were path).0 (in_set by_names by_names-decides before path h), λ has. none ((are path).1 has))

  from_turned : (path : Names) → IsTurned (source old) (source new) path → IsLacking before after.keys path ⊎ IsLacking after before.keys path
  from_turned path (inl (has, had_none)) = inl (contained by_names by_names-decides after path ((are path).1 has), λ h. had_none ((were path).0 h))
  from_turned path (inr (had, has_none)) = inr (contained by_names by_names-decides before path ((were path).1 had), λ h. has_none ((are path).0 h))

  pub turned_are : AreTurned old new turned
  turned_are path = (λ h. to_turned path ((just path).0 h), λ is. (just path).1 (from_turned path is))

-- ---- whether a path was told to have no file, and turned

module _ (present : Present) (turned : HasTurned present) (rule : Rule) (path : Names) (given : Option Stamp) where
  -- it was told to have one
  pub told_file : is_some given ≡ true → Decides false (IsToldTurned present rule path given)
  told_file some = (λ e. absurd (true≢false (sym e)), λ told. absurd (true≢false (sym some ∙ ap is_some told.0.0)))

  -- it didn't turn
  pub told_other : contains by_names present.turned path ≡ false → Decides false (IsToldTurned present rule path given)
  told_other lacks = (λ e. absurd (true≢false (sym e)), λ told. absurd (true≢false (sym ((turned path).1 told.1) ∙ lacks)))

  -- it did
  pub told_turned : is_some given ≡ false → Has by_names present.turned path → (b : Bool) → writes rule path ≡ b → Decides (not b) (IsToldTurned present rule path given)
  told_turned none has true mine = (λ e. absurd (true≢false (sym e)), λ told. absurd (true≢false (sym mine ∙ told.0.1)))
  told_turned none has false other = (λ _. ((none_of given none, other), (turned path).0 has), λ _. refl)
    where
      none_of : (found : Option Stamp) → is_some found ≡ false → found ≡ None
      none_of None e = refl
      none_of (Some one) e = absurd (true≢false e)
