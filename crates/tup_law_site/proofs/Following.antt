-- Which graphs may follow a kept one on a kept site: those that the transactions leave.
use Rattle.std.proofs.Common.{◌≡◌, ◌⊎◌, inl, inr, ℕ, zero, suc, Bool, true, false, cond, is_some, unwrap_or, List, [], ◌∷◌, fold, Option, None, Some, Contains, refl, sym, ap, subst, ◌∙◌, arith}
use Rattle.std.specs.FinMap as finite
use Rattle.std.specs.Option.{option_map}
use Rattle.std.proofs.lemmas.List.Elements.{All-contains}
use Rattle.tup_path.specs.Name.{Names, Content}
use Rattle.tup_path.specs.Order.{same_path, same_path-by_names, by_names-total}
use Rattle.tup_path.proofs.Same.{same_path-decides}
use Rattle.tup_site.specs.World.{World}
use Rattle.tup_stamp.specs.declared.Stamp.{Stamp}
use Rattle.tup_stamp.specs.Stamp.{stamp}
use Rattle.tup_rule.specs.Rule.{among}
use Rattle.tup_rule.specs.declared.rule.Rule.{Rule}
use Rattle.tup_runner.specs.Next.{Next}
use Rattle.tup_record.specs.declared.owned.OwnedState.TheVariants.{Unsure, Written}
use Rattle.tup_record.specs.declared.run.RunRecord.{RunRecord}
use Rattle.tup_graph.specs.declared.owned.Owned.{Owned}
use Rattle.tup_graph.specs.Graph.{GraphState, is_flagged, is_owned, outputs_of}
use Rattle.tup_graph.specs.Kept.{Asked, AreWithReaders, EndsWell, HoldsItsOwn, IsKept, IsRuleAt, IsUnflagged}
use Rattle.tup_graph.specs.Records.{Language}
use Rattle.tup_graph.specs.Transactions.{maker_of, with_state, begun, finished, unsure_as, with_doomed, with_forgotten, with_flagged}
use Rattle.tup_graph.proofs.Keeping.{OwnedPaths, some_alike, begin_keeps, same_makers, one_unsure, all_doomed, doom_keeps, get_removed, forget_keeps}
use Rattle.tup_graph.proofs.Finishing.{finish_keeps, owned_alike}
use Rattle.tup_graph.proofs.Flagging.{flag_keeps}
use Rattle.tup_law_site.specs.Over.{HasNoFile, StandWith, MayFollow}

-- ---- owned paths of which some are put
got_put : (owned : OwnedPaths) (path q : Names) (one o : Owned) → finite.get (finite.insert owned path one) q ≡ Some o → (finite.get owned q ≡ Some o) ⊎ ((q ≡ path) × (o ≡ one))
got_put owned path q one o is = by (same_path q path) refl (sym got ∙ is)
  where
    got : finite.get (finite.insert owned path one) q ≡ cond (same_path q path) (Some one) (finite.get owned q)
    got = finite.get-insert by_names-total owned path one q ∙ ap (λ (b : Bool). cond b (Some one) (finite.get owned q)) (sym (same_path-by_names q path))

    by : (b : Bool) → same_path q path ≡ b → cond b (Some one) (finite.get owned q) ≡ Some o → (finite.get owned q ≡ Some o) ⊎ ((q ≡ path) × (o ≡ one))
    by true same there = inr ((same_path-decides q path).0 same, (let here : Some one ≡ Some o = there in cc))
    by false other there = inl there

-- the outputs of a rule become unsure
begun_or_same : (g : GraphState) (number : ℕ) (paths : List Names) (owned : OwnedPaths) (q : Names) (o : Owned) → finite.get (fold (with_state g number Unsure) owned paths) q ≡ Some o
    → (o.state ≡ Unsure) ⊎ (finite.get owned q ≡ Some o)
begun_or_same g number [] owned q o is = inr is
begun_or_same g number (path ∷ paths) owned q o is = by (begun_or_same g number paths (with_state g number Unsure owned path) q o is)
  where
    one : Owned
    one = record { maker = maker_of g number path; state = Unsure }

    there : (finite.get owned q ≡ Some o) ⊎ ((q ≡ path) × (o ≡ one)) → (o.state ≡ Unsure) ⊎ (finite.get owned q ≡ Some o)
    there (inl same) = inr same
    there (inr (here, new)) = inl (ap (λ (x : Owned). x.state) new)

    by : (o.state ≡ Unsure) ⊎ (finite.get (with_state g number Unsure owned path) q ≡ Some o) → (o.state ≡ Unsure) ⊎ (finite.get owned q ≡ Some o)
    by (inl unsure) = inl unsure
    by (inr put) = there (got_put owned path q one o put)

-- some paths become unsure
doomed_or_same : (g : GraphState) (paths : List Names) (owned : OwnedPaths) (q : Names) (o : Owned) → finite.get (fold (one_unsure g) owned paths) q ≡ Some o → (o.state ≡ Unsure) ⊎ (finite.get owned q ≡ Some o)
doomed_or_same g [] owned q o is = inr is
doomed_or_same g (path ∷ paths) owned q o is = by (finite.get g.owned path) (doomed_or_same g paths (one_unsure g owned path) q o is)
  where
    there : (one : Owned) → (finite.get owned q ≡ Some o) ⊎ ((q ≡ path) × (o ≡ record { maker = one.maker; state = Unsure })) → (o.state ≡ Unsure) ⊎ (finite.get owned q ≡ Some o)
    there one (inl same) = inr same
    there one (inr (here, new)) = inl (ap (λ (x : Owned). x.state) new)

    by : (found : Option Owned) → (o.state ≡ Unsure) ⊎ (finite.get (unsure_as path found owned) q ≡ Some o) → (o.state ≡ Unsure) ⊎ (finite.get owned q ≡ Some o)
    by found (inl unsure) = inl unsure
    by None (inr put) = inr put
    by (Some one) (inr put) = there one (got_put owned path q (record { maker = one.maker; state = Unsure }) o put)

-- files become written
written_or_same : (g : GraphState) (number : ℕ) (files : List (Names × Stamp)) (owned : OwnedPaths) (q : Names) (o : Owned)
    → finite.get (fold (λ owned (file : Names × Stamp). with_state g number (Written file.1) owned file.0) owned files) q ≡ Some o
    → ((file : Names × Stamp) × Contains files file × (file.0 ≡ q) × (o.state ≡ Written file.1)) ⊎ (finite.get owned q ≡ Some o)
written_or_same g number [] owned q o is = inr is
written_or_same g number (file ∷ files) owned q o is = by (written_or_same g number files (with_state g number (Written file.1) owned file.0) q o is)
  where
    IsOf : List (Names × Stamp) → Type 0
    IsOf all = (f : Names × Stamp) × Contains all f × (f.0 ≡ q) × (o.state ≡ Written f.1)

    one : Owned
    one = record { maker = maker_of g number file.0; state = Written file.1 }

    there : (finite.get owned q ≡ Some o) ⊎ ((q ≡ file.0) × (o ≡ one)) → IsOf (file ∷ files) ⊎ (finite.get owned q ≡ Some o)
    there (inl same) = inr same
    there (inr (here, new)) = inl (file, (zero, omega arith, refl), sym here, ap (λ (x : Owned). x.state) new)

    by : IsOf files ⊎ (finite.get (with_state g number (Written file.1) owned file.0) q ≡ Some o) → IsOf (file ∷ files) ⊎ (finite.get owned q ≡ Some o)
    by (inl (f, (at, less, is_it), here, state)) = inl (f, (suc at, omega (arith, less), is_it), here, state)
    by (inr put) = there (got_put owned file.0 q one o put)

-- ---- the transactions
module _ (next : Next) (language : Language) (known : List Content) (first : World) (Left : World → Type 0) (g : GraphState) (kept : IsKept next language known g) where
  abbrev Follows : GraphState → Type 0
  Follows h = MayFollow next language known first Left g h

  -- an owned path is unsure, or was in the same state
  abbrev Unchanged : Owned → Names → Type 0
  Unchanged o path =
      (o.state ≡ Unsure) ⊎ ((was : Owned) × (finite.get g.owned path ≡ Some was) × (o.state ≡ was.state)) ⊎ ((w : World) → Left w → HoldsItsOwn first w path o)

  unsure_or_same : (o : Owned) (path : Names) → (o.state ≡ Unsure) ⊎ (finite.get g.owned path ≡ Some o) → Unchanged o path
  unsure_or_same o path (inl unsure) = inl unsure
  unsure_or_same o path (inr same) = inr (inl (o, same, refl))

  pub begin_follows : (number : ℕ) (rule : Rule) → IsRuleAt g number rule → is_flagged g number ≡ true → Follows (begun g number)
  begin_follows number rule here flagged = record {
    kept = begin_keeps next language known g number rule kept here flagged;
    owned = λ path. inl (some_alike (finite.get (begun g number).owned path) (finite.get g.owned path) (same_makers g number mine path));
    own = λ path o is. unsure_or_same o path (begun_or_same g number (outputs_of g number) g.owned path o is);
  }
    where
      outputs : outputs_of g number ≡ rule.outputs
      outputs = ap (λ (found : Option Rule). unwrap_or (option_map (λ (r : Rule). r.outputs) found) []) here

      mine : (path : Names) → among path (outputs_of g number) ≡ true → (o : Owned) × (finite.get g.owned path ≡ Some o) × (o.maker ≡ Some number)
      mine path is = kept.owners.made number rule path here (ap (among path) (sym outputs) ∙ is)

  pub finish_follows : (number : ℕ) (rule : Rule) (run : RunRecord) → EndsWell next known g number rule run → StandWith Left run.writes → Follows (finished g number run)
  finish_follows number rule run ends stand = record {
    kept = finish_keeps next language known g kept number rule run ends;
    owned = λ path. inl (owned_alike next language known g kept number rule run ends path);
    own = λ path o is. by path o (written_or_same g number run.writes g.owned path o is);
  }
    where
      by : (path : Names) (o : Owned) → ((file : Names × Stamp) × Contains run.writes file × (file.0 ≡ path) × (o.state ≡ Written file.1)) ⊎ (finite.get g.owned path ≡ Some o) → Unchanged o path
      by path o (inr same) = inr (inl (o, same, refl))
      by path o (inl (file, there, here, state)) = inr (inr (λ w left. inr (inr (
        file.1,
        state,
        subst (λ (p : Names). option_map stamp (finite.get w.tree p) ≡ Some file.1) here
            (All-contains (λ (f : Names × Stamp). option_map stamp (finite.get w.tree f.0) ≡ Some f.1) run.writes file (stand w left) there),
      ))))

  pub doom_follows : (paths : List Names) → ((path : Names) (o : Owned) → among path paths ≡ true → finite.get g.owned path ≡ Some o → o.maker ≡ None) → Follows (with_doomed g paths)
  doom_follows paths unmade = record {
    kept = doom_keeps next language known g paths kept unmade;
    owned = λ path. inl (some_alike (finite.get (with_doomed g paths).owned path) (finite.get g.owned path) (all_doomed g paths g.owned (λ q. refl) path));
    own = λ path o is. unsure_or_same o path (doomed_or_same g paths g.owned path o is);
  }

  pub forget_follows : (paths : List Names) → ((path : Names) → among path paths ≡ true → (o : Owned) × (finite.get g.owned path ≡ Some o) × (o.maker ≡ None))
      → ((number : ℕ) (rule : Rule) (run : RunRecord) (path : Names) (given : Option Stamp) → IsUnflagged g number rule → finite.get g.runs number ≡ Some run → Asked rule run path given → among path paths ≡ false)
      → ((path : Names) → among path paths ≡ true → HasNoFile Left path) → Follows (with_forgotten g paths)
  forget_follows paths unmade unread gone = record {
    kept = forget_keeps next language known g paths kept unmade unread;
    owned = λ path. fewer path (among path paths) refl;
    own = λ path o is. inr (inl (o, by path o (among path paths) (sym (left path) ∙ is), refl));
  }
    where
      left : (path : Names) → finite.get (with_forgotten g paths).owned path ≡ cond (among path paths) None (finite.get g.owned path)
      left path = get_removed paths g.owned path

      fewer : (path : Names) (b : Bool) → among path paths ≡ b → (is_owned (with_forgotten g paths) path ≡ is_owned g path) ⊎ HasNoFile Left path
      fewer path true is = inr (gone path is)
      fewer path false is = inl (ap is_some (left path ∙ ap (λ (b : Bool). cond b None (finite.get g.owned path)) is))

      by : (path : Names) (o : Owned) (b : Bool) → cond b None (finite.get g.owned path) ≡ Some o → finite.get g.owned path ≡ Some o
      by path o true none = absurd (cc)
      by path o false same = same

  pub flag_follows : (numbers : List ℕ) → AreWithReaders g numbers → Follows (with_flagged g numbers)
  flag_follows numbers closed = record {
    kept = flag_keeps next language known g numbers kept closed;
    owned = λ path. inl refl;
    own = λ path o is. inr (inl (o, is, refl));
  }
