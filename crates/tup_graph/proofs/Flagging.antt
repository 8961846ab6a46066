-- Rules that become flagged with all that asked their outputs keep a kept graph.
use Rattle.std.proofs.Common.{◌≡◌, ◌⊎◌, inl, inr, ℕ, zero, suc, ◌<◌, Bool, true, false, cond, is_some, List, [], ◌∷◌, fold, length, slice_index_or, Option, Some, Contains, refl, sym, ap, subst, ◌∙◌, arith}
use Rattle.std.specs.FinMap as finite
use Rattle.std.specs.Ordering.{eq_by_cmp, is_eq, nat_cmp}
use Rattle.std.specs.Cmp.{nat_cmp_total}
use Rattle.std.proofs.lemmas.Cmp.{tied_itself}
use Rattle.tup_path.specs.Name.{Names, Content}
use Rattle.tup_stamp.specs.declared.Stamp.{Stamp}
use Rattle.tup_rule.specs.Rule.{writes}
use Rattle.tup_rule.specs.declared.rule.Rule.{Rule}
use Rattle.tup_runner.specs.Next.{Next}
use Rattle.tup_record.specs.declared.run.RunRecord.{RunRecord}
use Rattle.tup_graph.specs.Graph.{GraphState, is_flagged}
use Rattle.tup_graph.specs.Kept.{IsRuleAt, IsUnflagged, IsKept, AreWithReaders}
use Rattle.tup_graph.specs.Records.{Language}
use Rattle.tup_graph.specs.Transactions.{with_flagged}
use Rattle.tup_graph.proofs.Finishing.{same_number}

-- ---- flags to which numbers are added
abbrev Flags : Type 0
Flags = finite.FinMap nat_cmp (Unit {0})

abbrev more : Flags → ℕ → Flags
more flags number = finite.insert flags number tt

one_more : (flags : Flags) (n m : ℕ) → finite.contains_key (more flags n) m ≡ is_some (cond (eq_by_cmp nat_cmp m n) (Some tt) (finite.get flags m))
one_more flags n m = ap is_some (finite.get-insert nat_cmp_total flags n tt m)

-- what was flagged still is
stays : (numbers : List ℕ) (flags : Flags) (m : ℕ) → finite.contains_key flags m ≡ true → finite.contains_key (fold more flags numbers) m ≡ true
stays [] flags m is = is
stays (n ∷ numbers) flags m is = stays numbers (more flags n) m (one_more flags n m ∙ by (eq_by_cmp nat_cmp m n))
  where
    by : (b : Bool) → is_some (cond b (Some tt) (finite.get flags m)) ≡ true
    by true = refl
    by false = is

-- each of the numbers is flagged
comes : (numbers : List ℕ) (flags : Flags) (m at : ℕ) → at < length numbers → slice_index_or numbers at m ≡ m → finite.contains_key (fold more flags numbers) m ≡ true
comes [] flags m at within is = absurd (let less = within in omega (arith, less))
comes (n ∷ numbers) flags m zero within is =
    let first : n ≡ m = is in
    let same : eq_by_cmp nat_cmp m n ≡ true = subst (λ (k : ℕ). eq_by_cmp nat_cmp k n ≡ true) first (ap is_eq (tied_itself nat_cmp_total n)) in
    stays numbers (more flags n) m (one_more flags n m ∙ ap (λ (b : Bool). is_some (cond b (Some tt) (finite.get flags m))) same)
comes (n ∷ numbers) flags m (suc at) within is = comes numbers (more flags n) m at (let less = within in omega (arith, less)) is

-- what is flagged is one of the numbers, or was flagged
came : (numbers : List ℕ) (flags : Flags) (m : ℕ) → finite.contains_key (fold more flags numbers) m ≡ true → Contains numbers m ⊎ (finite.contains_key flags m ≡ true)
came [] flags m is = inr is
came (n ∷ numbers) flags m is = first (came numbers (more flags n) m is)
  where
    by : (b : Bool) → eq_by_cmp nat_cmp m n ≡ b → is_some (cond b (Some tt) (finite.get flags m)) ≡ true → Contains (n ∷ numbers) m ⊎ (finite.contains_key flags m ≡ true)
    by true same now = inl (zero, omega arith, sym (same_number m n same))
    by false other now = inr now

    first : Contains numbers m ⊎ (finite.contains_key (more flags n) m ≡ true) → Contains (n ∷ numbers) m ⊎ (finite.contains_key flags m ≡ true)
    first (inl there) = inl (suc there.0, (let less = there.1 in omega (arith, less)), there.2)
    first (inr now) = by (eq_by_cmp nat_cmp m n) refl (sym (one_more flags n m) ∙ now)

module _ (next : Next) (language : Language) (known : List Content) (g : GraphState) (numbers : List ℕ) (kept : IsKept next language known g) (closed : AreWithReaders g numbers) where
  abbrev now : GraphState
  now = with_flagged g numbers

  -- what isn't flagged wasn't
  before : (number : ℕ) (rule : Rule) → IsUnflagged now number rule → IsUnflagged g number rule
  before number rule is = record { here = is.here; unflagged = by (is_flagged g number) refl }
    where
      by : (b : Bool) → is_flagged g number ≡ b → b ≡ false
      by false off = refl
      by true on = sym (stays numbers g.flags number on) ∙ is.unflagged

  -- what is one of the numbers, or was flagged, is flagged
  on_now : (number : ℕ) → Contains numbers number ⊎ (is_flagged g number ≡ true) → is_flagged now number ≡ true
  on_now number (inl there) = comes numbers g.flags number there.0 there.1 there.2
  on_now number (inr flagged) = stays numbers g.flags number flagged

  upward : (number other : ℕ) (rule reader : Rule) (run : RunRecord) (path : Names) (given : Option Stamp) → IsRuleAt g number rule → is_flagged now number ≡ true
      → IsRuleAt g other reader → finite.get g.runs other ≡ Some run → Contains run.asks (path, given) → writes rule path ≡ true → is_flagged now other ≡ true
  upward number other rule reader run path given here flagged there ran asked wrote = on_now other (by (came numbers g.flags number flagged))
    where
      by : Contains numbers number ⊎ (is_flagged g number ≡ true) → Contains numbers other ⊎ (is_flagged g other ≡ true)
      by (inl new) = closed number other rule reader run path given new here there ran asked wrote
      by (inr old) = inr (kept.agrees.upward number other rule reader run path given here old there ran asked wrote)

  pub flag_keeps : IsKept next language known now
  flag_keeps = record {
    records = record { runs = kept.records.runs; readings = kept.records.readings };
    recorded = λ number rule is. kept.recorded number rule (before number rule is);
    agrees = record {
      stamps = λ number rule run is ran. (let k = kept.agrees.stamps number rule run (before number rule is) ran in record { asked = k.asked; wrote = k.wrote });
      read = kept.agrees.read;
      told = kept.agrees.told;
      upward = upward;
    };
    declared = λ number rule run path given is ran asked mine. kept.declared number rule run path given (before number rule is) ran asked mine;
    owners = record { made = kept.owners.made; makers = kept.owners.makers };
    linked = kept.linked;
    written = λ number rule run is ran. kept.written number rule run (before number rule is) ran;
  }
