-- A graph has its prints after each record that it takes, and after each edit.
use Rattle.std.proofs.Common.{◌≡◌, ◌≢◌, ◌⊎◌, ℕ, zero, suc, Bool, true, false, cond, List, [], ◌∷◌, ◌++◌, length, take, Option, None, Some, refl, sym, ap, subst, ◌∙◌, inl, inr}
use Rattle.std.specs.FinMap as finite
use Rattle.std.specs.Cmp.{nat_cmp_total}
use Rattle.std.specs.List.{slice_get}
use Rattle.std.specs.Ordering.{eq_by_cmp, nat_cmp}
use Rattle.std.proofs.lemmas.Option.{none-some, same_Some}
use Rattle.tup_path.specs.Name.{Names}
use Rattle.tup_rule.specs.declared.rule.Rule.{Rule}
use Rattle.tup_record.specs.declared.record.Record.{Record}
use Rattle.tup_record.specs.declared.record.Record.TheVariants as records
use Rattle.tup_record.specs.declared.run.RunRecord.{RunRecord}
use Rattle.tup_graph.specs.declared.edit.Edit.{Edit}
use Rattle.tup_graph.specs.declared.edit.Edit.TheVariants.{Put, Remove}
use Rattle.tup_graph.specs.declared.late.Late.{Late}
use Rattle.tup_graph.specs.declared.late.Late.TheVariants.{Seen, Owned}
use Rattle.tup_graph.specs.declared.prints.Prints.{Prints}
use Rattle.tup_graph.specs.Edits.{without}
use Rattle.tup_graph.specs.Graph.{GraphState, empty_graph}
use Rattle.tup_graph.specs.Late.{IsHeld, late_record, with_late}
use Rattle.tup_graph.specs.Lists.{Adds, IsNamedBy, IsToldBy, Lists, StandsBeside, print_of}
use Rattle.tup_graph.specs.Opening.{put}
use Rattle.tup_graph.specs.Prints.{HasPrints}
use Rattle.tup_graph.proofs.Maps.{equal_of}

-- ---- rules by their places, and records by their numbers
pushed_cases : {A : Type 0} (xs : List A) (x y : A) (i : ℕ) → slice_get (xs ++ x ∷ []) i ≡ Some y → (slice_get xs i ≡ Some y) ⊎ ((i ≡ length xs) × (y ≡ x))
pushed_cases [] x y zero e = inr (refl, sym (same_Some x y e))
pushed_cases [] x y (suc i) e = absurd (none-some y e)
pushed_cases (z ∷ xs) x y zero e = inl e
pushed_cases (z ∷ xs) x y (suc i) e = elim (pushed_cases xs x y i e) [ inl before ↦ inl before | inr last ↦ inr (ap suc last.0, last.1) ]

cut_place : {A : Type 0} (n : ℕ) (xs : List A) (y : A) (i : ℕ) → slice_get (take n xs) i ≡ Some y → slice_get xs i ≡ Some y
cut_place zero xs y i e = absurd (none-some y e)
cut_place (suc n) [] y i e = absurd (none-some y e)
cut_place (suc n) (z ∷ xs) y zero e = e
cut_place (suc n) (z ∷ xs) y (suc i) e = cut_place n xs y i e

inserted_cases : (runs : finite.FinMap nat_cmp RunRecord) (number other : ℕ) (run found : RunRecord) → finite.get (finite.insert runs number run) other ≡ Some found
    → ((other ≡ number) × (found ≡ run)) ⊎ (finite.get runs other ≡ Some found)
inserted_cases runs number other run found e = by (eq_by_cmp nat_cmp other number) refl (sym (finite.get-insert nat_cmp_total runs number run other) ∙ e)
  where
    by : (b : Bool) → eq_by_cmp nat_cmp other number ≡ b → cond b (Some run) (finite.get runs other) ≡ Some found → ((other ≡ number) × (found ≡ run)) ⊎ (finite.get runs other ≡ Some found)
    by true same is = inl (finite.nat_cmp-IsAntisymmetric other number (equal_of (nat_cmp other number) same), sym (same_Some run found is))
    by false apart is = inr is

removed_run : (runs : finite.FinMap nat_cmp RunRecord) (number other : ℕ) (found : RunRecord) → finite.get (finite.remove runs number) other ≡ Some found → finite.get runs other ≡ Some found
removed_run runs number other found e = by (eq_by_cmp nat_cmp other number) (sym (finite.get-remove nat_cmp_total runs number other) ∙ e)
  where
    by : (b : Bool) → cond b None (finite.get runs other) ≡ Some found → finite.get runs other ≡ Some found
    by true is = absurd (none-some found is)
    by false is = is

-- ---- the new store
pub none_printed : (prints : Prints) → HasPrints empty_graph prints
none_printed prints = record {
  named = λ number rule path here one. absurd (none-some rule here);
  recorded = λ number run path here one. absurd (none-some run (sym (finite.get-empty nat_cmp number) ∙ here));
}

-- ---- a record more
module _ (g : GraphState) (prints next : Prints) (has : HasPrints g prints) where
  pub rule_printed : (place number : ℕ) (rule : Rule) (given : ℕ) → number ≡ length g.rules → Adds number (IsNamedBy rule) prints.named next.named → next.recorded ≡ prints.recorded → HasPrints (put g (records.Rule given place rule)) next
  rule_printed place number rule given last adds same = record {
    named = λ at one path here names. elim (pushed_cases g.rules rule one at here) [
      | inl before ↦ adds.kept (print_of path) at (has.named at one path before names)
      | inr now ↦ subst (λ n. StandsBeside next.named (print_of path) n) (last ∙ sym now.0) (adds.added path (subst (λ (r : Rule). IsNamedBy r path) now.1 names))
    ];
    recorded = λ at run path here told. subst (λ (l : Lists). StandsBeside l (print_of path) at) (sym same) (has.recorded at run path here told);
  }

  pub run_printed : (number : ℕ) (run : RunRecord) → Adds number (IsToldBy run) prints.recorded next.recorded → next.named ≡ prints.named → HasPrints (put g (records.Run number run)) next
  run_printed number run adds same = record {
    named = λ at one path here names. subst (λ (l : Lists). StandsBeside l (print_of path) at) (sym same) (has.named at one path here names);
    recorded = λ at one path here told. elim (inserted_cases g.runs number at run one here) [
      | inl now ↦ subst (λ n. StandsBeside next.recorded (print_of path) n) (sym now.0) (adds.added path (subst (λ (r : RunRecord). IsToldBy r path) now.1 told))
      | inr before ↦ adds.kept (print_of path) at (has.recorded at one path before told)
    ];
  }

-- one that is neither of a rule nor of a run
pub other_printed : (g : GraphState) (prints : Prints) (r : Record) → ((number place : ℕ) (rule : Rule) → r ≢ records.Rule number place rule) → ((number : ℕ) (run : RunRecord) → r ≢ records.Run number run)
    → HasPrints g prints → HasPrints (put g r) prints
other_printed g prints (records.Seen path stamp) no_rule no_run has = record { named = has.named; recorded = has.recorded }
other_printed g prints (records.Reading dir reading) no_rule no_run has = record { named = has.named; recorded = has.recorded }
other_printed g prints (records.Rule number place rule) no_rule no_run has = absurd (no_rule number place rule refl)
other_printed g prints (records.Run number run) no_rule no_run has = absurd (no_run number run refl)
other_printed g prints (records.Owned path maker state) no_rule no_run has = record { named = has.named; recorded = has.recorded }
other_printed g prints (records.Create dir) no_rule no_run has = record { named = has.named; recorded = has.recorded }
other_printed g prints (records.Modify number) no_rule no_run has = record { named = has.named; recorded = has.recorded }

-- ---- a record less
pub less_printed : (g : GraphState) (prints : Prints) (gone : Record) → HasPrints g prints → HasPrints (without g gone) prints
less_printed g prints (records.Seen path stamp) has = record { named = has.named; recorded = has.recorded }
less_printed g prints (records.Reading dir reading) has = record { named = has.named; recorded = has.recorded }
less_printed g prints (records.Rule number place rule) has = record {
  named = λ at one path here names. has.named at one path (cut_place number g.rules one at here) names;
  recorded = has.recorded;
}
less_printed g prints (records.Run number run) has = record {
  named = has.named;
  recorded = λ at one path here told. has.recorded at one path (removed_run g.runs number at one here) told;
}
less_printed g prints (records.Owned path maker state) has = record { named = has.named; recorded = has.recorded }
less_printed g prints (records.Create dir) has = record { named = has.named; recorded = has.recorded }
less_printed g prints (records.Modify number) has = record { named = has.named; recorded = has.recorded }

-- ---- records that are taken last name no rule
late_printed : (g : GraphState) (prints : Prints) (one : Late) → HasPrints (put g (late_record one)) prints → HasPrints g prints
late_printed g prints (Seen path stamp) has = record { named = has.named; recorded = has.recorded }
late_printed g prints (Owned path owned) has = record { named = has.named; recorded = has.recorded }

one_late_printed : (g : GraphState) (prints : Prints) (one : Late) → HasPrints g prints → HasPrints (put g (late_record one)) prints
one_late_printed g prints (Seen path stamp) has = record { named = has.named; recorded = has.recorded }
one_late_printed g prints (Owned path owned) has = record { named = has.named; recorded = has.recorded }

pub all_late_printed : (g end : GraphState) (prints : Prints) (late : List Late) → end ≡ with_late g late → HasPrints g prints → HasPrints end prints
all_late_printed g end prints [] is has = subst (λ (h : GraphState). HasPrints h prints) (sym is) has
all_late_printed g end prints (one ∷ late) is has = all_late_printed (put g (late_record one)) end prints late is (one_late_printed g prints one has)

pub held_printed : (g new : GraphState) (r : Record) (late later : List Late) (prints : Prints) → IsHeld r g late new later → HasPrints (put g r) prints → HasPrints new prints
held_printed g new r late later prints (inl now) has = subst (λ (h : GraphState). HasPrints h prints) (sym now.0) has
held_printed g new r late later prints (inr (one, same, is, rest)) has =
    subst (λ (h : GraphState). HasPrints h prints) (sym same) (late_printed g prints one (subst (λ (s : Record). HasPrints (put g s) prints) is has))
