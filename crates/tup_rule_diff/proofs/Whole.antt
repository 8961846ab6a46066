-- The edits of a swap with all that they leave out: what comes again is taken away before. They leave the same.
use Rattle.std.specs.Prelude.{◌≡◌, ◌+◌, ℕ, zero, suc, Bool, true, false, List, [], ◌∷◌, ◌++◌, None, Some, Contains, fold, map, length, take}
use Rattle.std.proofs.Common.{refl, sym, ap, ◌∙◌, arith}
use Rattle.std.specs.Ordering.{nat_cmp}
use Rattle.std.specs.Cmp.{nat_cmp_total}
use Rattle.std.specs.FinMap as finite
use Rattle.std.specs.FinMap.{find, nat_cmp-IsAntisymmetric}
use Rattle.std.proofs.Math.Seq.{take-length}
use Rattle.tup_path.specs.Name.{Names}
use Rattle.tup_path.specs.Order.{by_names-total, by_names-antisymmetric}
use Rattle.tup_path.proofs.Same.{by_names-decides}
use Rattle.tup_rule.specs.declared.rule.Rule.{Rule}
use Rattle.tup_record.specs.declared.record.Record.TheVariants as records
use Rattle.tup_record.specs.declared.run.RunRecord.{RunRecord}
use Rattle.tup_graph.specs.declared.edit.Edit.{Edit}
use Rattle.tup_graph.specs.declared.edit.Edit.TheVariants.{Remove}
use Rattle.tup_graph.specs.declared.owned.Owned.{Owned}
use Rattle.tup_graph.specs.Edits.{edited, edited_by, with_first}
use Rattle.tup_graph.specs.Graph.{GraphState}
use Rattle.tup_closure.proofs.Members.{number-decides}
use Rattle.tup_rule_diff.specs.Edits.{unflag, uncreate, unrun_edits, rule_less}
use Rattle.tup_rule_diff.proofs.Leaving.{Owners, both, clears_two, left, none_left, others, two_cleared, unruns}
use Rattle.tup_rule_diff.proofs.Puts.{all_gone, found, take_one}

-- a path that is owned goes, and so does a record of a run, which tell what comes in their places
abbrev pub unown : Names × Owned → Edit
unown owned = Remove (records.Owned owned.0 owned.1.maker owned.1.state)

abbrev pub unrun_so : ℕ × RunRecord → Edit
unrun_so run = Remove (records.Run run.0 run.1)

-- flags and marks go, and all owned paths and records of runs
abbrev pub whole_clear : (ℕ → Bool) → GraphState → Owners → List (ℕ × RunRecord) → List Edit
whole_clear kept g owned runs = map unflag (finite.entries g.flags) ++ map uncreate (finite.entries g.created) ++ map unown (finite.entries owned) ++ unrun_edits kept (finite.entries g.runs) ++ map unrun_so runs

-- all rules go, the last one first, where the first one has this number
abbrev pub whole_less : ℕ → List Rule → List Edit
whole_less number [] = []
whole_less number (rule ∷ rules) = whole_less (suc number) rules ++ rule_less number ∷ []

-- ---- owned paths and records
unowns : (h : GraphState) (es : List (Names × Owned)) → edited_by h (map unown es) ≡ record h { owned = fold (take_one by_names-total by_names-antisymmetric by_names-decides) h.owned es }
unowns h [] = refl
unowns h (e ∷ es) = unowns (edited h (unown e)) es

unruns_so : (h : GraphState) (es : List (ℕ × RunRecord)) → edited_by h (map unrun_so es) ≡ record h { runs = fold (take_one nat_cmp_total nat_cmp-IsAntisymmetric number-decides) h.runs es }
unruns_so h [] = refl
unruns_so h (e ∷ es) = unruns_so (edited h (unrun_so e)) es

abbrev pub all_cleared : GraphState → GraphState
all_cleared g = record g { flags = finite.empty; created = finite.empty; owned = finite.empty; runs = finite.empty }

module _ (g : GraphState) (kept : ℕ → Bool) (owned : Owners) (runs : List (ℕ × RunRecord)) (kept_come : (number : ℕ) → kept number ≡ true → (run : RunRecord) × Contains runs (number, run))
    (owned_come : (path : Names) → finite.get owned path ≡ None → finite.get g.owned path ≡ None) where
  abbrev unowned : GraphState
  unowned = record g { flags = finite.empty; created = finite.empty; owned = finite.empty }

  abbrev half : GraphState
  half = record g { flags = finite.empty; created = finite.empty; owned = finite.empty; runs = left kept g.runs }

  run_comes : (number : ℕ) → find nat_cmp number runs ≡ None → finite.get (left kept g.runs) number ≡ None
  run_comes number none = none_left kept g.runs number (by (kept number) refl)
    where
      by : (b : Bool) → kept number ≡ b → b ≡ false
      by true is =
          let run = kept_come number is in
          let there = found nat_cmp_total nat_cmp-IsAntisymmetric number-decides runs number run.0 run.1 in
          absurd (let wrong : None ≡ Some there.0 = sym none ∙ there.1 in cc)
      by false is = refl

  pub whole_clears : edited_by g (whole_clear kept g owned runs) ≡ all_cleared g
  whole_clears =
      both g half (all_cleared g) (map unflag (finite.entries g.flags) ++ map uncreate (finite.entries g.created) ++ map unown (finite.entries owned) ++ unrun_edits kept (finite.entries g.runs)) (map unrun_so runs)
      (both g unowned half (map unflag (finite.entries g.flags) ++ map uncreate (finite.entries g.created) ++ map unown (finite.entries owned)) (unrun_edits kept (finite.entries g.runs))
      (both g (two_cleared g) unowned (map unflag (finite.entries g.flags) ++ map uncreate (finite.entries g.created)) (map unown (finite.entries owned)) (clears_two g)
      (unowns (two_cleared g) (finite.entries owned)
      ∙ ap (λ m. record g { flags = finite.empty; created = finite.empty; owned = m })
      (all_gone by_names-total by_names-antisymmetric by_names-decides (finite.entries owned) g.owned (λ path none. owned_come path (finite.get-entries owned path ∙ none)))))
      (unruns unowned (others kept g.runs)))
      (unruns_so half runs ∙ ap (λ m. record g { flags = finite.empty; created = finite.empty; owned = finite.empty; runs = m }) (all_gone nat_cmp_total nat_cmp-IsAntisymmetric number-decides runs (left kept g.runs) run_comes))

-- ---- rules
module _ {X : Type 0} where
  take_take : (n : ℕ) (xs : List X) → take n (take (suc n) xs) ≡ take n xs
  take_take zero xs = refl
  take_take (suc n) [] = refl
  take_take (suc n) (x ∷ xs) = ap (λ (l : List X). x ∷ l) (take_take n xs)

all_first : (h : GraphState) (n : ℕ) → length h.rules ≡ n → length h.places ≡ n → with_first h n ≡ h
all_first h n rules places = λ i. record h {
  rules = (ap (λ (k : ℕ). take k h.rules) (sym rules) ∙ take-length h.rules) i;
  places = (ap (λ (k : ℕ). take k h.places) (sym places) ∙ take-length h.places) i;
}

first_of_first : (h : GraphState) (n : ℕ) → with_first (with_first h (suc n)) n ≡ with_first h n
first_of_first h n = λ i. record h { rules = take_take n h.rules i; places = take_take n h.places i }

pub whole_less_leaves : (h : GraphState) (n : ℕ) (rules : List Rule) → length h.rules ≡ n + length rules → length h.places ≡ n + length rules → edited_by h (whole_less n rules) ≡ with_first h n
whole_less_leaves h n [] many level = sym (all_first h n (omega (arith, many)) (omega (arith, level)))
whole_less_leaves h n (rule ∷ rules) many level =
    both h (with_first h (suc n)) (with_first h n) (whole_less (suc n) rules) (rule_less n ∷ []) (whole_less_leaves h (suc n) rules (omega (arith, many)) (omega (arith, level))) (first_of_first h n)
