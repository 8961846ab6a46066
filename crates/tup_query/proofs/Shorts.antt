-- A text that is expanded isn't long.
use Rattle.std.proofs.Common.{◌≡◌, ◌⊎◌, inl, inr, ℕ, ◌+◌, ◌≤◌, Bool, true, false, cond, ltb, List, [], ◌∷◌, ◌++◌, length, Result, Ok, Err, refl, sym, ap, ◌∙◌, subst, arith, length-append}
use Rattle.std.proofs.lemmas.Bool.Decides.{nat_tests}
use Rattle.tup_vars.specs.Expand.{Scope, value, grown, with_value, with_segment, with_segments, expansion, HasNoAnswer}
use Rattle.tup_vars.specs.Segments.{Segment, segments}
use Rattle.tup_vars.specs.declared.fault.VarFault.{VarFault}
use Rattle.tup_vars.specs.declared.fault.VarFault.TheVariants.{TooLong}

grown-short : (text more longer : List ℕ) → grown text more ≡ Ok longer → length longer ≤ 1048576
grown-short text more longer e = by (ltb 1048576 (length text + length more)) refl e
  where
    by : (b : Bool) → ltb 1048576 (length text + length more) ≡ b → cond b (Err TooLong) (Ok (text ++ more)) ≡ Ok longer → length longer ≤ 1048576
    by true long e = absurd (cc)
    by false long e =
        let whole : text ++ more ≡ longer = cc in
        let n : length longer ≡ length text + length more = sym (ap length whole) ∙ length-append text more in
        let fits : length text + length more ≤ 1048576 = grind (arith, nat_tests) in
        omega (arith, n, fits)

valued-short : (text longer : List ℕ) (value : Result (List ℕ) VarFault) → with_value text value ≡ Ok longer → length longer ≤ 1048576
valued-short text longer (Ok more) e = grown-short text more longer e
valued-short text longer (Err fault) e = absurd (cc)

segments-short : (scope : Scope) (text : List ℕ) (all : List Segment) (longer : List ℕ) → length text ≤ 1048576 → with_segments scope text all ≡ Ok longer → length longer ≤ 1048576
segments-short scope text [] longer short e = let same : text ≡ longer = cc in subst (λ t. length t ≤ 1048576) same short
segments-short scope text (segment ∷ more) longer short e = by (with_segment scope text segment) refl (λ next. segments-short scope next more longer) e
  where
    by : (r : Result (List ℕ) VarFault) → with_segment scope text segment ≡ r
        → ((next : List ℕ) → length next ≤ 1048576 → with_segments scope next more ≡ Ok longer → length longer ≤ 1048576)
        → (elim r as (λ _. Result (List ℕ) VarFault) [ Ok next ↦ with_segments scope next more | Err fault ↦ Err fault ]) ≡ Ok longer → length longer ≤ 1048576
    by (Ok next) is rest e = rest next (valued-short text next (value scope segment) is) e
    by (Err fault) is rest e = absurd (cc)

pub expansion_short : (scope : Scope) (text longer : List ℕ) → HasNoAnswer {T = List ℕ} (Ok longer) ⊎ (Ok longer ≡ expansion scope text) → length longer ≤ 1048576
expansion_short scope text longer (inl (inl e)) = absurd (cc)
expansion_short scope text longer (inl (inr e)) = absurd (cc)
expansion_short scope text longer (inr e) = segments-short scope [] (segments text) longer (omega arith) (sym e)
