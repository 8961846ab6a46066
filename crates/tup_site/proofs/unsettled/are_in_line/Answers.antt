use Rattle.std.proofs.Common.{inr, ⊎_elim, sym, ◌∙◌}
use Rattle.std.proofs.lemmas.Bool.{both_ways}
use Rattle.tup_path.proofs.Same.{same_path-decides}
use Rattle.tup_site.proofs.Among.{in_line_below, in_line_itself}
use Rattle.tup_site.proofs.Crashing.{line_test}
use Rattle.tup_site.proofs.unsettled.are_in_line.Goals as goal
use Rattle.tup_site.proofs.unsettled.are_in_line.Goals.{then-eq, else-eq}

pub returns-then-is_below : goal.returns-then-is_below
returns-then-is_below c =
    let a = c.args.a.now in
    let b = c.args.b.now in
    elim c.if-eq.branch [
      | then-eq w ↦ c.if-is_below.true ∙ sym (in_line_itself a b ((same_path-decides a b).0 (sym (w.value-is ∙ c.eq.ensures) ∙ c.if-is_below.true)))
      | else-eq w ↦ c.if-is_below.true ∙ sym (in_line_below a b (inr (w.is_below.ensures.0 (sym w.value-is ∙ c.if-is_below.true))))
    ]

pub returns-else-is_below : goal.returns-else-is_below
returns-else-is_below c =
    let a = c.args.a.now in
    let b = c.args.b.now in
    let below = c.is_below-else-is_below in
    elim c.if-eq.branch [
      | then-eq w ↦ absurd (both_ways _ c.if-is_below.false (w.value-is ∙ w.if-eq.true))
      | else-eq w ↦ line_test a b below.result (
        λ so. inr (inr (below.ensures.0 so)),
        λ line. ⊎_elim (λ e. absurd (both_ways _ w.if-eq.false (c.eq.ensures ∙ (same_path-decides a b).1 e)))
            (⊎_elim (λ below_b. absurd (both_ways _ c.if-is_below.false (w.value-is ∙ w.is_below.ensures.1 below_b))) (λ below_a. below.ensures.1 below_a)) line,
      )
    ]
