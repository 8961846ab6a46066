use Rattle.std.proofs.Common.{◌≡◌, ◌∙◌, inl, inr, refl, sym, true}
use Rattle.std.proofs.lemmas.Bool.{true≢false}
use Rattle.tup_graph.specs.Graph.{is_rule}
use Rattle.tup_scan_diff.proofs.present.Present.is_root.Goals as goal

pub returns-then-not-is_rule : goal.returns-then-not-is_rule
returns-then-not-is_rule c = (λ e. absurd (true≢false (sym e)), λ root. absurd (true≢false (sym root.0 ∙ sym c.is_rule.ensures ∙ c.if-not-is_rule.true)))

pub returns-then-flagged : goal.returns-then-flagged
returns-then-flagged c =
    let ruled : is_rule c.args.self.now.nodes.now c.args.number ≡ true = sym c.is_rule.ensures ∙ c.if-not-is_rule.false in
    (λ _. (ruled, inl (sym c.flagged.ensures ∙ c.if-flagged.true)), λ _. refl)

pub returns-then-is_touched : goal.returns-then-is_touched
returns-then-is_touched c =
    let ruled : is_rule c.args.self.now.nodes.now c.args.number ≡ true = sym c.is_rule.ensures ∙ c.if-not-is_rule.false in
    (λ _. (ruled, inr (inl (c.is_touched.ensures.0 c.if-is_touched.true))), λ _. refl)

pub returns : goal.returns
returns c =
    let ruled : is_rule c.args.self.now.nodes.now c.args.number ≡ true = sym c.is_rule.ensures ∙ c.if-not-is_rule.false in (
      λ e. (ruled, inr (inr (c.is_turned.ensures.0 e))),
      λ root. elim root.1 [
        | inl flagged ↦ absurd (true≢false (sym flagged ∙ sym c.flagged.ensures ∙ c.if-flagged.false))
        | inr run ↦ elim run [
          | inl touched ↦ absurd (true≢false (sym (c.is_touched.ensures.1 touched) ∙ c.if-is_touched.false))
          | inr turned ↦ c.is_turned.ensures.1 turned
        ]
      ],
    )
