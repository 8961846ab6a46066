use Rattle.std.proofs.Common.{◌≡◌, ◌∙◌, ℕ, List, None, sym, subst}
use Rattle.std.specs.Prelude.{Contains}
use Rattle.std.specs.FinMap as finite
use Rattle.std.proofs.lemmas.Option.{MatchOption-at_none}
use Rattle.tup_why.specs.Cause.{ReadsByNew}
use Rattle.tup_why.specs.Waiting.{WaitsBy}
use Rattle.tup_why.proofs.Causes.{none_given, reads_new, waits_by}
use Rattle.tup_why.proofs.Finding.{first_here, none_first}
use Rattle.tup_why.proofs.cause.lead_over.Goals as goal

pub returns-in-Some-clause-lead : goal.returns-in-Some-clause-lead
returns-in-Some-clause-lead c =
    let found = c.in-Some.ensures in
    subst (ReadsByNew c.args.nodes.now c.args.plan.now c.args.number c.in-Some.maker) (sym c.in_ok-path.ensures.cases)
    (reads_new c.args.nodes.now c.args.plan.now c.args.makers.now c.requires.makers c.args.path.now c.args.number c.in-Some.maker c.requires.asked
    (subst (λ (l : List ℕ). Contains l c.in-Some.maker) c.of.ensures found.0) found.1)

pub returns-then-not-declares-clause-lead : goal.returns-then-not-declares-clause-lead
returns-then-not-declares-clause-lead c =
    let recorded = MatchOption-at_none ((number : ℕ) → Contains c.of.result.now number → finite.get c.args.nodes.now.runs number ≡ None → ⊥)
    (λ (found : ℕ). Contains c.of.result.now found × (finite.get c.args.nodes.now.runs found ≡ None)) c.in_default.is c.unrecorded.ensures in
    none_given c.args.nodes.now c.args.plan.now c.args.makers.now c.requires.makers c.args.path.now c.args.rule.now
    (λ maker h. recorded maker (subst (λ (l : List ℕ). Contains l maker) (sym c.of.ensures) h)) (λ maker h. sym c.declares.ensures ∙ c.if-not-declares.true)

pub returns-in_default-first-clause-lead : goal.returns-in_default-first-clause-lead
returns-in_default-first-clause-lead c =
    let recorded = MatchOption-at_none ((number : ℕ) → Contains c.of.result.now number → finite.get c.args.nodes.now.runs number ≡ None → ⊥)
    (λ (found : ℕ). Contains c.of.result.now found × (finite.get c.args.nodes.now.runs found ≡ None)) c.in_default.is c.unrecorded.ensures in
    none_given c.args.nodes.now c.args.plan.now c.args.makers.now c.requires.makers c.args.path.now c.args.rule.now
    (λ maker h. recorded maker (subst (λ (l : List ℕ). Contains l maker) (sym c.of.ensures) h))
    (λ maker h. absurd (none_first c.of-2.result.now maker c.in_default-first.ensures.value (subst (λ (l : List ℕ). Contains l maker) (sym c.of-2.ensures) h)))

pub returns-clause-lead : goal.returns-clause-lead
returns-clause-lead c =
    let maker = c.in-Some-first.maker.now in
    let listed = first_here c.of-2.result.now maker c.in-Some-first.ensures.value in
    subst (WaitsBy c.args.nodes.now c.args.plan.now c.args.number maker) (sym c.in_ok-clone.ensures.cases)
    (waits_by c.args.nodes.now c.args.plan.now c.args.makers.now c.requires.makers c.args.path.now c.args.number maker c.args.rule.now c.requires.planned c.requires.asked
    (sym c.declares.ensures ∙ c.if-not-declares.false) (subst (λ (l : List ℕ). Contains l maker) c.of-2.ensures listed))
