use Rattle.std.proofs.Common.{◌≡◌, ℕ, false, true, rules, sym, ◌∙◌, subst}
use Rattle.std.specs.Prelude.{All}
use Rattle.std.proofs.lemmas.Bool.{false≢true, not-true, not-false}
use Rattle.std.proofs.lemmas.Result.{IfOk-weaker}
use Rattle.tup_graph.specs.Graph.{is_flagged}
use Rattle.tup_apart.specs.Run.{OutputsOnce}
use Rattle.tup_apart.proofs.Running.{may_be_run, runs_flagged}
use Rattle.tup_apart.proofs.plan.may_run.Goals as goal

pub returns-then-not-are_flagged : goal.returns-then-not-are_flagged
returns-then-not-are_flagged c =
    let g = c.args.nodes.now in
    let is : c.are_flagged.result ≡ false = search (rules, not-true) in (
      λ (wrong : false ≡ true). absurd (false≢true wrong),
      λ may. absurd (false≢true (sym is ∙ c.are_flagged.ensures.1
          (subst (All (λ (number : ℕ). is_flagged g number ≡ true)) (sym c.as_slice.ensures) (runs_flagged g c.args.plan.now c.requires may)))),
    )

pub are_apart-requires : goal.are_apart-requires
are_apart-requires c = c.requires.near

pub returns-then-not-branch : goal.returns-then-not-branch
returns-then-not-branch c = (
  λ (wrong : false ≡ true). absurd (false≢true wrong),
  λ may. absurd (false≢true (sym c.if-not-branch.true ∙ c.in_ok-name_once.ensures.1 (subst OutputsOnce (sym c.as_slice-2.ensures) may.once))),
)

pub returns : goal.returns
returns c =
    let g = c.args.nodes.now in
    let plan = c.args.plan.now in
    let is : c.are_flagged.result ≡ true = search (rules, not-false) in
    let flagged = subst (All (λ (number : ℕ). is_flagged g number ≡ true)) c.as_slice.ensures (c.are_flagged.ensures.0 is) in
    let once = subst OutputsOnce c.as_slice-2.ensures (c.in_ok-name_once.ensures.0 c.if-not-branch.false) in
    IfOk-weaker c.are_apart.result _ _ (λ apart tested. (
      λ yes. may_be_run g plan c.requires flagged once (tested.0 yes),
      λ may. tested.1 may.apart,
    )) c.are_apart.ensures
