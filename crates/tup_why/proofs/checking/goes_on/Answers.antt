use Rattle.std.proofs.Common.{◌≡◌, ◌+◌, ℕ, true, false, refl}
use Rattle.std.specs.Prelude.{◌↔◌, drop}
use Rattle.std.proofs.lemmas.Bool.{false≢true}
use Rattle.std.proofs.lemmas.List.{drop_all}
use Rattle.std.proofs.lemmas.Option.{MatchOption-at_none, MatchOption-at_some}
use Rattle.tup_why.specs.Reason.{GoesOn}
use Rattle.tup_why.proofs.Checks.{all_passed}
use Rattle.tup_why.proofs.checking.goes_on.Goals as goal

pub loop-at-init : goal.loop-at-init
loop-at-init c = λ last. (λ goes. goes, λ goes. goes)

pub loop-at-preserved : goal.loop-at-preserved
loop-at-preserved c = λ last.
    let g = c.args.nodes.now in
    let plan = c.args.plan.now in
    let links = c.args.links.now in
    let at = c.loop-at.at in
    let before = c.loop-at.invariant last in
    let over = MatchOption-at_some (GoesOn g plan c.loop-at.number (drop at links) last → ⊥)
    (λ (next : ℕ). GoesOn g plan c.loop-at.number (drop at links) last ↔ GoesOn g plan next (drop (at + 2) links) last) c.in-Some.next c.in-Some.is (c.hop.ensures last) in
    (λ goes. over.0 (before.0 goes), λ goes. before.1 (over.1 goes))

pub returns-in-None : goal.returns-in-None
returns-in-None c =
    let g = c.args.nodes.now in
    let plan = c.args.plan.now in
    let links = c.args.links.now in
    let at = c.loop-at.at in (
      λ (wrong : false ≡ true). absurd (false≢true wrong),
      λ (last, goes). absurd (MatchOption-at_none (GoesOn g plan c.loop-at.number (drop at links) last → ⊥)
          (λ (next : ℕ). GoesOn g plan c.loop-at.number (drop at links) last ↔ GoesOn g plan next (drop (at + 2) links) last) c.in-None.is (c.hop.ensures last)
          ((c.loop-at.invariant last).0 goes)),
    )

pub returns : goal.returns
returns c =
    let at = c.loop-at.at in
    let number = c.loop-at.number in
    let links = c.args.links.now in (
      λ _. (number, (c.loop-at.invariant number).1 (all_passed c.args.nodes.now c.args.plan.now links at number (drop_all at links c.loop-at-test.false))),
      λ _. refl,
    )
