use Rattle.std.proofs.Common.{◌≡◌, ◌+◌, ◌≤◌, List, ℕ, sym, ap, subst, ◌∙◌, length}
use Rattle.std.specs.Prelude.{◌↔◌, Contains}
use Rattle.std.proofs.lemmas.Result.{on_err_weaker, on_ok_weaker}
use Rattle.tup_graph.specs.Above.{HasAsked}
use Rattle.tup_closure.specs.Steps.{readers_of}
use Rattle.tup_closure.proofs.Reading.{as_many}
use Rattle.tup_closure.proofs.Walking.{goes_as}
use Rattle.tup_closure.proofs.walk.Walk.reach_readers_of.Goals as goal

pub returns-clause-goes : goal.returns-clause-goes
returns-clause-goes g c =
    let readers : (number : ℕ) → Contains c.deref.result.now number ↔ HasAsked c.args.graph.now number c.args.path.now =
    subst (λ (l : List ℕ). (number : ℕ) → Contains l number ↔ HasAsked c.args.graph.now number c.args.path.now) (sym c.deref.ensures.value) c.in_ok-numbers.ensures.readers in
    on_ok_weaker c.look_at.result (goes_as (λ n h. (readers n).0 h) (λ n h. (readers n).1 h)) c.look_at.ensures.goes

pub returns-clause-steps : goal.returns-clause-steps
returns-clause-steps g c =
    let many : length c.deref.result.now ≡ length (readers_of c.args.graph.now c.args.path.now) =
    ap (λ (l : List ℕ). length l) c.deref.ensures.value ∙ as_many c.args.path.now c.args.graph.now c.in_ok-numbers.numbers.items c.in_ok-numbers.ensures.ascending c.in_ok-numbers.ensures.readers in
    on_ok_weaker c.look_at.result (λ (e : c.look_at.new.steps ≡ c.args.steps.now + length c.deref.result.now). e ∙ ap (λ n. c.args.steps.now + n) many) c.look_at.ensures.steps

pub returns-clause-fewer : goal.returns-clause-fewer
returns-clause-fewer g c =
    let many : length c.deref.result.now ≡ length (readers_of c.args.graph.now c.args.path.now) =
    ap (λ (l : List ℕ). length l) c.deref.ensures.value ∙ as_many c.args.path.now c.args.graph.now c.in_ok-numbers.numbers.items c.in_ok-numbers.ensures.ascending c.in_ok-numbers.ensures.readers in
    on_err_weaker c.look_at.result (λ (less : c.look_at.new.steps ≤ c.args.steps.now + length c.deref.result.now). subst (λ n. c.look_at.new.steps ≤ c.args.steps.now + n) many less) c.look_at.ensures.fewer
