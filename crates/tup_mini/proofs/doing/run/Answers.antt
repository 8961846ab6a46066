use Rattle.std.proofs.Common.{Err, ◌+◌, drop, subst}
use Rattle.std.proofs.lemmas.Result.{err_from_is_err_and}
use Rattle.tup_mini.specs.Part.{Part, ◌>>=◌, gives}
use Rattle.tup_mini.specs.Means.{does, runs}
use Rattle.tup_mini.specs.Through.{kept_of, GoesOn}
use Rattle.tup_mini.proofs.Following.{follows_then, on_then, on_behind, err_behind}
use Rattle.tup_mini.proofs.Looping.{runs-more}
use Rattle.tup_mini.proofs.doing.run.Goals as goal

pub returns-in_err-take : goal.returns-in_err-take
returns-in_err-take g c =
    let p = err_from_is_err_and c.from_residual.result c.from_residual.ensures.1 in
    let kept = kept_of c.loop-step.kept in
    let from = runs c.args.steps.now (kept_of c.args.kept.now) in
    let more = runs-more c.args.steps.now c.loop-step.step-index c.step-item.result c.loop-step-test.true c.step-item.is in
    let on : Unit {0} → Part (Unit {0}) = λ done. runs (drop (c.loop-step.step-index + 1) c.args.steps.now) in
    rw (p.1, p.2) (follows_then g.V.View.came g.V.View.same g.V.View.refusal g.met.V.View.goes_on g.met.V.View.same_on c.args.view.now c.loop-step.view c.take.new.view
    from ((does c.step-item.result >>= on) kept) (kept_of c.take.new.kept) (Err c.in_err-take.field-0.0)
    (subst (λ (q : Part (Unit {0})). GoesOn g.V.View.came g.V.View.same g.V.View.refusal c.args.view.now c.loop-step.view from (q kept)) more c.loop-step.invariant)
    (err_behind g.V.View.came g.V.View.same g.V.View.refusal c.loop-step.view c.take.new.view on (does c.step-item.result kept) (kept_of c.take.new.kept) _ c.in_err-take.ensures))

pub loop-step-preserved : goal.loop-step-preserved
loop-step-preserved g c =
    let kept = kept_of c.loop-step.kept in
    let from = runs c.args.steps.now (kept_of c.args.kept.now) in
    let more = runs-more c.args.steps.now c.loop-step.step-index c.step-item.result c.loop-step-test.true c.step-item.is in
    let on : Unit {0} → Part (Unit {0}) = λ done. runs (drop (c.loop-step.step-index + 1) c.args.steps.now) in
    on_then g.V.View.came g.V.View.same g.V.View.refusal g.met.V.View.goes_on g.met.V.View.same_on c.args.view.now c.loop-step.view c.take.new.view from ((does c.step-item.result >>= on) kept) (on tt (kept_of c.take.new.kept))
    (subst (λ (q : Part (Unit {0})). GoesOn g.V.View.came g.V.View.same g.V.View.refusal c.args.view.now c.loop-step.view from (q kept)) more c.loop-step.invariant)
    (on_behind g.V.View.came g.V.View.same g.V.View.refusal c.loop-step.view c.take.new.view on (does c.step-item.result kept) (gives tt (kept_of c.take.new.kept)) c.in_ok-take.ensures)
