use Rattle.std.proofs.Common.{true, Err, sym, subst}
use Rattle.tup_runner.specs.declared.step.Step.TheVariants.{End}
use Rattle.tup_runner.specs.Run.{HasEnded, RunsAs}
use Rattle.tup_mini.specs.declared.stopped.Stopped.{Stopped}
use Rattle.tup_mini.specs.Kept.{Kept}
use Rattle.tup_mini.specs.Part.{gives, stops}
use Rattle.tup_mini.specs.Means.{runs, ended}
use Rattle.tup_mini.specs.Through.{kept_of, Follows}
use Rattle.tup_mini.proofs.Following.{ended_by, failed_by}
use Rattle.tup_mini.proofs.mini.follow.Goals as goal

pub returns-in-Ok-clause-means : goal.returns-in-Ok-clause-means
returns-in-Ok-clause-means g c =
    subst (λ (k : Kept). HasEnded true (λ asks. ended (runs c.args.steps.now k asks)) (λ asks. g.V.View.came c.args.view.now asks c.run.new.view) (g.V.View.refusal c.run.new.view) c.ended.result) c.in_ok-kept.ensures
    (ended_by g.V.View.came g.V.View.same g.V.View.refusal c.args.view.now c.run.new.view (runs c.args.steps.now (kept_of c.in_ok-kept.kept)) (gives c.in-Ok.field-0 (kept_of c.run.new.kept)) c.ended.result c.in-Ok.ensures
    (λ i. End (record { status = sym c.ended.ensures.status i; writes = sym c.ended.ensures.writes i })))

pub returns-in-Err-Status-clause-means : goal.returns-in-Err-Status-clause-means
returns-in-Err-Status-clause-means g c =
    let from = runs c.args.steps.now (kept_of c.in_ok-kept.kept) in
    let end = c.ended-in-Err-Status.result in
    let one = subst (λ (s : Stopped). Follows g.V.View.came g.V.View.same g.V.View.refusal c.args.view.now c.run.new.view from (kept_of c.run.new.kept) (Err s)) c.in-Err-Status.field-0-is c.in-Err-Status.ensures in
    subst (λ (k : Kept). HasEnded true (λ asks. ended (runs c.args.steps.now k asks)) (λ asks. g.V.View.came c.args.view.now asks c.run.new.view) (g.V.View.refusal c.run.new.view) end) c.in_ok-kept.ensures
    (ended_by g.V.View.came g.V.View.same g.V.View.refusal c.args.view.now c.run.new.view from (stops c.in-Err-Status.status (kept_of c.run.new.kept)) end one
    (λ i. End (record { status = sym c.ended-in-Err-Status.ensures.status i; writes = sym c.ended-in-Err-Status.ensures.writes i })))

pub returns-in-Err-Failed-clause-means : goal.returns-in-Err-Failed-clause-means
returns-in-Err-Failed-clause-means g c =
    let from = runs c.args.steps.now (kept_of c.in_ok-kept.kept) in
    let one = subst (λ (s : Stopped). Follows g.V.View.came g.V.View.same g.V.View.refusal c.args.view.now c.run.new.view from (kept_of c.run.new.kept) (Err s)) c.in-Err-Failed.field-0-is c.in-Err-Failed.ensures in
    subst (λ (k : Kept). RunsAs true (λ asks. ended (runs c.args.steps.now k asks)) (λ asks. g.V.View.came c.args.view.now asks c.run.new.view) (g.V.View.refusal c.run.new.view) (Err c.in-Err-Failed.failed)) c.in_ok-kept.ensures
    (failed_by g.V.View.came g.V.View.same g.V.View.refusal c.args.view.now c.run.new.view from (kept_of c.run.new.kept) c.in-Err-Failed.failed one)
