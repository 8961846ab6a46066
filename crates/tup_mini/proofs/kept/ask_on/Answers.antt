use Rattle.std.proofs.Common.{Err, refl}
use Rattle.std.proofs.lemmas.Result.{err_from_is_err_and}
use Rattle.tup_mini.specs.Part.{ask_on}
use Rattle.tup_mini.proofs.Following.{follows_then, lacks_behind, on_then, stays_on}
use Rattle.tup_mini.proofs.kept.ask_on.Goals as goal

pub loop-init : goal.loop-init
loop-init g c = stays_on g.V.View.came g.V.View.same g.V.View.refusal g.met.V.View.stays g.met.V.View.same_itself c.args.view.now (ask_on c.args.text.now) (ask_on c.args.text.now) c.requires refl

pub loop-preserved : goal.loop-preserved
loop-preserved g c =
    let on = ask_on c.args.text.now in
    on_then g.V.View.came g.V.View.same g.V.View.refusal g.met.V.View.goes_on g.met.V.View.same_on c.args.view.now c.loop.view c.ask_more.new.view on on on c.loop.invariant c.in_ok-ask_more.ensures.goes_on

pub returns-in_err-ask_more : goal.returns-in_err-ask_more
returns-in_err-ask_more g c = λ kept.
    let on = ask_on c.args.text.now in
    let p = err_from_is_err_and c.from_residual.result c.from_residual.ensures.1 in
    rw (p.1, p.2) (follows_then g.V.View.came g.V.View.same g.V.View.refusal g.met.V.View.goes_on g.met.V.View.same_on c.args.view.now c.loop.view c.ask_more.new.view on on kept (Err c.in_err-ask_more.field-0.0)
    c.loop.invariant (c.in_err-ask_more.ensures.stops kept))

pub returns : goal.returns
returns g c = λ kept.
    let on = ask_on c.args.text.now in
    lacks_behind g.V.View.came g.V.View.same g.V.View.refusal c.args.view.now c.loop.view on on c.loop.invariant
