use Rattle.std.proofs.Common.{Err, ℕ, List, [], ◌++◌, ◌+◌, drop, sym, ap, ◌∙◌, subst}
use Rattle.std.proofs.lemmas.Result.{err_from_is_err_and}
use Rattle.tup_path.specs.Name.{Content}
use Rattle.tup_mini.specs.Part.{Part, ◌>>=◌, gives}
use Rattle.tup_mini.specs.Files.{needs, gathers}
use Rattle.tup_mini.specs.Through.{kept_of, GoesOn}
use Rattle.tup_mini.proofs.Following.{follows_then, on_then, on_behind, err_behind}
use Rattle.tup_mini.proofs.Looping.{gathers-more}
use Rattle.tup_mini.proofs.doing.gather.Goals as goal

pub returns-in_err-content : goal.returns-in_err-content
returns-in_err-content g c =
    let p = err_from_is_err_and c.from_residual.result c.from_residual.ensures.1 in
    let kept = kept_of c.loop-text.kept in
    let more = gathers-more c.loop-text.whole c.args.from.now c.loop-text.text-index c.text-item.result c.loop-text-test.true c.text-item.is in
    let on : Content → Part Content = λ content. gathers (c.loop-text.whole ++ content) (drop (c.loop-text.text-index + 1) c.args.from.now) in
    rw (p.1, p.2) (follows_then g.V.View.came g.V.View.same g.V.View.refusal g.met.V.View.goes_on g.met.V.View.same_on c.args.view.now c.loop-text.view c.need.new.view
    (gathers [] c.args.from.now (kept_of c.args.kept.now)) ((needs c.text-item.result >>= on) kept) (kept_of c.need.new.self) (Err c.in_err-content.field-0.0)
    (subst (λ (q : Part Content). GoesOn g.V.View.came g.V.View.same g.V.View.refusal c.args.view.now c.loop-text.view (gathers [] c.args.from.now (kept_of c.args.kept.now)) (q kept)) more c.loop-text.invariant)
    (err_behind g.V.View.came g.V.View.same g.V.View.refusal c.loop-text.view c.need.new.view on (needs c.text-item.result kept) (kept_of c.need.new.self) _ c.in_err-content.ensures))

pub loop-text-preserved : goal.loop-text-preserved
loop-text-preserved g c =
    let kept = kept_of c.loop-text.kept in
    let from = gathers [] c.args.from.now (kept_of c.args.kept.now) in
    let more = gathers-more c.loop-text.whole c.args.from.now c.loop-text.text-index c.text-item.result c.loop-text-test.true c.text-item.is in
    let on : Content → Part Content = λ content. gathers (c.loop-text.whole ++ content) (drop (c.loop-text.text-index + 1) c.args.from.now) in
    let grown = sym (c.in_ok-extend_from_slice.ensures.ok ∙ ap (λ (t : List ℕ). c.loop-text.whole ++ t) c.as_slice.ensures) in
    subst (λ (w : Content). GoesOn g.V.View.came g.V.View.same g.V.View.refusal c.args.view.now c.need.new.view from (gathers w (drop (c.loop-text.text-index + 1) c.args.from.now) (kept_of c.need.new.self))) grown
    (on_then g.V.View.came g.V.View.same g.V.View.refusal g.met.V.View.goes_on g.met.V.View.same_on c.args.view.now c.loop-text.view c.need.new.view from ((needs c.text-item.result >>= on) kept) (on c.in_ok-content.content (kept_of c.need.new.self))
    (subst (λ (q : Part Content). GoesOn g.V.View.came g.V.View.same g.V.View.refusal c.args.view.now c.loop-text.view from (q kept)) more c.loop-text.invariant)
    (on_behind g.V.View.came g.V.View.same g.V.View.refusal c.loop-text.view c.need.new.view on (needs c.text-item.result kept) (gives c.in_ok-content.content (kept_of c.need.new.self)) c.in_ok-content.ensures))
