use Rattle.std.proofs.Common.{◌-◌, Err, sym, ap, ◌∙◌, subst}
use Rattle.std.proofs.lemmas.Result.{err_from_is_err_and}
use Rattle.tup_path.specs.Name.{Content}
use Rattle.tup_mini.specs.Part.{Part, ◌>>=◌, gives}
use Rattle.tup_mini.specs.Files.{needs}
use Rattle.tup_mini.specs.Include.{lines_of, included, expands, includes}
use Rattle.tup_mini.specs.Through.{kept_of, GoesOn}
use Rattle.tup_mini.proofs.Following.{follows_then, follows_same, on_then, on_behind, err_behind, ok_then}
use Rattle.tup_mini.proofs.Looping.{line-include, includes-more}
use Rattle.tup_mini.proofs.expand.+expanding.Goals as goal

pub expand-returns-in_err-whole-in-Some : goal.expand-returns-in_err-whole-in-Some
expand-returns-in_err-whole-in-Some g t c =
    let p = err_from_is_err_and c.from_residual-in_err-whole-in-Some.result c.from_residual-in_err-whole-in-Some.ensures.1 in
    let inner = includes c.args.left in
    let kept = kept_of c.loop-rest.kept in
    let from = expands inner c.args.text.now c.args.front (lines_of c.args.content.now) (kept_of c.args.kept.now) in
    let on : Content → Part Content = λ grown. expands inner c.args.text.now grown (lines_of c.first_line.result.1.now) in
    let more = line-include inner c.args.text.now c.loop-rest.whole c.loop-rest.rest.now c.first_line.result.0.now c.first_line.result.1.now c.in-Some.name c.in_ok-name-in-Some.name c.first_line.ensures.cut
    (sym c.in-Some.is ∙ c.in_ok-name.ensures ∙ ap included c.unended.ensures) c.in_ok-name-in-Some.ensures in
    rw (p.1, p.2) (follows_then g.V.View.came g.V.View.same g.V.View.refusal g.met.V.View.goes_on g.met.V.View.same_on c.args.view.now c.loop-rest.view c.include.new.view
    from ((inner c.in_ok-name-in-Some.name c.loop-rest.whole >>= on) kept) (kept_of c.include.new.kept) (Err c.in_err-whole-in-Some.field-0.0)
    (subst (λ (q : Part Content). GoesOn g.V.View.came g.V.View.same g.V.View.refusal c.args.view.now c.loop-rest.view from (q kept)) more c.loop-rest.invariant)
    (err_behind g.V.View.came g.V.View.same g.V.View.refusal c.loop-rest.view c.include.new.view on (inner c.in_ok-name-in-Some.name c.loop-rest.whole kept) (kept_of c.include.new.kept) _ c.in_err-whole-in-Some.ensures))

pub expand-loop-rest-preserved-in_ok-whole-in-Some : goal.expand-loop-rest-preserved-in_ok-whole-in-Some
expand-loop-rest-preserved-in_ok-whole-in-Some g t c =
    let inner = includes c.args.left in
    let kept = kept_of c.loop-rest.kept in
    let from = expands inner c.args.text.now c.args.front (lines_of c.args.content.now) (kept_of c.args.kept.now) in
    let on : Content → Part Content = λ grown. expands inner c.args.text.now grown (lines_of c.first_line.result.1.now) in
    let more = line-include inner c.args.text.now c.loop-rest.whole c.loop-rest.rest.now c.first_line.result.0.now c.first_line.result.1.now c.in-Some.name c.in_ok-name-in-Some.name c.first_line.ensures.cut
    (sym c.in-Some.is ∙ c.in_ok-name.ensures ∙ ap included c.unended.ensures) c.in_ok-name-in-Some.ensures in
    on_then g.V.View.came g.V.View.same g.V.View.refusal g.met.V.View.goes_on g.met.V.View.same_on c.args.view.now c.loop-rest.view c.include.new.view
    from ((inner c.in_ok-name-in-Some.name c.loop-rest.whole >>= on) kept) (on c.in_ok-whole-in-Some.whole (kept_of c.include.new.kept))
    (subst (λ (q : Part Content). GoesOn g.V.View.came g.V.View.same g.V.View.refusal c.args.view.now c.loop-rest.view from (q kept)) more c.loop-rest.invariant)
    (on_behind g.V.View.came g.V.View.same g.V.View.refusal c.loop-rest.view c.include.new.view on (inner c.in_ok-name-in-Some.name c.loop-rest.whole kept) (gives c.in_ok-whole-in-Some.whole (kept_of c.include.new.kept)) c.in_ok-whole-in-Some.ensures)

pub expand-loop-rest-preserved-in_ok-whole-in-Some-2 : goal.expand-loop-rest-preserved-in_ok-whole-in-Some-2
expand-loop-rest-preserved-in_ok-whole-in-Some-2 g t c =
    let inner = includes c.args.left in
    let kept = kept_of c.loop-rest.kept in
    let from = expands inner c.args.text.now c.args.front (lines_of c.args.content.now) (kept_of c.args.kept.now) in
    let on : Content → Part Content = λ grown. expands inner c.args.text.now grown (lines_of c.first_line.result.1.now) in
    let more = line-include inner c.args.text.now c.loop-rest.whole c.loop-rest.rest.now c.first_line.result.0.now c.first_line.result.1.now c.in-Some.name c.in_ok-name-in-Some.name c.first_line.ensures.cut
    (sym c.in-Some.is ∙ c.in_ok-name.ensures ∙ ap included c.unended.ensures) c.in_ok-name-in-Some.ensures in
    on_then g.V.View.came g.V.View.same g.V.View.refusal g.met.V.View.goes_on g.met.V.View.same_on c.args.view.now c.loop-rest.view c.include.new.view
    from ((inner c.in_ok-name-in-Some.name c.loop-rest.whole >>= on) kept) (on c.in_ok-whole-in-Some.whole (kept_of c.include.new.kept))
    (subst (λ (q : Part Content). GoesOn g.V.View.came g.V.View.same g.V.View.refusal c.args.view.now c.loop-rest.view from (q kept)) more c.loop-rest.invariant)
    (on_behind g.V.View.came g.V.View.same g.V.View.refusal c.loop-rest.view c.include.new.view on (inner c.in_ok-name-in-Some.name c.loop-rest.whole kept) (gives c.in_ok-whole-in-Some.whole (kept_of c.include.new.kept)) c.in_ok-whole-in-Some.ensures)

pub include-returns-in_err-content : goal.include-returns-in_err-content
include-returns-in_err-content g t c =
    let p = err_from_is_err_and c.from_residual.result c.from_residual.ensures.1 in
    let kept = kept_of c.args.kept.now in
    let on : Content → Part Content = λ content. expands (includes (c.args.left - 1)) c.args.text.now c.args.front (lines_of content) in
    rw (p.1, p.2) (follows_same g.V.View.came g.V.View.same g.V.View.refusal c.args.view.now c.need.new.view (includes c.args.left c.args.text.now c.args.front kept) ((needs c.args.text.now >>= on) kept)
    (kept_of c.need.new.self) (Err c.in_err-content.field-0.0) (ap (λ (q : Part Content). q kept) (includes-more c.args.left c.args.text.now c.args.front c.if-left-eq0.false))
    (err_behind g.V.View.came g.V.View.same g.V.View.refusal c.args.view.now c.need.new.view on (needs c.args.text.now kept) (kept_of c.need.new.self) _ c.in_err-content.ensures))

pub include-returns : goal.include-returns
include-returns g t c =
    let kept = kept_of c.args.kept.now in
    let on : Content → Part Content = λ content. expands (includes (c.args.left - 1)) c.args.text.now c.args.front (lines_of content) in
    follows_same g.V.View.came g.V.View.same g.V.View.refusal c.args.view.now c.expand.new.view (includes c.args.left c.args.text.now c.args.front kept) ((needs c.args.text.now >>= on) kept)
    (kept_of c.expand.new.kept) c.expand.result (ap (λ (q : Part Content). q kept) (includes-more c.args.left c.args.text.now c.args.front c.if-left-eq0.false))
    (ok_then g.V.View.came g.V.View.same g.V.View.refusal g.met.V.View.goes_on g.met.V.View.same_on c.args.view.now c.need.new.view c.expand.new.view on (needs c.args.text.now kept) (kept_of c.need.new.self)
    (kept_of c.expand.new.kept) c.in_ok-content.content c.expand.result c.in_ok-content.ensures c.expand.ensures)
