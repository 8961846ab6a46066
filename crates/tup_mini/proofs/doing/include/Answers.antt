use Rattle.std.proofs.Common.{[], Err, ◌∙◌, subst}
use Rattle.std.proofs.lemmas.Result.{err_from_is_err_and}
use Rattle.tup_path.specs.Name.{Content}
use Rattle.tup_mini.specs.Part.{Part, ◌>>=◌, gives}
use Rattle.tup_mini.specs.Files.{needs, writes_to}
use Rattle.tup_mini.specs.Include.{expands, includes, lines_of}
use Rattle.tup_mini.specs.Through.{kept_of, Follows, GoesOn}
use Rattle.tup_mini.proofs.Following.{ok_then, err_behind, at_once}
use Rattle.tup_mini.proofs.doing.include.Goals as goal

pub returns-in_err-content : goal.returns-in_err-content
returns-in_err-content g c =
    let p = err_from_is_err_and c.from_residual.result c.from_residual.ensures.1 in
    let on : Content → Part (Unit {0}) = λ content. expands (includes 32) c.args.from.now [] (lines_of content) >>= λ whole. writes_to c.args.to.now whole in
    rw (p.1, p.2) (err_behind g.V.View.came g.V.View.same g.V.View.refusal c.args.view.now c.need.new.view on (needs c.args.from.now (kept_of c.args.kept.now)) (kept_of c.need.new.self) _ c.in_err-content.ensures)

pub returns-in_err-whole : goal.returns-in_err-whole
returns-in_err-whole g c =
    let p = err_from_is_err_and c.from_residual-in_err-whole.result c.from_residual-in_err-whole.ensures.1 in
    let last : Content → Part (Unit {0}) = λ whole. writes_to c.args.to.now whole in
    let on : Content → Part (Unit {0}) = λ content. expands (includes 32) c.args.from.now [] (lines_of content) >>= last in
    let mid = kept_of c.need.new.self in
    let empty = c.new-front.ensures ∙ c.new.ensures.items in
    let inner = subst (λ (f : Content). Follows g.V.View.came g.V.View.same g.V.View.refusal c.need.new.view c.expand.new.view (expands (includes 32) c.args.from.now f (lines_of c.in_ok-content.content) mid) (kept_of c.expand.new.kept)
    (Err c.in_err-whole.field-0.0)) empty c.in_err-whole.ensures in
    rw (p.1, p.2) (ok_then g.V.View.came g.V.View.same g.V.View.refusal g.met.V.View.goes_on g.met.V.View.same_on c.args.view.now c.need.new.view c.expand.new.view on (needs c.args.from.now (kept_of c.args.kept.now)) mid
    (kept_of c.expand.new.kept) c.in_ok-content.content (Err c.in_err-whole.field-0.0) c.in_ok-content.ensures
    (err_behind g.V.View.came g.V.View.same g.V.View.refusal c.need.new.view c.expand.new.view last (expands (includes 32) c.args.from.now [] (lines_of c.in_ok-content.content) mid) (kept_of c.expand.new.kept) _ inner))

pub returns : goal.returns
returns g c =
    let last : Content → Part (Unit {0}) = λ whole. writes_to c.args.to.now whole in
    let on : Content → Part (Unit {0}) = λ content. expands (includes 32) c.args.from.now [] (lines_of content) >>= last in
    let mid = kept_of c.need.new.self in
    let empty = c.new-front.ensures ∙ c.new.ensures.items in
    let inner = subst (λ (f : Content). GoesOn g.V.View.came g.V.View.same g.V.View.refusal c.need.new.view c.expand.new.view (expands (includes 32) c.args.from.now f (lines_of c.in_ok-content.content) mid)
    (gives c.in_ok-whole.whole (kept_of c.expand.new.kept))) empty c.in_ok-whole.ensures in
    ok_then g.V.View.came g.V.View.same g.V.View.refusal g.met.V.View.goes_on g.met.V.View.same_on c.args.view.now c.need.new.view c.expand.new.view on (needs c.args.from.now (kept_of c.args.kept.now)) mid
    (kept_of c.write.new.self) c.in_ok-content.content c.write.result c.in_ok-content.ensures
    (ok_then g.V.View.came g.V.View.same g.V.View.refusal g.met.V.View.goes_on g.met.V.View.same_on c.need.new.view c.expand.new.view c.expand.new.view last (expands (includes 32) c.args.from.now [] (lines_of c.in_ok-content.content) mid)
    (kept_of c.expand.new.kept) (kept_of c.write.new.self) c.in_ok-whole.whole c.write.result inner
    (at_once g.V.View.came g.V.View.same g.V.View.refusal g.met.V.View.stays g.met.V.View.same_itself c.expand.new.view (writes_to c.args.to.now c.in_ok-whole.whole (kept_of c.expand.new.kept)) (kept_of c.write.new.self) c.write.result
    inner.granted c.write.ensures))
