use Rattle.std.proofs.lemmas.Result.{err_from_is_err_and}
use Rattle.tup_path.specs.Name.{Content}
use Rattle.tup_mini.specs.Files.{needs, writes_to}
use Rattle.tup_mini.specs.Through.{kept_of}
use Rattle.tup_mini.proofs.Following.{ok_then, err_behind, at_once}
use Rattle.tup_mini.proofs.doing.copy.Goals as goal

pub returns-in_err-content : goal.returns-in_err-content
returns-in_err-content g c =
    let p = err_from_is_err_and c.from_residual.result c.from_residual.ensures.1 in
    rw (p.1, p.2) (err_behind g.V.View.came g.V.View.same g.V.View.refusal c.args.view.now c.need.new.view (λ (content : Content). writes_to c.args.to.now content)
    (needs c.args.from.now (kept_of c.args.kept.now)) (kept_of c.need.new.self) _ c.in_err-content.ensures)

pub returns : goal.returns
returns g c =
    ok_then g.V.View.came g.V.View.same g.V.View.refusal g.met.V.View.goes_on g.met.V.View.same_on c.args.view.now c.need.new.view c.need.new.view
    (λ (content : Content). writes_to c.args.to.now content) (needs c.args.from.now (kept_of c.args.kept.now)) (kept_of c.need.new.self) (kept_of c.write.new.self) c.in_ok-content.content c.write.result
    c.in_ok-content.ensures
    (at_once g.V.View.came g.V.View.same g.V.View.refusal g.met.V.View.stays g.met.V.View.same_itself c.need.new.view (writes_to c.args.to.now c.in_ok-content.content (kept_of c.need.new.self)) (kept_of c.write.new.self)
    c.write.result c.in_ok-content.ensures.granted c.write.ensures)
