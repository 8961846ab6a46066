use Rattle.std.proofs.Common.{[]}
use Rattle.std.proofs.lemmas.Result.{err_from_is_err_and}
use Rattle.tup_path.specs.Name.{Content}
use Rattle.tup_mini.specs.Files.{gathers, writes_to}
use Rattle.tup_mini.specs.Through.{kept_of}
use Rattle.tup_mini.proofs.Following.{ok_then, err_behind, at_once}
use Rattle.tup_mini.proofs.doing.join.Goals as goal

pub returns-in_err-whole : goal.returns-in_err-whole
returns-in_err-whole g c =
    let p = err_from_is_err_and c.from_residual.result c.from_residual.ensures.1 in
    rw (p.1, p.2) (err_behind g.V.View.came g.V.View.same g.V.View.refusal c.args.view.now c.gather.new.view (λ (content : Content). writes_to c.args.to.now content)
    (gathers [] c.args.from.now (kept_of c.args.kept.now)) (kept_of c.gather.new.kept) _ c.in_err-whole.ensures)

pub returns : goal.returns
returns g c =
    ok_then g.V.View.came g.V.View.same g.V.View.refusal g.met.V.View.goes_on g.met.V.View.same_on c.args.view.now c.gather.new.view c.gather.new.view
    (λ (content : Content). writes_to c.args.to.now content) (gathers [] c.args.from.now (kept_of c.args.kept.now)) (kept_of c.gather.new.kept) (kept_of c.write.new.self) c.in_ok-whole.whole c.write.result
    c.in_ok-whole.ensures
    (at_once g.V.View.came g.V.View.same g.V.View.refusal g.met.V.View.stays g.met.V.View.same_itself c.gather.new.view (writes_to c.args.to.now c.in_ok-whole.whole (kept_of c.gather.new.kept)) (kept_of c.write.new.self)
    c.write.result c.in_ok-whole.ensures.granted c.write.ensures)
