use Rattle.std.proofs.Common.{Option, subst}
use Rattle.std.proofs.lemmas.Result.{err_from_is_err_and}
use Rattle.tup_path.specs.Name.{Content}
use Rattle.tup_mini.specs.Files.{reads, needs, there}
use Rattle.tup_mini.specs.Part.{gives}
use Rattle.tup_mini.specs.Through.{kept_of, GoesOn}
use Rattle.tup_mini.proofs.Following.{on_behind, err_behind}
use Rattle.tup_mini.proofs.kept.Kept.need.Goals as goal

pub returns-in_err-content : goal.returns-in_err-content
returns-in_err-content g c =
    let p = err_from_is_err_and c.from_residual.result c.from_residual.ensures.1 in
    rw (p.1, p.2) (err_behind g.V.View.came g.V.View.same g.V.View.refusal c.args.view.now c.read.new.view there (reads c.args.text.now (kept_of c.args.self.now)) (kept_of c.read.new.self) _ c.in_err-content.ensures)

pub returns-in-Some : goal.returns-in-Some
returns-in-Some g c =
    subst (λ (o : Option Content). GoesOn g.V.View.came g.V.View.same g.V.View.refusal c.args.view.now c.read.new.view (needs c.args.text.now (kept_of c.args.self.now)) (there o (kept_of c.read.new.self))) c.in-Some.is
    (on_behind g.V.View.came g.V.View.same g.V.View.refusal c.args.view.now c.read.new.view there (reads c.args.text.now (kept_of c.args.self.now)) (gives c.in_ok-content.field-0 (kept_of c.read.new.self)) c.in_ok-content.ensures)

pub returns-in-None : goal.returns-in-None
returns-in-None g c =
    subst (λ (o : Option Content). GoesOn g.V.View.came g.V.View.same g.V.View.refusal c.args.view.now c.read.new.view (needs c.args.text.now (kept_of c.args.self.now)) (there o (kept_of c.read.new.self))) c.in-None.is
    (on_behind g.V.View.came g.V.View.same g.V.View.refusal c.args.view.now c.read.new.view there (reads c.args.text.now (kept_of c.args.self.now)) (gives c.in_ok-content.field-0 (kept_of c.read.new.self)) c.in_ok-content.ensures)
