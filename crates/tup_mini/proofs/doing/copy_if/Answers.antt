use Rattle.std.proofs.Common.{[], Option, Some, None, sym, ◌∙◌, subst}
use Rattle.std.proofs.lemmas.Result.{err_from_is_err_and}
use Rattle.tup_path.specs.Name.{Content}
use Rattle.tup_mini.specs.Part.{Part}
use Rattle.tup_mini.specs.Files.{reads, writes_to}
use Rattle.tup_mini.specs.Means.{copies}
use Rattle.tup_mini.specs.Through.{kept_of, Follows, AtOnce}
use Rattle.tup_mini.proofs.Following.{ok_then, err_behind, at_once}
use Rattle.tup_mini.proofs.doing.copy_if.Goals as goal
use Rattle.tup_mini.proofs.doing.copy_if.Goals.{in-Some, in-None}

pub returns-in_err-read : goal.returns-in_err-read
returns-in_err-read g c =
    let p = err_from_is_err_and c.from_residual.result c.from_residual.ensures.1 in
    let on : Option Content → Part (Unit {0}) = λ found. elim found [ Some there ↦ copies c.args.from.now c.args.to.now | None ↦ writes_to c.args.to.now [] ] in
    rw (p.1, p.2) (err_behind g.V.View.came g.V.View.same g.V.View.refusal c.args.view.now c.read.new.view on (reads c.args.probe.now (kept_of c.args.kept.now)) (kept_of c.read.new.self) _ c.in_err-read.ensures)

pub returns : goal.returns
returns g c =
    let on : Option Content → Part (Unit {0}) = λ found. elim found [ Some there ↦ copies c.args.from.now c.args.to.now | None ↦ writes_to c.args.to.now [] ] in
    let mid = kept_of c.read.new.self in
    let probed = reads c.args.probe.now (kept_of c.args.kept.now) in
    elim c.match-branch-2.branch [
      | in-Some w ↦
          rw (w.kept-is, w.view-is, w.result-is)
          (ok_then g.V.View.came g.V.View.same g.V.View.refusal g.met.V.View.goes_on g.met.V.View.same_on c.args.view.now c.read.new.view w.copy.new.view on probed mid (kept_of w.copy.new.kept) c.in_ok-read.field-0 w.copy.result
          c.in_ok-read.ensures
          (subst (λ (o : Option Content). Follows g.V.View.came g.V.View.same g.V.View.refusal c.read.new.view w.copy.new.view (on o mid) (kept_of w.copy.new.kept) w.copy.result) (sym w.in-Some.is) w.copy.ensures))
      | in-None w ↦
          let empty = w.new-in-None.ensures ∙ w.new.ensures.items in
          rw (w.kept-is, w.view-is, w.result-is)
          (ok_then g.V.View.came g.V.View.same g.V.View.refusal g.met.V.View.goes_on g.met.V.View.same_on c.args.view.now c.read.new.view c.read.new.view on probed mid (kept_of w.write.new.self) c.in_ok-read.field-0 w.write.result
          c.in_ok-read.ensures
          (subst (λ (o : Option Content). Follows g.V.View.came g.V.View.same g.V.View.refusal c.read.new.view c.read.new.view (on o mid) (kept_of w.write.new.self) w.write.result) (sym w.in-None.is)
          (at_once g.V.View.came g.V.View.same g.V.View.refusal g.met.V.View.stays g.met.V.View.same_itself c.read.new.view (writes_to c.args.to.now [] mid) (kept_of w.write.new.self) w.write.result c.in_ok-read.ensures.granted
          (subst (λ (t : Content). AtOnce (writes_to c.args.to.now t mid) (kept_of w.write.new.self) w.write.result) empty w.write.ensures))))
    ]
