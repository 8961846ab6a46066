use Rattle.std.proofs.Common.{◌≡◌, List, take, is_some, All, Result, Err, sym, ap, subst, ◌∙◌, arith}
use Rattle.std.specs.FinMap as finite
use Rattle.std.proofs.lemmas.List.{take_all}
use Rattle.std.proofs.lemmas.List.Elements.{All-more}
use Rattle.tup_path.specs.Name.{Names}
use Rattle.tup_site.specs.Crash.{NoStep}
use Rattle.tup_site.specs.World.{World}
use Rattle.tup_stale.specs.Unmade.{standing, HasNoUsers, IsRefused, Sees}
use Rattle.tup_stale.specs.declared.fault.StaleFault.{StaleFault}
use Rattle.tup_stale.proofs.Going.{then_nothing}
use Rattle.tup_stale.proofs.Looked.{standing_with, standing_without, refused_behind}
use Rattle.tup_stale.proofs.looking.look.Goals as goal
use Rattle.tup_stale.proofs.looking.look.Goals.{then-branch+in_ok-clone+in_ok-push, else-branch}

pub returns-in_err-has_file-clause-sees : goal.returns-in_err-has_file-clause-sees
returns-in_err-has_file-clause-sees g c = λ tells.
    let nodes = c.args.nodes.now in
    let tree = (g.S.Site.world c.args.site.now).tree in
    let paths = c.args.paths.now in
    let fault = c.in_err-has_file.field-0.0 in
    let is : c.from_residual.result ≡ Err fault = grind arith in
    subst (λ (r : Result (List Names) StaleFault). Sees nodes tree paths r) (sym is)
    (refused_behind nodes tree paths c.loop-path.path-index c.path-item.result fault (omega arith) (sym c.path-item.is) (c.loop-path.invariant.none tells)
    (subst (λ (w : World). IsRefused nodes w.tree c.path-item.result fault) (c.loop-path.invariant.same tells) (c.in_err-has_file.ensures.refused tells)))

pub loop-path-preserved : goal.loop-path-preserved
loop-path-preserved g c =
    let site_laws = g.met.S.Site in
    let nodes = c.args.nodes.now in
    let tree = (g.S.Site.world c.args.site.now).tree in
    let paths = c.args.paths.now in
    let i = c.loop-path.path-index in
    let path = c.path-item.result in
    let mid = c.loop-path.site in
    record {
      files = λ tells.
          (let there = c.in_ok-has_file.ensures.file tells ∙ ap (λ (w : World). is_some (finite.get w.tree path)) (c.loop-path.invariant.same tells) in
          elim c.if-branch.branch [
            | then-branch+in_ok-clone+in_ok-push w ↦
                w.files-is ∙ standing_with tree paths i path w.in_ok-clone.field-0 _ _ (omega arith) (sym c.path-item.is) (sym there ∙ w.if-branch.true) w.in_ok-clone.ensures.cases (c.loop-path.invariant.files tells) w.in_ok-push.ensures.ok
            | else-branch w ↦ w.files-is ∙ standing_without tree paths i path _ (omega arith) (sym c.path-item.is) (sym there ∙ w.if-branch.false) (c.loop-path.invariant.files tells)
          ]);
      none = λ tells.
          All-more (HasNoUsers nodes tree) paths i path (omega arith) (c.loop-path.invariant.none tells)
          (subst (HasNoUsers nodes tree) c.path-item.is (subst (λ (w : World). HasNoUsers nodes w.tree path) (c.loop-path.invariant.same tells) (c.in_ok-has_file.ensures.none tells)));
      counted = c.has_file.ensures.cause.steady (λ e. cc (c.in_ok-has_file.was, e)) ∙ c.loop-path.invariant.counted;
      same = λ tells. c.has_file.ensures.same tells ∙ c.loop-path.invariant.same tells;
      crash = λ tells.
          then_nothing g.S.Site.moment g.S.Site.left_since c.args.site.now mid c.has_file.new.site NoStep (λ t u w le left. site_laws.earlier mid t u w tells le left)
          (c.loop-path.invariant.crash tells) (c.has_file.ensures.crash tells);
      known = λ tells. c.has_file.ensures.known tells ∙ c.loop-path.invariant.known tells;
    }

pub returns-clause-sees : goal.returns-clause-sees
returns-clause-sees g c = λ tells.
    let nodes = c.args.nodes.now in
    let tree = (g.S.Site.world c.args.site.now).tree in
    let paths = c.args.paths.now in
    let all : take c.loop-path.path-index paths ≡ paths = take_all c.loop-path.path-index paths (omega arith) in
    let files : c.loop-path.files ≡ standing tree paths = c.loop-path.invariant.files tells ∙ ap (standing tree) all in
    (files, subst (λ (ps : List Names). All (HasNoUsers nodes tree) ps) all (c.loop-path.invariant.none tells))
