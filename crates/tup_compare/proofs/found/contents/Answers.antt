use Rattle.std.proofs.Common.{◌≡◌, [], List, IsTrue, take, refl, sym, ap, subst, arith, ◌∙◌}
use Rattle.std.specs.FinMap as finite
use Rattle.std.proofs.lemmas.List.{take_all}
use Rattle.tup_path.specs.Name.{Names, Content}
use Rattle.tup_path.specs.Order.{by_names}
use Rattle.tup_path.specs.Tree.{Tree}
use Rattle.tup_site.specs.World.{World}
use Rattle.tup_site.specs.declared.fault.SiteFailed.TheVariants.{TooLarge}
use Rattle.tup_compare.specs.Found.{AddsFile}
use Rattle.tup_compare.proofs.Reading.{among_here}
use Rattle.tup_compare.proofs.Handed.{handed_on}
use Rattle.tup_compare.proofs.Reading.{HasFilesAt, from_T, none_found, next_looked_for, all_found}
use Rattle.tup_stale.proofs.Going.{at_rest}
use Rattle.tup_site.specs.Crash.{NoStep}
use Rattle.tup_compare.proofs.Quiet.{then_quiet}
use Rattle.tup_compare.proofs.found.contents.Goals as goal

pub loop-path-init : goal.loop-path-init
loop-path-init g c = record {
  files = λ tells. subst (HasFilesAt (g.S.Site.world c.args.site.now).tree []) (sym c.new-files.ensures) (none_found (g.S.Site.world c.args.site.now).tree);
  same = λ tells. refl;
  known = λ tells. refl;
  crash = λ tells. at_rest g.S.Site.moment g.S.Site.left_since c.args.site.now NoStep;
  counted = refl;
}

pub loop-path-preserved : goal.loop-path-preserved
loop-path-preserved g c = record {
  files = λ tells. next_looked_for (g.S.Site.world c.args.site.now).tree c.loop-path.files c.add.new.files c.args.paths.now c.loop-path.path-index c.path-item.result (omega arith) c.path-item.is
      (c.loop-path.invariant.files tells)
      (subst (λ (w : World). AddsFile c.path-item.result (finite.get w.tree c.path-item.result) c.loop-path.files c.add.new.files) (c.loop-path.invariant.same tells) (c.in_ok-add.ensures.added tells));
  same = λ tells. c.add.ensures.same tells ∙ c.loop-path.invariant.same tells;
  known = λ tells. c.add.ensures.known tells ∙ c.loop-path.invariant.known tells;
  crash = λ tells. then_quiet g.S.Site.moment g.S.Site.left_since c.args.site.now c.loop-path.site c.add.new.site NoStep (c.loop-path.invariant.crash tells) (c.add.ensures.crash tells);
  counted = c.add.ensures.counted.steady (λ e. cc (c.in_ok-add.was, e)) ∙ c.loop-path.invariant.counted;
}

pub returns-clause-files : goal.returns-clause-files
returns-clause-files g c = λ tells part keys agrees.
    let tree = (g.S.Site.world c.args.site.now).tree in
    let paths = c.args.paths.now in
    let all : take c.loop-path.path-index paths ≡ paths = take_all c.loop-path.path-index paths (omega arith) in
    c.in_ok-into_items.ensures
    ∙ ap (λ (t : Tree). finite.entries t) (all_found tree part c.loop-path.files paths keys agrees (subst (λ (l : List Names). HasFilesAt tree l c.loop-path.files) all (c.loop-path.invariant.files tells)))

pub returns-clause-sorted : goal.returns-clause-sorted
returns-clause-sorted g c = subst (λ (l : List (Names × Content)). IsTrue (finite.is_sorted by_names l)) (sym c.in_ok-into_items.ensures) (from_T (finite.is_sorted by_names (finite.entries c.loop-path.files)) (finite.entries_sorted c.loop-path.files))

pub returns-in_err-add-clause-crash : goal.returns-in_err-add-clause-crash
returns-in_err-add-clause-crash g c = λ tells. then_quiet g.S.Site.moment g.S.Site.left_since c.args.site.now c.loop-path.site c.add.new.site NoStep (c.loop-path.invariant.crash tells) (c.add.ensures.crash tells)

pub returns-in_err-add-clause-large : goal.returns-in_err-add-clause-large
returns-in_err-add-clause-large g c = λ tells n e. (
  c.path-item.result,
  among_here c.args.paths.now c.loop-path.path-index c.path-item.result (omega arith) (sym c.path-item.is),
  c.add.ensures.large tells n (handed_on c.add.result c.from_residual.result c.in_err-add.field-0.0 (TooLarge n) c.in_err-add.was c.from_residual.ensures.1 e),
)
