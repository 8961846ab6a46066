use Rattle.std.proofs.Common.{◌≡◌, ◌∙◌, ap, arith, length, Err}
use Rattle.std.proofs.lemmas.List.{take_at}
use Rattle.std.proofs.lemmas.Result.{err_from_is_err_and}
use Rattle.std.specs.FinMap as finite
use Rattle.tup_clean.specs.Clean.{Build}
use Rattle.tup_clean.specs.Cleaned.{build}
use Rattle.tup_clean.proofs.Building.{built_clean, ran_clean}
use Rattle.tup_clean.proofs.Stopping.{ran_whole, stopped_all, stopped_same}
use Rattle.tup_clean.proofs.build.clean_build.Goals as goal

pub returns : goal.returns
returns g c =
    let long : length c.build_on.new.verdicts ≡ c.in_ok-verdicts.verdicts.len = omega arith in
    record {
      cleaned = λ told.
          let built = built_clean g.R.Runner.next c.args.rules.now _ _ _ c.in_ok-tree.ensures (c.deref_mut.ensures.value ∙ c.in_ok-verdicts.ensures) (c.in_ok-build_on.ensures.built told) in
          record {
            tree = c.in_ok-into_files.ensures ∙ ap (λ (build : Build). finite.entries build.tree) built;
            verdicts = c.from_vec.ensures ∙ take_at c.build_on.new.verdicts _ _ long ∙ ap (λ (build : Build). build.verdicts) built;
          };
      ran = λ told tells.
          ran_whole _ _ _ _ (c.in_ok-build_on.ensures.ran told tells)
          (ran_clean g.R.Runner.next c.args.rules.now _ (build c.in_ok-tree.tree _) c.in_ok-tree.ensures (c.deref_mut.ensures.value ∙ c.in_ok-verdicts.ensures));
      cause = c.in_ok-build_on.ensures.cause;
    }

pub returns-in_err-build_on-clause-ran : goal.returns-in_err-build_on-clause-ran
returns-in_err-build_on-clause-ran g c = λ told tells.
    let same = ran_clean g.R.Runner.next c.args.rules.now _ (build c.in_ok-tree.tree _) c.in_ok-tree.ensures (c.deref_mut.ensures.value ∙ c.in_ok-verdicts.ensures) in
    let is : c.from_residual-in_err-build_on.result ≡ Err c.in_err-build_on.field-0.0 = grind arith in
    rw is (stopped_same _ _ _ _ same (c.in_err-build_on.ensures.ran told tells))

pub returns-in_err-into_files-clause-ran : goal.returns-in_err-into_files-clause-ran
returns-in_err-into_files-clause-ran g c = λ told tells.
    let same = ran_clean g.R.Runner.next c.args.rules.now _ (build c.in_ok-tree.tree _) c.in_ok-tree.ensures (c.deref_mut.ensures.value ∙ c.in_ok-verdicts.ensures) in
    let p = err_from_is_err_and c.from_residual-in_err-into_files.result c.from_residual-in_err-into_files.ensures.1 in
    rw p.1 (stopped_all _ _ _ _ same (c.in_ok-build_on.ensures.ran told tells))
