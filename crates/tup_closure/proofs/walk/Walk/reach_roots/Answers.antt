use Rattle.std.proofs.Common.{◌≡◌, List, ℕ, refl, sym, ap, subst, slice_index, take, length, arith}
use Rattle.std.specs.Prelude.{Contains}
use Rattle.tup_readers.proofs.Entries.{none_in}
use Rattle.tup_closure.specs.Walk.{GoesTo}
use Rattle.tup_closure.proofs.Asked.{taken}
use Rattle.tup_closure.proofs.Stepping.{fewer_roots, if_err, taken_within}
use Rattle.tup_closure.proofs.Walking.{goes_nowhere, number_more}
use Rattle.tup_closure.proofs.walk.Walk.reach_roots.Goals as goal

pub loop-number-init : goal.loop-number-init
loop-number-init g c = record {
  goes = goes_nowhere c.args.self.now none_in;
  ticked = let none : length c.args.self.now.reached.keys ≡ 0 = ap (λ (l : List ℕ). length l) c.requires in omega arith;
}

pub loop-number-preserved : goal.loop-number-preserved
loop-number-preserved g c =
    let numbers = c.args.numbers.now in
    let at = c.loop-number.number-index in
    let number = slice_index numbers at in
    record {
      goes =
          subst (λ (l : List ℕ). GoesTo (Contains l) c.args.self.now c.reach_root.new.self) (sym (taken numbers at number 0 c.loop-number-test.true refl))
          (number_more (take at numbers) number c.args.self.now c.loop-number.self c.reach_root.new.self c.loop-number.invariant.goes c.in_ok-reach_root.ensures.goes);
      ticked = omega (arith, c.loop-number.invariant.ticked, c.in_ok-reach_root.ensures.steps);
    }

pub returns-in_err-reach_root-clause-fewer : goal.returns-in_err-reach_root-clause-fewer
returns-in_err-reach_root-clause-fewer g c =
    if_err c.from_residual.result (fewer_roots c.args.self.now c.loop-number.self (taken_within c.args.numbers.now c.loop-number.number-index) c.args.steps.now c.loop-number.steps c.reach_root.new.steps
    c.requires c.loop-number.invariant.goes c.loop-number.invariant.ticked c.in_err-reach_root.ensures.fewer)
