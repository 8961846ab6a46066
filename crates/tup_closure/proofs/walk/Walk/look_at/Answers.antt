use Rattle.std.proofs.Common.{◌+◌, ◌≤◌, List, ℕ, length, refl, sym, subst, slice_index, take, arith}
use Rattle.std.specs.Prelude.{Contains}
use Rattle.tup_readers.proofs.Entries.{none_in}
use Rattle.tup_closure.specs.Walk.{GoesTo}
use Rattle.tup_closure.proofs.Asked.{taken}
use Rattle.tup_closure.proofs.Stepping.{if_err}
use Rattle.tup_closure.proofs.Walking.{goes_nowhere, number_more}
use Rattle.tup_closure.proofs.walk.Walk.look_at.Goals as goal

pub loop-number-init : goal.loop-number-init
loop-number-init g c = record {
  goes = goes_nowhere c.args.self.now none_in;
  ticked = omega arith;
}

pub loop-number-preserved : goal.loop-number-preserved
loop-number-preserved g c =
    let numbers = c.args.numbers.now in
    let at = c.loop-number.number-index in
    let number = slice_index numbers at in
    record {
      goes =
          subst (λ (l : List ℕ). GoesTo (Contains l) c.args.self.now c.reach.new.self) (sym (taken numbers at number 0 c.loop-number-test.true refl))
          (number_more (take at numbers) number c.args.self.now c.loop-number.self c.reach.new.self c.loop-number.invariant.goes c.in_ok-reach.ensures.goes);
      ticked = omega (arith, c.loop-number.invariant.ticked, c.tick.ensures);
    }

pub returns-in_err-reach-clause-fewer : goal.returns-in_err-reach-clause-fewer
returns-in_err-reach-clause-fewer g c =
    let no_more : c.tick.new.self ≤ c.args.steps.now + length c.args.numbers.now = omega (arith, c.loop-number.invariant.ticked, c.tick.ensures, c.loop-number-test.true) in
    if_err c.from_residual.result no_more
