use Rattle.std.proofs.Common.{List, ℕ, refl, sym, subst, slice_index, take}
use Rattle.std.specs.Prelude.{Contains}
use Rattle.std.proofs.lemmas.List.{take_all}
use Rattle.tup_closure.proofs.Asked.{taken}
use Rattle.tup_scan_diff.specs.Touched.{FindsRoots}
use Rattle.tup_scan_diff.proofs.Looking.{no_numbers, number_looked}
use Rattle.tup_scan_diff.proofs.present.Present.push_all.Goals as goal

pub loop-number-init : goal.loop-number-init
loop-number-init c = no_numbers c.args.self.now

pub loop-number-preserved : goal.loop-number-preserved
loop-number-preserved c =
    let numbers = c.args.numbers.now in
    let at = c.loop-number.number-index in
    let number = slice_index numbers at in
    subst (λ (l : List ℕ). FindsRoots c.args.self.now (Contains l) c.args.roots.now c.push_root.new.roots) (sym (taken numbers at number 0 c.loop-number-test.true refl))
    (number_looked c.args.self.now (take at numbers) number c.loop-number.invariant c.in_ok-push_root.ensures.roots)

pub returns-clause-roots : goal.returns-clause-roots
returns-clause-roots c =
    subst (λ (l : List ℕ). FindsRoots c.args.self.now (Contains l) c.args.roots.now c.loop-number.roots) (take_all c.loop-number.number-index c.args.numbers.now c.loop-number-test.false) c.loop-number.invariant
