use Rattle.std.proofs.Common.{List, ℕ, slice_index, sym, subst, take}
use Rattle.std.specs.Prelude.{Contains}
use Rattle.std.proofs.lemmas.List.{take_more}
use Rattle.tup_readers.specs.Changes.{Adds}
use Rattle.tup_readers.specs.Suspects.{IsAmong}
use Rattle.tup_readers.proofs.Suspecting.{no_numbers, number_added}
use Rattle.tup_readers.proofs.suspects.Suspects.add_all.Goals as goal

pub loop-number-init : goal.loop-number-init
loop-number-init c = no_numbers (IsAmong c.args.self.now.numbers)

pub loop-number-preserved : goal.loop-number-preserved
loop-number-preserved c =
    let numbers = c.args.numbers.now in
    let at = c.loop-number.number-index in
    let number = slice_index numbers at in
    subst (λ (l : List ℕ). Adds (Contains l) (IsAmong c.args.self.now.numbers) (IsAmong c.add.new.self.numbers)) (sym (take_more numbers at 0 c.loop-number-test.true))
    (number_added (take at numbers) number c.loop-number.invariant c.in_ok-add.ensures)
