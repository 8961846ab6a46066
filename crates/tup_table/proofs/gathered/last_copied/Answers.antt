use Rattle.std.proofs.Common.{◌≡◌, ◌+◌, ◌-◌, ◌++◌, ◌∷◌, [], take, drop, length, subst, arith}
use Rattle.std.proofs.lemmas.Grind.{common_steps}
use Rattle.tup_table.specs.Slots.{Slots, LeaveAlike}
use Rattle.tup_table.proofs.Gathering.{all_passed, one_passed}
use Rattle.tup_table.proofs.gathered.last_copied.Goals as goal

pub left-preserved : goal.left-preserved
left-preserved c =
    let slots = c.args.slots.now in
    let behind = drop (c.left.at + 1) slots in
    let slot = c.index-slots-at.result in
    let whole : take (length slots - (c.left.at + 1)) behind ≡ behind = grind (arith, common_steps) in
    let first : drop c.left.at slots ≡ slot ∷ behind = grind (arith, common_steps) in
    let kept : LeaveAlike (c.keep.new.kept.items ++ behind) (c.left.kept.items ++ slot ∷ behind) =
    subst (λ (t : Slots). LeaveAlike (c.keep.new.kept.items ++ t) (c.left.kept.items ++ slot ∷ t)) whole c.in_ok-keep.ensures in
    record {
      inside = omega (arith, c.left-test.true);
      alike = one_passed c.left.kept.items behind c.keep.new.kept.items (drop c.left.at slots) slots slot first c.left.invariant.alike kept;
    }

pub returns : goal.returns
returns c =
    let none : drop c.left.at c.args.slots.now ≡ [] = grind (arith, common_steps) in
    all_passed c.left.kept.items (drop c.left.at c.args.slots.now) c.args.slots.now none c.left.invariant.alike
