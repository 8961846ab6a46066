use Rattle.std.proofs.Common.{◌≢◌, ◌≤◌, ◌∙◌, length, get_or, rules, arith}
use Rattle.std.proofs.lemmas.Grind.{common_steps}
use Rattle.std.proofs.lemmas.Bool.Decides.{nat_tests}
use Rattle.std.proofs.lemmas.Iterator.{YieldsList-from_slice}
use Rattle.std.proofs.lemmas.Iterator.Search.{all_from_yields_List}
use borrow.Author.Tests.{tests}
use Rattle.tup_path.specs.Resolve as resolve
use Rattle.tup_path.proofs.Names.{visible_bytes}
use Rattle.tup_path.proofs.name.is_visible.Goals as goal
use Rattle.tup_path.proofs.name.is_visible.Goals.{then-not-is_empty, else-not-is_empty}

pub returns-then-bytes-ne46 : goal.returns-then-bytes-ne46
returns-then-bytes-ne46 c =
    let name = c.args.name.now in
    let some : 1 ≤ length name =
    elim c.if-not-is_empty.branch [
      | then-not-is_empty w ↦ grind (arith, common_steps, nat_tests)
      | else-not-is_empty w ↦ grind (arith, common_steps, nat_tests)
    ]
    in
    let first : get_or name 0 0 ≢ 46 =
    elim c.if-not-is_empty.branch [
      | then-not-is_empty w ↦ grind (arith, common_steps, nat_tests)
      | else-not-is_empty w ↦ grind (arith, common_steps, nat_tests)
    ]
    in
    all_from_yields_List resolve.is_name_byte _ _ _ c.all.ensures.ran (YieldsList-from_slice name cc) (λ x b q k. search (rules, tests)) ∙ visible_bytes name some first
