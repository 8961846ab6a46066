use Rattle.std.proofs.Common.{◌≡◌, ◌≤◌, ◌++◌, ◌∷◌, [], length, string_bytes, inl, inr, arith, ap}
use Rattle.std.proofs.lemmas.Grind.{common_steps}
use Rattle.std.proofs.lemmas.Bool.Decides.{nat_tests}
use Rattle.tup_path.proofs.Shown.{shown_added}
use Rattle.tup_path.proofs.show.add.Goals as goal
use Rattle.tup_path.proofs.show.add.Goals.{then-not-is_empty+in_ok-push, else-not-is_empty}

pub returns : goal.returns
returns c =
    let old = string_bytes c.args.shown.now in
    let grown = string_bytes c.if-not-is_empty.shown in
    let new = string_bytes c.push_str.new.self in
    elim c.if-not-is_empty.branch [
      | then-not-is_empty+in_ok-push w ↦
          let some : 1 ≤ length old = grind (arith, common_steps, nat_tests) in
          let slash : grown ≡ old ++ 47 ∷ [] = grind (arith, common_steps) in
          shown_added c.push_str.result old grown new c.args.name.now (inr (some, slash)) c.push_str.ensures.bytes
      | else-not-is_empty w ↦
          let none : length old ≡ 0 = grind (arith, common_steps, nat_tests) in
          shown_added c.push_str.result old grown new c.args.name.now (inl (none, ap string_bytes w.shown-is)) c.push_str.ensures.bytes
    ]
