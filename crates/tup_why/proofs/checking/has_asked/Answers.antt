use Rattle.std.proofs.Common.{List, Option, subst, true, ◌≡◌}
use Rattle.std.specs.Prelude.{◌↔◌, Contains}
use Rattle.tup_path.specs.Name.{Names}
use Rattle.tup_stamp.specs.declared.Stamp.{Stamp}
use Rattle.tup_why.proofs.Checks.{asked_in}
use Rattle.tup_why.proofs.checking.has_asked.Goals as goal

pub returns-in-Some : goal.returns-in-Some
returns-in-Some c =
    let answer = c.is_among.result in
    let path = c.args.path.now in
    asked_in c.args.nodes.now c.args.number path c.in-Some.last.now c.in-Some.ensures answer
    (subst (λ (asks : List (Names × Option Stamp)). (answer ≡ true) ↔ ((given : Option Stamp) × Contains asks (path, given))) c.as_slice.ensures c.is_among.ensures)
