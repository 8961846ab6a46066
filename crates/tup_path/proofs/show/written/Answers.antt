use Rattle.std.proofs.Common.{◌≤◌, ◌++◌, ◌∷◌, [], All, length, replicate, string_bytes, inl, inr, arith}
use Rattle.std.proofs.lemmas.Grind.{common_steps}
use Rattle.std.proofs.lemmas.Bool.Decides.{nat_tests}
use Rattle.std.proofs.lemmas.List.Elements.{All-append, All-replicate}
use Rattle.tup_path.specs.Name.{Names}
use Rattle.tup_path.proofs.Shown.{shown_or_dot}
use Rattle.tup_path.proofs.show.written.Goals as goal
use Rattle.tup_path.proofs.show.written.Goals.{then-is_empty+in_ok-push, else-is_empty}

pub returns : goal.returns
returns c =
    let up : Names = replicate c.args.up (46 ∷ 46 ∷ []) in
    let names : Names = c.args.names.now in
    let ups : All (λ name. 1 ≤ length name) up = All-replicate (λ name. 1 ≤ length name) c.args.up (46 ∷ 46 ∷ []) (omega arith) in
    let shown = string_bytes c.descend.new.shown in
    let joined = c.in_ok-descend.ensures up ups c.in_ok-climb.ensures in
    shown_or_dot (up ++ names) shown c.from_string.result (All-append (λ name. 1 ≤ length name) up names ups c.requires) joined
    (elim c.if-is_empty.branch [
      | then-is_empty+in_ok-push w ↦ inl (grind (arith, common_steps, nat_tests), grind (arith, common_steps))
      | else-is_empty w ↦ inr (grind (arith, common_steps, nat_tests), grind (arith, common_steps))
    ])
