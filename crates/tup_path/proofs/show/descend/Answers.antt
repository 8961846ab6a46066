use Rattle.std.proofs.Common.{◌≡◌, ◌≤◌, ◌+◌, ◌++◌, ◌∷◌, [], take, length, sym, ap, ◌∙◌, append_assoc, arith}
use Rattle.std.proofs.lemmas.Grind.{common_steps}
use Rattle.std.proofs.lemmas.List.Elements.{All-append, All-take}
use Rattle.std.specs.List.{join_with_byte}
use Rattle.tup_path.proofs.show.descend.Goals as goal

pub loop-name-preserved : goal.loop-name-preserved
loop-name-preserved c = λ front some shown.
    let names = c.args.names.now in
    let at = c.loop-name.name-index in
    let name = c.as_str.result.now in
    let now = c.in_ok-add.ensures (front ++ take at names) (All-append (λ name. 1 ≤ length name) front (take at names) some (All-take (λ name. 1 ≤ length name) at names c.requires)) (c.loop-name.invariant front some shown) in
    let grown : take (at + 1) names ≡ take at names ++ name ∷ [] = grind (arith, common_steps) in
    now ∙ ap (join_with_byte 47) (append_assoc front (take at names) (name ∷ []) ∙ ap (λ x. front ++ x) (sym grown))
