use Rattle.std.proofs.Common.{◌≡◌, ◌<◌, ◌≤◌, ◌++◌, ◌∷◌, [], true, length, arith}
use Rattle.std.proofs.lemmas.Grind.{common_steps}
use Rattle.tup_path.specs.Resolve.{is_visible}
use Rattle.tup_path.proofs.Names.{path_push, visible_name}
use Rattle.tup_path.proofs.path.Path.go_down.Goals as goal

pub invariant_of-self-2 : goal.invariant_of-self-2
invariant_of-self-2 c =
    let visible : is_visible c.args.name ≡ true = grind arith in
    let short : length c.args.name ≤ 255 = grind (arith, common_steps) in
    let before = c.self.inside.names.items in
    let grown : c.push.new.self.items ≡ before ++ c.args.name ∷ [] = grind (arith, common_steps) in
    let room : length before < 32 = grind (arith, common_steps) in
    rw grown (path_push before c.args.name c.self.invariant (visible_name c.args.name c.as_str-text.ensures.utf8 short visible) room)
