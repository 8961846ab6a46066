use Rattle.std.proofs.Common.{◌≡◌, ◌+◌, ◌++◌, ◌∷◌, [], take, string_bytes, arith}
use Rattle.std.proofs.lemmas.Grind.{common_steps}
use Rattle.tup_disk.proofs.Places.{place_step}
use Rattle.tup_disk.proofs.disk.place_below.Goals as goal

pub loop-name-preserved : goal.loop-name-preserved
loop-name-preserved c =
    let names = c.args.names.now in
    let at = c.loop-name.name-index in
    let name = c.as_str.result.now in
    let old = string_bytes c.loop-name.place in
    let slashed = string_bytes c.push.new.self in
    let new = string_bytes c.push_str.new.self in
    let grown : take (at + 1) names ≡ take at names ++ name ∷ [] = grind (arith, common_steps) in
    let slash : slashed ≡ old ++ 47 ∷ [] = grind (arith, common_steps) in
    let more : new ≡ slashed ++ name = grind (arith, common_steps) in
    place_step c.args.root.now names at name old slashed new grown c.loop-name.invariant slash more
