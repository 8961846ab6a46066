use Rattle.std.proofs.Common.{◌≡◌, ◌+◌, ◌<◌, ◌++◌, ◌∷◌, [], take, length, map, string_bytes, ap, ◌∙◌, arith}
use Rattle.std.proofs.lemmas.Grind.{common_steps}
use Rattle.std.proofs.lemmas.List.{map-append}
use Rattle.tup_disk.specs.Place.{place_of, places_to}
use Rattle.tup_disk.proofs.Places.{places_step}
use Rattle.tup_disk.proofs.disk.Disk.folders_above.Goals as goal

pub loop-last-preserved : goal.loop-last-preserved
loop-last-preserved g c =
    let root = string_bytes c.args.self.now.root in
    let path = c.args.path.now in
    let at = c.loop-last.last in
    let old = c.loop-last.folders.items in
    let place = c.in_ok-place.field-0 in
    let more : c.push.new.self.items ≡ old ++ place ∷ [] = grind (arith, common_steps) in
    let front : string_bytes place ≡ place_of root (take (at + 1) path) = grind (arith, common_steps) in
    let room : at < length path = grind (arith, common_steps) in
    ap (map string_bytes) more ∙ map-append string_bytes old (place ∷ [])
    ∙ ap (λ places. places ++ string_bytes place ∷ []) c.loop-last.invariant
    ∙ ap (λ t. places_to root (take at path) ++ t ∷ []) front ∙ places_step root path at room
