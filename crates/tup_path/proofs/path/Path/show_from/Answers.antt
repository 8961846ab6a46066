use Rattle.std.proofs.Common.{◌≤◌, drop, length}
use Rattle.std.proofs.lemmas.List.Elements.{All-take, All-drop}
use Rattle.tup_path.proofs.Shown.{some_bytes}
use Rattle.tup_path.proofs.path.Path.show_from.Goals as goal

pub written-requires : goal.written-requires
written-requires c =
    let names = c.names-3.result.now in
    let from = c.shared-shared.result in
    All-take (λ name. 1 ≤ length name) _ (drop from names) (All-drop (λ name. 1 ≤ length name) from names (some_bytes names (rw c.names-3.ensures.names c.names-3.ensures.path)))
