use Rattle.std.proofs.Common.{◌≡◌, length, drop, ap, rules, arith}
use Rattle.std.proofs.lemmas.Slice.Eq.{starts_is, bytes_eq-Decides}
use Rattle.std.proofs.lemmas.Grind.{common_steps}
use Rattle.tup_path.proofs.path.Path.is_below.Goals as goal

pub returns-then-depth : goal.returns-then-depth
returns-then-depth c =
    let path = c.args.self.now in
    let folder = c.args.folder.now in
    let cut = starts_is bytes_eq-Decides path folder c.starts_with.result (search rules) in (
      λ yes. (drop (length folder) path, (λ none. let short : length (drop (length folder) path) ≡ 0 = ap length none in grind (arith, common_steps)), cut.0 yes),
      λ below. cut.1 below.0 below.2,
    )
