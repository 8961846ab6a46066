use Rattle.std.proofs.Common.{is_some, sym, ap, ◌∙◌}
use Rattle.std.specs.Option.{option_copied}
use Rattle.tup_site.specs.Memory.{tree_in}
use Rattle.tup_site.proofs.Trees.{place_from_tree}
use Rattle.tup_outside_rows.proofs.memory.Memory.put_at.Goals as goal

pub put-requires : goal.put-requires
put-requires c =
    let site = c.args.self.now.site in
    place_from_tree (tree_in site) (tree_in site) c.args.path.now site.is_tree (λ q s. s) (ap is_some (sym c.file.ensures ∙ ap option_copied c.in-Some.is))
