use Rattle.std.proofs.Common.{◌≡◌, Bor, Option, Some, None, is_some, refl, sym, ap, ◌∙◌}
use Rattle.std.specs.Option.{option_copied}
use Rattle.tup_site.specs.Memory.{tree_in}
use Rattle.tup_site.proofs.Trees.{place_from_tree}
use Rattle.tup_board_rows.proofs.quiet.Quiet.has_place.Goals as goal

copied : {X : Type 0} (found : Option (Bor X)) → is_some (option_copied found) ≡ is_some found
copied None = refl
copied (Some one) = refl

pub returns-then-is_some-clause-place : goal.returns-then-is_some-clause-place
returns-then-is_some-clause-place c = λ is.
    let site = c.args.self.now.site in
    place_from_tree (tree_in site) (tree_in site) c.args.path.now site.is_tree (λ q here. here)
    (ap is_some (sym c.file.ensures) ∙ copied c.file.result ∙ sym c.if-is_some.ensures)
