use Rattle.std.proofs.Common.{◌||◌, sym, ap, ◌∙◌, arith}
use Rattle.tup_rule.specs.Rule.{among}
use Rattle.tup_rule_line.specs.Below.{is_below}
use Rattle.tup_rule_line.proofs.Below.{above_is, nothing_below, there_already, added_behind}
use Rattle.tup_rule_line.proofs.Ways.{its_folder, its_top}
use Rattle.tup_rule_line.proofs.path_set.+add_folders.Goals as goal

pub returns-in_default : goal.returns-in_default
returns-in_default t c =
    let keys = c.args.folders.now.keys in
    let top = its_top c.args.path.now (sym c.in_default.is ∙ c.in_ok-folder.ensures) in
    λ dir. sym (ap (λ p. is_below dir p || among dir keys) top ∙ ap (λ b. b || among dir keys) (nothing_below dir))

pub returns-then-contains : goal.returns-then-contains
returns-then-contains t c =
    let keys = c.args.folders.now.keys in
    let folder = c.in-Some.folder in
    let its = its_folder c.args.path.now folder (sym c.in-Some.is ∙ c.in_ok-folder.ensures) in
    let named = above_is c.args.path.now folder its.0 in
    λ dir. there_already keys folder named.0 c.requires (sym c.contains.ensures ∙ c.if-contains.true) dir ∙ ap (λ p. is_below dir p || among dir keys) (sym named.1)

pub add_folders-requires : goal.add_folders-requires
add_folders-requires t c =
    let its = its_folder c.args.path.now c.in-Some.folder (sym c.in-Some.is ∙ c.in_ok-folder.ensures) in
    (omega (arith, its.1), c.requires)

pub returns : goal.returns
returns t c =
    let keys = c.args.folders.now.keys in
    let mid = c.add_folders.new.folders.keys in
    let folder = c.in-Some.folder in
    let its = its_folder c.args.path.now folder (sym c.in-Some.is ∙ c.in_ok-folder.ensures) in
    let named = above_is c.args.path.now folder its.0 in
    λ dir. ap (among dir) c.in_ok-insert.ensures.keys ∙ added_behind keys mid folder named.0 c.in_ok-add_folders.ensures dir ∙ ap (λ p. is_below dir p || among dir keys) (sym named.1)
