use Rattle.std.proofs.Common.{◌≡◌, Some, None, sym, ◌∙◌}
use Rattle.tup_rule_line.specs.Folder.{file_in}
use Rattle.tup_query.proofs.Went.{went_gives, went_along}
use Rattle.tup_tupfile.proofs.Files.{held-some, held-none}
use Rattle.tup_tupfile.proofs.file.held_in.Goals as goal

pub returns-in-Some : goal.returns-in-Some
returns-in-Some g c =
    let a = c.args in
    let is : file_in a.dir.now a.name.now ≡ Some c.in-Some.path = sym c.in_ok-path.ensures ∙ c.in-Some.is in
    went_along _ _ (held-some a.dir.now a.name.now c.in-Some.path is) c.held_at.ensures

pub returns-in-None : goal.returns-in-None
returns-in-None g c =
    let a = c.args in
    let is : file_in a.dir.now a.name.now ≡ None = sym c.in_ok-path.ensures ∙ c.in-None.is in
    went_along _ _ (held-none a.dir.now a.name.now is) (went_gives _ _ _ c.requires)
