use Rattle.std.proofs.Common.{◌≡◌, not, ◌&&◌, ap, ◌∙◌, rules}
use Rattle.std.proofs.lemmas.Iterator.{YieldsList-from_slice}
use Rattle.std.proofs.lemmas.Iterator.Search.{all_from_yields_List}
use Rattle.std.specs.List.{list_all}
use borrow.Author.Tests.{tests}
use Rattle.tup_vars.specs.Name.{is_name_byte}
use Rattle.tup_vars.proofs.name.is_name.Goals as goal

pub returns-then-not-is_empty : goal.returns-then-not-is_empty
returns-then-not-is_empty c =
    let name = c.args.name.now in
    let all : c.all.result ≡ list_all is_name_byte name = all_from_yields_List is_name_byte _ _ c.all.result c.all.ensures.ran (YieldsList-from_slice name cc) (λ x b q k. search (rules, tests)) in
    all ∙ ap (λ b. not b && list_all is_name_byte name) c.if-not-is_empty.ensures
