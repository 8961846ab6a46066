use Rattle.std.proofs.Common.{◌≡◌, true, false}
use Rattle.tup_rule_line.specs.Folder.{is_group}
use Rattle.tup_rule_line.specs.Input.{from_group}
use Rattle.tup_query.proofs.Went.{went_along, went_given}
use Rattle.tup_rule_line.proofs.Inputs.{other-group, other-files}
use Rattle.tup_rule_line.proofs.input.from_other.Goals as goal

pub returns-then-is_group : goal.returns-then-is_group
returns-then-is_group g c =
    let a = c.args in
    let is : is_group a.word.now ≡ true = cc in
    went_along _ _ (other-group a.at.now a.drafts.now a.word.now is)
    (went_given _ _ (from_group a.at.now a.word.now) c.from_group.result c.requires (rw c.as_str-then-is_group.ensures.bytes at c.from_group.ensures))

pub returns : goal.returns
returns g c =
    let a = c.args in
    let is : is_group a.word.now ≡ false = cc in
    went_along _ _ (other-files a.at.now a.drafts.now a.word.now is) c.from_files.ensures
