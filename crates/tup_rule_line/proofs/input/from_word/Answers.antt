use Rattle.std.proofs.Common.{◌≡◌, Some, None, option_map, ap, sym, ◌∙◌}
use Rattle.tup_rule_line.specs.Folder.{bin_name}
use Rattle.tup_rule_line.specs.Input.{from_bin}
use Rattle.tup_query.proofs.Went.{went_along, went_given}
use Rattle.tup_rule_line.proofs.Inputs.{word-bin, word-other}
use Rattle.tup_rule_line.proofs.input.from_word.Goals as goal

pub returns-in-Some : goal.returns-in-Some
returns-in-Some g c =
    let a = c.args in
    let name : bin_name a.word.now ≡ Some c.in-Some.name.now =
    sym (ap bin_name c.as_str.ensures.bytes) ∙ sym c.bin_name.ensures ∙ ap (option_map (λ name. name.now)) c.in-Some.is in
    went_along _ _ (word-bin a.at.now a.state.now a.word.now c.in-Some.name.now name)
    (went_given _ _ (from_bin a.at.now a.state.now.bins c.in-Some.name.now) c.from_bin.result c.requires c.from_bin.ensures)

pub returns-in-None : goal.returns-in-None
returns-in-None g c =
    let a = c.args in
    let none : bin_name a.word.now ≡ None =
    sym (ap bin_name c.as_str.ensures.bytes) ∙ sym c.bin_name.ensures ∙ ap (option_map (λ name. name.now)) c.in-None.is in
    went_along _ _ (word-other a.at.now a.state.now a.word.now none) c.from_other.ensures
