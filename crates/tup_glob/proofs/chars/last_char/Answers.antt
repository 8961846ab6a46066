use Rattle.std.proofs.Common.{◌≡◌, ◌++◌, length}
use Rattle.std.proofs.Math.Utf8.{encode}
use Rattle.tup_glob.proofs.Texts.{chars_of_none, chars_to_char}
use Rattle.tup_glob.proofs.chars.last_char.Goals as goal

pub returns-in_err-last : goal.returns-in_err-last
returns-in_err-last c =
    let none : length c.args.text.now ≡ 0 = cc c.in_err-last.ensures.steps.0 in
    rw c.from_residual.ensures (chars_of_none c.args.text.now none)

pub returns : goal.returns
returns c =
    let cut : c.args.text.now ≡ c.as_str.result.now ++ encode c.in_ok-last.last = cc c.in_ok-last.ensures.steps in
    chars_to_char c.args.text.now c.as_str.result.now c.in_ok-last.last c.utf8.text c.as_str.utf8 cut
