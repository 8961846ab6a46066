use Rattle.std.proofs.Common.{◌≡◌, ◌++◌}
use Rattle.std.proofs.Math.Utf8.{encode}
use Rattle.std.proofs.lemmas.Str.{chars_past_char}
use Rattle.tup_glob.proofs.chars.first_char.Goals as goal

pub returns : goal.returns
returns c =
    let cut : c.args.text.now ≡ encode c.in_ok-first.first ++ c.as_str.result.now = cc c.in_ok-first.ensures.steps.0 in
    chars_past_char c.args.text.now c.as_str.result.now c.in_ok-first.first c.utf8.text cut
