use Rattle.std.proofs.Common.{◌≡◌, string_bytes, rules}
use Rattle.std.proofs.lemmas.Str.{IsUtf8-string_bytes}
use Rattle.tup_path.proofs.text.Text.from_string.Goals as goal

pub of_vec-requires : goal.of_vec-requires
of_vec-requires c =
    let same : c.into_bytes.result.items ≡ string_bytes c.args.text = search rules in
    rw same (IsUtf8-string_bytes c.args.text)
