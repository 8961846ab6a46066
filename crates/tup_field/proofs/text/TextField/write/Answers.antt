use Rattle.std.proofs.Common.{◌≡◌, ◌++◌, length, rules}
use Rattle.tup_field.proofs.Texts.{text_written}
use Rattle.tup_field.proofs.text.TextField.write.Goals as goal

pub returns : goal.returns
returns c =
    let count : c.in-Ok.length ≡ length c.args.self.now = search rules in
    let text : c.extend_from_slice.new.self ≡ c.write.new.bytes ++ c.args.self.now = search rules in
    text_written c.args.self.now c.args.bytes.now c.write.new.bytes c.extend_from_slice.new.self c.in-Ok.length c.as_bytes-text.ensures.utf8 count c.in_ok-write.ensures.0 c.in_ok-write.ensures.1 text
