use Rattle.std.proofs.Common.{◌++◌, ap, ◌∙◌}
use Rattle.std.specs.Int.{w64, to_be_bytes}
use Rattle.tup_fs.specs.NoteFile.{mark}
use Rattle.tup_fs.proofs.NoteBytes.{whole}
use Rattle.tup_fs.proofs.note_file.begin.Goals as goal

pub returns : goal.returns
returns c =
    let boot = c.args.head.now.boot in
    let device = c.to_be_bytes.result in
    let began = c.to_be_bytes-2.result in
    whole c.new-bytes.result.items c.extend_from_slice.new.self.items c.extend_from_slice-2.new.self.items c.extend_from_slice-3.new.self.items c.extend_from_slice-4.new.self.items mark boot device began c.new-bytes.ensures.items c.in_ok-extend_from_slice.ensures.items c.in_ok-extend_from_slice-2.ensures.items c.in_ok-extend_from_slice-3.ensures.items c.in_ok-extend_from_slice-4.ensures.items
    ∙ ap (λ d. mark ++ (boot ++ (d ++ began))) c.to_be_bytes.ensures
    ∙ ap (λ b. mark ++ (boot ++ (to_be_bytes w64 c.args.head.now.device ++ b))) c.to_be_bytes-2.ensures
