use Rattle.std.proofs.Common.{◌≡◌, ℕ, List, ◌++◌, ap, sym, ◌∙◌}
use Rattle.std.proofs.lemmas.Slice.Eq.{bytes_eq-Decides}
use Rattle.std.proofs.lemmas.Bool.{not-false}
use Rattle.std.specs.Int.{w64, to_be_bytes}
use Rattle.tup_fs.specs.NoteFile.{mark}
use Rattle.tup_fs.proofs.NoteBytes.{parts}
use Rattle.tup_fs.proofs.note_file.behind_head.Goals as goal

pub returns : goal.returns
returns c =
    let now = c.args.now.now in
    let boot = c.in_ok-boot.boot.now in
    let device = to_be_bytes w64 c.in_ok-device.device in
    let began = to_be_bytes w64 c.in_ok-began.began in
    let rest = c.in_ok-began.rest.now in
    let marked : c.in_ok-mark.mark.now ≡ mark = (bytes_eq-Decides c.in_ok-mark.mark.now mark).0 (not-false _ (sym c.ne.ensures ∙ c.if-ne.false)) in
    let booted : boot ≡ now.boot = (bytes_eq-Decides boot now.boot).0 (not-false _ (sym c.ne-else-ne.ensures ∙ c.if-ne-2.false)) in
    parts c.args.bytes.now c.in_ok-mark.mark.now boot device began c.in_ok-mark.rest.now c.in_ok-boot.rest.now c.in_ok-device.rest.now rest c.in_ok-mark.ensures c.in_ok-boot.ensures c.in_ok-device.ensures c.in_ok-began.ensures
    ∙ ap (λ (t : List ℕ). (t ++ (boot ++ (device ++ began))) ++ rest) marked
    ∙ ap (λ (t : List ℕ). (mark ++ (t ++ (device ++ began))) ++ rest) booted
    ∙ ap (λ (n : ℕ). (mark ++ (now.boot ++ (to_be_bytes w64 n ++ began))) ++ rest) c.if-device-now.false
