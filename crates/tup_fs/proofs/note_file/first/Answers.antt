use Rattle.std.proofs.Common.{ℕ, ◌++◌, ap, sym, ◌∙◌}
use Rattle.std.specs.Int.{w16, to_be_bytes}
use Rattle.tup_fs.specs.NoteFile.{stat_bytes}
use Rattle.tup_fs.proofs.NoteBytes.{parts}
use Rattle.tup_fs.proofs.note_file.first.Goals as goal

pub returns : goal.returns
returns c =
    let place = c.in_ok-place.place.now in
    let stat = c.in_ok-stat.stat in
    let stamp = c.in_ok-stamp.stamp.now in
    parts c.args.bytes.now (to_be_bytes w16 c.in_ok-count.count) place (stat_bytes stat) stamp c.in_ok-count.rest.now c.in_ok-place.rest.now c.in_ok-stat.rest.now c.in_ok-stamp.rest.now c.in_ok-count.ensures c.in_ok-place.ensures.0 c.in_ok-stat.ensures c.in_ok-stamp.ensures
    ∙ ap (λ (n : ℕ). (to_be_bytes w16 n ++ (place ++ (stat_bytes stat ++ stamp))) ++ c.in_ok-stamp.rest.now) (sym c.in_ok-place.ensures.1)
