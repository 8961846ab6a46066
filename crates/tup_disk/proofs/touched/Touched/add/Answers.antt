use Rattle.std.proofs.Common.{◌-◌, length, take, map, string_bytes, ap, ◌∙◌}
use Rattle.tup_disk.specs.Place.{places_to}
use Rattle.tup_disk.proofs.Marked.{all_marked}
use Rattle.tup_disk.proofs.touched.Touched.add.Goals as goal

pub returns-clause-touched : goal.returns-clause-touched
returns-clause-touched g c =
    let root = string_bytes c.args.disk.now.root in
    let path = c.args.path.now in
    all_marked c.mark_all.new.marked c.mark.new.marked root (string_bytes c.in_ok-top.top) (places_to root (take (length path - 1) path)) (map string_bytes c.as_slice.result.now) c.mark.result
    (c.in_ok-top.ensures.ok ∙ c.root.ensures) (ap (map string_bytes) c.as_slice.ensures.value ∙ c.in_ok-folders.ensures)
    c.in_ok-mark_all.ensures.marked c.mark.ensures.keeps c.mark.ensures.marked
