use Rattle.std.proofs.Common.{OnOk, string_bytes, subst}
use Rattle.tup_disk.specs.Marked.{AllMarked, places_above}
use Rattle.tup_fs.proofs.Telling.{done_as_told}
use Rattle.tup_fs.proofs.site.FsSite.touch_file.Goals as goal

pub returns-clause-touched : goal.returns-clause-touched
returns-clause-touched g c =
    done_as_told (AllMarked c.add_file-done.new.self.places (places_above (string_bytes c.args.self.now.disk.root) c.args.path.now)) c.add_file-done.result c.told.result c.told.ensures.value
    (subst (λ d. OnOk c.add_file-done.result (AllMarked c.add_file-done.new.self.places (places_above (string_bytes d.root) c.args.path.now))) c.begin.ensures.disk c.add_file-done.ensures.touched)
