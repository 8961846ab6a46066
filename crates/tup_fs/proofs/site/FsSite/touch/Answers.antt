use Rattle.std.proofs.Common.{OnOk, string_bytes, subst}
use Rattle.tup_disk.specs.Marked.{AllMarked, places_above}
use Rattle.tup_fs.proofs.Telling.{done_as_told}
use Rattle.tup_fs.proofs.site.FsSite.touch.Goals as goal

pub returns-clause-touched : goal.returns-clause-touched
returns-clause-touched g c =
    done_as_told (AllMarked c.add-done.new.self.places (places_above (string_bytes c.args.self.now.disk.root) c.args.path.now)) c.add-done.result c.told.result c.told.ensures.value
    (subst (λ d. OnOk c.add-done.result (AllMarked c.add-done.new.self.places (places_above (string_bytes d.root) c.args.path.now))) c.begin.ensures.disk c.add-done.ensures.touched)
