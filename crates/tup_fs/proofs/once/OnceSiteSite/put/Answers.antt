use Rattle.std.proofs.Common.{OnOk, string_bytes, subst, ◌∙◌}
use Rattle.tup_disk.specs.Marked.{AllMarked, places_above}
use Rattle.tup_fs.proofs.once.OnceSiteSite.put.Goals as goal

pub returns-clause-touched : goal.returns-clause-touched
returns-clause-touched g c =
    subst (λ d. OnOk c.put.result (AllMarked c.put.new.self.touched.places (places_above (string_bytes d.root) c.args.path.now))) (c.note.ensures.disk ∙ c.begin.ensures.disk) c.put.ensures.touched
