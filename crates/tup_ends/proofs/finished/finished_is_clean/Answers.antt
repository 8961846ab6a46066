use Rattle.tup_ends.proofs.Completed.{finished}
use Rattle.tup_ends.proofs.finished.finished_is_clean.Goals as goal

pub returns : goal.returns
returns c = λ next known h tree kept none seen made created read come apart knows. finished next known h tree kept none seen made apart knows created read come
