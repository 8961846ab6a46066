use Rattle.std.proofs.Common.{subst}
use Rattle.std.specs.Prelude.{◌↔◌, Contains, IfOk}
use Rattle.tup_path.specs.Name.{Names}
use Rattle.tup_readers.specs.Index.{HasQuestioned}
use Rattle.tup_stored_graph.specs.Held.{Held}
use Rattle.tup_stored_graph.proofs.graph.Graph.asked_by.Goals as goal

pub returns-clause-folders : goal.returns-clause-folders
returns-clause-folders c =
    subst (λ (held : Held). IfOk c.asked_by.result (λ dirs. (dir : Names) → Contains dirs.items dir ↔ HasQuestioned held.nodes dir c.args.question.now)) c.self.view_is c.asked_by.ensures.folders
