use Rattle.std.proofs.Common.{◌↔◌, subst}
use Rattle.std.specs.Prelude.{Contains}
use Rattle.tup_graph.specs.Graph.{GraphState}
use Rattle.tup_readers.specs.Index.{HasQuestioned}
use Rattle.tup_readers.proofs.indexed.Indexed.asked_by.Goals as goal

pub returns-clause-folders : goal.returns-clause-folders
returns-clause-folders c = λ dir.
    subst (λ (g : GraphState). Contains c.in_ok-find_askers.field-0.items dir ↔ HasQuestioned g dir c.args.question.now) c.self.view_is (c.in_ok-find_askers.ensures.folders dir)
