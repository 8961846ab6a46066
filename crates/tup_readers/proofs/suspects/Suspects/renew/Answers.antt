use Rattle.std.proofs.Common.{◌≡◌, subst}
use Rattle.std.specs.Prelude.{OnOk}
use Rattle.std.proofs.lemmas.Result.{on_ok_weaker}
use Rattle.tup_graph.specs.Graph.{GraphState}
use Rattle.tup_readers.specs.Changes.{Adds}
use Rattle.tup_readers.specs.Suspects.{IsAmong, TellsOther}
use Rattle.tup_readers.proofs.Suspecting.{run_put}
use Rattle.tup_readers.proofs.suspects.Suspects.renew.Goals as goal

pub returns : goal.returns
returns c =
    on_ok_weaker c.look.result
    (run_put c.args.nodes.now.seen c.args.nodes.now.runs c.args.number c.acquit.new.self.numbers c.look.new.self.numbers c.args.run.now c.acquit.ensures)
    (subst (λ (g : GraphState). OnOk c.look.result (Adds (λ n. (n ≡ c.args.number) × TellsOther g.seen c.args.run.now) (IsAmong c.acquit.new.self.numbers) (IsAmong c.look.new.self.numbers))) c.unlisted-files.ensures c.look.ensures)
