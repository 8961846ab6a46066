use Rattle.std.proofs.Common.{◌≡◌, List, ◌∷◌, [], ◌∙◌, ℕ, map, sym, subst}
use Rattle.std.specs.FinMap as finite
use Rattle.std.specs.Map.Iter.{deref_pair}
use Rattle.std.proofs.lemmas.List.{map-append}
use Rattle.std.proofs.lemmas.Map.Iter.{iter_end}
use Rattle.tup_record.specs.declared.run.RunRecord.{RunRecord}
use Rattle.tup_graph.specs.Graph.{GraphState}
use Rattle.tup_readers.specs.Changes.{Adds}
use Rattle.tup_readers.specs.Suspects.{HasOthersOf, IsAmong, TellsOther}
use Rattle.tup_readers.proofs.Suspecting.{all_looked, entry_looked, none_looked}
use Rattle.tup_readers.proofs.suspects.Suspects.of_nodes.Goals as goal

pub loop-number-init : goal.loop-number-init
loop-number-init c = none_looked c.args.nodes.now.seen c.new-suspects.result.numbers

pub loop-number-preserved : goal.loop-number-preserved
loop-number-preserved c =
    subst (λ (l : List (ℕ × RunRecord)). HasOthersOf c.args.nodes.now.seen l c.look.new.self.numbers) (sym (map-append deref_pair c.loop-number.yielded ((c.in-Some.number, c.in-Some.run') ∷ [])))
    (entry_looked c.args.nodes.now.seen (map deref_pair c.loop-number.yielded) c.in-Some.number.now c.in-Some.run'.now c.loop-number.suspects.numbers c.look.new.self.numbers c.loop-number.invariant
    (subst (λ (g : GraphState). Adds (λ n. (n ≡ c.in-Some.number.now) × TellsOther g.seen c.in-Some.run'.now) (IsAmong c.loop-number.suspects.numbers) (IsAmong c.look.new.self.numbers)) c.in_ok-files.ensures c.in_ok-look.ensures))

pub returns : goal.returns
returns c =
    let all = iter_end deref_pair (finite.entries c.args.nodes.now.runs) c.loop-number.yielded c.into_iter-number-iterator.result c.loop-number.number-iterator c.next.new.self c.next.result
    (c.into_iter-number-iterator.ensures.into_iter_gives ∙ c.runs-number-items.ensures) c.loop-number.yielded_by c.in-None.is c.next.ensures.steps in
    all_looked c.args.nodes.now.seen c.args.nodes.now.runs (map deref_pair c.loop-number.yielded) c.loop-number.suspects.numbers all.0 c.loop-number.invariant
