use Rattle.std.proofs.Common.{◌≡◌, List, ℕ, ap, ◌∙◌}
use Rattle.std.specs.Prelude.{if◌then◌else◌}
use Rattle.std.proofs.lemmas.Result.{IfOk-weaker}
use Rattle.tup_clean.specs.Queue.{count_of}
use Rattle.tup_core.specs.Waiting.{flag, AreBehind}
use Rattle.tup_core.proofs.WalkLaws.{walked_behind}
use Rattle.tup_core.proofs.walk.behind.Goals as goal

pub returns-clause-behind : goal.returns-clause-behind
returns-clause-behind c =
    let reached = c.args.reached.now in
    IfOk-weaker c.flagged.result (λ (kept : List ℕ). (at : ℕ) → count_of at kept ≡ (if flag reached at then count_of at c.as_slice-2.result.now else 0)) (AreBehind c.args.readers.now reached c.args.from)
    (λ kept are. walked_behind c.args.readers.now reached c.args.from c.in_ok-found.found kept c.walk.new.seen c.in_ok-found.ensures
    (λ at. are at ∙ ap (λ (l : List ℕ). if flag reached at then count_of at l else 0) c.as_slice-2.ensures)) c.flagged.ensures
