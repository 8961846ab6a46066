use Rattle.std.proofs.Common.{◌+◌, ◌∷◌, ◌++◌, [], drop, arith}
use Rattle.std.proofs.lemmas.Result.{err_from_is_err_and}
use Rattle.tup_rule_line.specs.Output.{from_outputs}
use Rattle.tup_query.proofs.Went.{went_then, went_err, went_gives, went_memory, went_along}
use Rattle.tup_rule_line.proofs.Outputs.{outputs_more, outputs_end}
use Rattle.tup_rule_line.proofs.output.from_outputs.Goals as goal

pub returns-in_err-path : goal.returns-in_err-path
returns-in_err-path g c =
    let l = c.loop-word in
    let word = c.word-item.result in
    let a = c.args in
    let p = err_from_is_err_and c.from_residual.result c.from_residual.ensures.1 in
    rw (p.1, p.2)
    (l.invariant.so_far _ _
    (went_along _ _ (outputs_more a.at.now a.parts.now a.drafts.now l.outputs a.words.now l.word-index word (omega arith) c.word-item.is)
    (went_err (λ path. from_outputs a.at.now a.parts.now a.drafts.now (l.outputs ++ path ∷ []) (drop (l.word-index + 1) a.words.now)) c.in_err-path.ensures)))

pub returns-in_err-outputs : goal.returns-in_err-outputs
returns-in_err-outputs g c =
    let p = err_from_is_err_and c.from_residual-in_err-outputs.result c.from_residual-in_err-outputs.ensures.1 in
    rw (p.1, p.2) (c.loop-word.invariant.so_far _ _ (went_memory _ c.in_ok-path.ensures))

pub loop-word-preserved : goal.loop-word-preserved
loop-word-preserved g c =
    let l = c.loop-word in
    let word = c.word-item.result in
    let a = c.args in
    let done = c.in_ok-path.ensures in
    record {
      on = done.stopped;
      so_far = λ after end went. l.invariant.so_far after end
          (went_along _ _ (outputs_more a.at.now a.parts.now a.drafts.now l.outputs a.words.now l.word-index word (omega arith) c.word-item.is)
          (went_then (λ path. from_outputs a.at.now a.parts.now a.drafts.now (l.outputs ++ path ∷ []) (drop (l.word-index + 1) a.words.now)) done
          (rw c.in_ok-outputs.ensures at went)));
    }

pub returns : goal.returns
returns g c =
    let l = c.loop-word in
    let a = c.args in
    l.invariant.so_far _ _ (went_along _ _ (outputs_end a.at.now a.parts.now a.drafts.now l.outputs a.words.now l.word-index (omega arith)) (went_gives _ _ _ l.invariant.on))
