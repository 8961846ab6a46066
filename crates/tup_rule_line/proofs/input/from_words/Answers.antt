use Rattle.std.proofs.Common.{◌+◌, drop, arith}
use Rattle.std.proofs.lemmas.Result.{err_from_is_err_and}
use Rattle.tup_rule_line.specs.Found.{with_found}
use Rattle.tup_rule_line.specs.Input.{from_words}
use Rattle.tup_query.proofs.Went.{went_then, went_err, went_gives, went_memory, went_along}
use Rattle.tup_rule_line.proofs.Inputs.{inputs_more, inputs_end}
use Rattle.tup_rule_line.proofs.input.from_words.Goals as goal

pub returns-in_err-next : goal.returns-in_err-next
returns-in_err-next g c =
    let l = c.loop-word in
    let word = c.word-item.result in
    let a = c.args in
    let p = err_from_is_err_and c.from_residual.result c.from_residual.ensures.1 in
    rw (p.1, p.2)
    (l.invariant.so_far _ _
    (went_along _ _ (inputs_more a.at.now a.state.now l.found a.words.now l.word-index word (omega arith) c.word-item.is)
    (went_err (λ next. from_words a.at.now a.state.now (with_found l.found next) (drop (l.word-index + 1) a.words.now)) c.in_err-next.ensures)))

pub returns-in_err-found : goal.returns-in_err-found
returns-in_err-found g c =
    let p = err_from_is_err_and c.from_residual-in_err-found.result c.from_residual-in_err-found.ensures.1 in
    rw (p.1, p.2) (c.loop-word.invariant.so_far _ _ (went_memory _ c.in_ok-next.ensures))

pub loop-word-preserved : goal.loop-word-preserved
loop-word-preserved g c =
    let l = c.loop-word in
    let word = c.word-item.result in
    let a = c.args in
    record {
      on = c.in_ok-next.ensures.stopped;
      so_far = λ after end went. l.invariant.so_far after end
          (went_along _ _ (inputs_more a.at.now a.state.now l.found a.words.now l.word-index word (omega arith) c.word-item.is)
          (went_then (λ next. from_words a.at.now a.state.now (with_found l.found next) (drop (l.word-index + 1) a.words.now)) c.in_ok-next.ensures
          (rw c.in_ok-found.ensures at went)));
    }

pub returns : goal.returns
returns g c =
    let l = c.loop-word in
    let a = c.args in
    rw c.into_found.ensures (l.invariant.so_far _ _ (went_along _ _ (inputs_end a.at.now a.state.now l.found a.words.now l.word-index (omega arith)) (went_gives _ _ _ l.invariant.on)))
