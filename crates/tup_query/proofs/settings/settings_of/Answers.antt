use Rattle.std.proofs.Common.{◌+◌, ◌∷◌, ◌++◌, [], drop, arith}
use Rattle.std.proofs.lemmas.Result.{err_from_is_err_and}
use Rattle.tup_query.specs.Ask.{settings_of}
use Rattle.tup_query.proofs.Went.{went_then, went_err, went_gives, went_memory, went_along}
use Rattle.tup_query.proofs.Steps.{settings_more, settings_end}
use Rattle.tup_query.proofs.settings.settings_of.Goals as goal

pub returns-in_err-value : goal.returns-in_err-value
returns-in_err-value g c =
    let l = c.loop-name in
    let name = c.name-item.result in
    let p = err_from_is_err_and c.from_residual.result c.from_residual.ensures.1 in
    rw (p.1, p.2)
    (l.invariant.so_far _ _
    (went_along _ _ (settings_more l.values c.args.names.now l.name-index name (omega arith) c.name-item.is)
    (went_err (λ value. settings_of (l.values ++ (name, value) ∷ []) (drop (l.name-index + 1) c.args.names.now)) c.in_err-value.ensures)))

pub returns-in_err-clone : goal.returns-in_err-clone
returns-in_err-clone g c =
    let p = err_from_is_err_and c.from_residual-in_err-clone.result c.from_residual-in_err-clone.ensures.1 in
    rw (p.1, p.2) (c.loop-name.invariant.so_far _ _ (went_memory _ c.in_ok-value.ensures))

pub returns-in_err-push : goal.returns-in_err-push
returns-in_err-push g c =
    let p = err_from_is_err_and c.from_residual-in_err-push.result c.from_residual-in_err-push.ensures.1 in
    rw (p.1, p.2) (c.loop-name.invariant.so_far _ _ (went_memory _ c.in_ok-value.ensures))

pub loop-name-preserved : goal.loop-name-preserved
loop-name-preserved g c =
    let l = c.loop-name in
    let name = c.name-item.result in
    record {
      on = c.in_ok-value.ensures.stopped;
      so_far = λ after end went. l.invariant.so_far after end
          (went_along _ _ (settings_more l.values c.args.names.now l.name-index name (omega arith) c.name-item.is)
          (went_then (λ value. settings_of (l.values ++ (name, value) ∷ []) (drop (l.name-index + 1) c.args.names.now)) c.in_ok-value.ensures
          (rw (c.in_ok-push.ensures.ok, c.in_ok-clone.ensures.cases) at went)));
    }

pub returns : goal.returns
returns g c =
    let l = c.loop-name in
    l.invariant.so_far _ _ (went_along _ _ (settings_end l.values c.args.names.now l.name-index (omega arith)) (went_gives _ _ _ l.invariant.on))
