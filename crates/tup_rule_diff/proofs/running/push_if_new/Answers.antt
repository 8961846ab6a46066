use Rattle.std.proofs.Common.{◌∙◌, List, sym, subst}
use Rattle.std.proofs.lemmas.Bool.{true≢false}
use Rattle.std.proofs.lemmas.Result.{on_ok_weaker}
use Rattle.std.specs.Prelude.{Contains}
use Rattle.tup_path.specs.Name.{Names}
use Rattle.tup_closure.specs.Grows.{Grows}
use Rattle.tup_closure.specs.Readers.{HasAskedOneOf}
use Rattle.tup_closure.proofs.Growing.{grows_as, grows_nothing}
use Rattle.tup_rule_diff.proofs.running.push_if_new.Goals as goal

pub returns-then-is_new-clause-readers : goal.returns-then-is_new-clause-readers
returns-then-is_new-clause-readers c =
    let led = c.args.led.now in
    let new = sym c.is_new.ensures ∙ c.if-is_new.true in
    on_ok_weaker c.push_readers.result
    (λ grows. grows_as (λ n asked. (new, asked)) (λ n reads. reads.1) (subst (λ (paths : List Names). Grows (HasAskedOneOf led paths) (Contains c.args.found.now) (Contains c.push_readers.new.found)) c.as_slice.ensures grows))
    c.push_readers.ensures.readers

pub returns-clause-readers : goal.returns-clause-readers
returns-clause-readers c = grows_nothing (λ n reads. true≢false (sym reads.0 ∙ sym c.is_new.ensures ∙ c.if-is_new.false))
