use Rattle.std.proofs.Common.{◌∙◌, List, sym, subst}
use Rattle.std.proofs.lemmas.Bool.{true≢false}
use Rattle.std.proofs.lemmas.Result.{on_ok_weaker}
use Rattle.std.specs.Prelude.{Contains}
use Rattle.tup_path.specs.Name.{Names}
use Rattle.tup_path.specs.Order.{by_names}
use Rattle.tup_closure.specs.Grows.{Grows}
use Rattle.tup_closure.proofs.Growing.{grows_as, grows_nothing}
use Rattle.tup_scan_diff.specs.Sets.{Has}
use Rattle.tup_rule_diff.proofs.asked.add_if_new.Goals as goal

pub returns-then-is_new-clause-added : goal.returns-then-is_new-clause-added
returns-then-is_new-clause-added c =
    let new = sym c.is_new.ensures ∙ c.if-is_new.true in
    on_ok_weaker c.add_outputs.result
    (λ grows. grows_as (λ path h. (new, h)) (λ path h. h.1) (subst (λ (paths : List Names). Grows (Contains paths) (Has by_names c.args.outputs.now) (Has by_names c.add_outputs.new.outputs)) c.as_slice.ensures grows))
    c.add_outputs.ensures.added

pub returns-clause-added : goal.returns-clause-added
returns-clause-added c = grows_nothing (λ path h. true≢false (sym h.0 ∙ sym c.is_new.ensures ∙ c.if-is_new.false))
