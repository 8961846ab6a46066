use Rattle.std.proofs.Common.{◌≡◌, ◌∷◌, [], ℕ, List, take, sym, subst}
use Rattle.std.proofs.lemmas.List.{take_all}
use Rattle.tup_record.specs.declared.run.RunRecord.{RunRecord}
use Rattle.tup_closure.proofs.Asked.{taken}
use Rattle.tup_rule_diff.specs.Edits.{HadNumber, PutsNews, run_so}
use Rattle.tup_rule_diff.proofs.NewPuts.{none_put, puts_on}
use Rattle.tup_rule_diff.proofs.putting.push_new_runs.Goals as goal

pub loop-number-init : goal.loop-number-init
loop-number-init c = none_put (HadNumber c.args.befores.now) run_so c.args.edits.now

pub loop-number-preserved : goal.loop-number-preserved
loop-number-preserved c =
    let one = c.loop-number-item.result in
    let runs = c.args.runs.now in
    let i = c.loop-number.number-index in
    subst (λ (l : List (ℕ × RunRecord)). PutsNews (HadNumber c.args.befores.now) run_so l c.args.edits.now c.push_if_moved.new.edits) (sym (taken runs i one one c.loop-number-test.true c.loop-number-item.is))
    (puts_on (HadNumber c.args.befores.now) run_so (take i runs) (one ∷ []) c.args.edits.now c.loop-number.edits c.push_if_moved.new.edits c.loop-number.invariant c.in_ok-push_if_moved.ensures.ok)

pub returns-clause-ok : goal.returns-clause-ok
returns-clause-ok c =
    subst (λ (l : List (ℕ × RunRecord)). PutsNews (HadNumber c.args.befores.now) run_so l c.args.edits.now c.loop-number.edits) (take_all c.loop-number.number-index c.args.runs.now c.loop-number-test.false) c.loop-number.invariant
