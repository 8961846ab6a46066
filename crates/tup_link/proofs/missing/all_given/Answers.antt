use Rattle.std.proofs.Common.{◌≡◌, Err, ap, ◌∙◌, arith}
use Rattle.tup_link.specs.Groups.{listed}
use Rattle.tup_link.proofs.Finding.{taken_told, taken_past}
use Rattle.tup_link.proofs.missing.all_given.Goals as goal

pub returns-in_err-each_given : goal.returns-in_err-each_given
returns-in_err-each_given c =
    let is : c.from_residual.result ≡ Err c.in_err-each_given.field-0.0 = grind arith in
    rw is (taken_told (listed c.args.groups.now) c.args.all.now c.loop-one.one-index c.one-item.result _ _ _ c.loop-one-test.true c.one-item.is c.loop-one.invariant (c.as_slice.ensures ∙ ap (λ d. d.groups) c.draft.ensures)
    c.in_err-each_given.ensures)

pub loop-one-preserved : goal.loop-one-preserved
loop-one-preserved c =
    taken_past (listed c.args.groups.now) c.args.all.now c.loop-one.one-index c.one-item.result _ _ c.loop-one-test.true c.one-item.is c.loop-one.invariant (c.as_slice.ensures ∙ ap (λ d. d.groups) c.draft.ensures)
    c.in_ok-each_given.ensures
