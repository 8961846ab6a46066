use Rattle.std.proofs.Common.{List, Option, length, refl, sym, ap, ◌∙◌, arith}
use Rattle.std.proofs.lemmas.Bool.{true≢false}
use Rattle.tup_access.specs.declared.verdict.Verdict.{Verdict}
use Rattle.tup_core.specs.Machine.{entry}
use Rattle.tup_core.proofs.ReadingLaws.{all_none, none_more, none_bad, entry_read, none_is, bad_there}
use Rattle.tup_core.proofs.machine.Core.has_bad.Goals as goal

pub returns-then-is_some : goal.returns-then-is_some
returns-then-is_some c = (
  λ e. bad_there c.args.self.now.bad.items c.loop-verdict.verdict-index c.verdict-item.result (ap (λ (l : List (Option Verdict)). entry l c.loop-verdict.verdict-index) (sym c.deref-verdict-items.ensures.value) ∙ entry_read c.deref-verdict-items.result.now c.loop-verdict.verdict-index c.verdict-item.result c.loop-verdict-test.true c.verdict-item.is) (sym c.is_some.ensures ∙ c.if-is_some.true),
  λ bad. refl,
)

pub loop-verdict-preserved : goal.loop-verdict-preserved
loop-verdict-preserved c = none_more c.args.self.now.bad.items c.loop-verdict.verdict-index c.loop-verdict.invariant
    ((ap (λ (l : List (Option Verdict)). entry l c.loop-verdict.verdict-index) (sym c.deref-verdict-items.ensures.value) ∙ entry_read c.deref-verdict-items.result.now c.loop-verdict.verdict-index c.verdict-item.result c.loop-verdict-test.true c.verdict-item.is) ∙ none_is c.verdict-item.result (sym c.is_some.ensures ∙ c.if-is_some.false))

pub returns : goal.returns
returns c = (
  λ e. absurd (true≢false (sym e)),
  λ bad. absurd (none_bad c.args.self.now.bad.items (all_none c.args.self.now.bad.items c.loop-verdict.verdict-index (let long = ap length c.deref-verdict-items.ensures.value in omega (arith, long, c.loop-verdict-test.false)) c.loop-verdict.invariant) bad),
)
