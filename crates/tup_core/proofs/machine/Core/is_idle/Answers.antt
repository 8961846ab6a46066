use Rattle.std.proofs.Common.{List, Option, length, refl, sym, ap, ◌∙◌, arith}
use Rattle.std.proofs.lemmas.Bool.{true≢false}
use Rattle.tup_core.specs.declared.running.Running.{Running}
use Rattle.tup_core.specs.Machine.{entry}
use Rattle.tup_core.proofs.ReadingLaws.{all_none, none_more, entry_read, none_is, some_there}
use Rattle.tup_core.proofs.machine.Core.is_idle.Goals as goal

pub returns-then-is_some : goal.returns-then-is_some
returns-then-is_some c = (
  λ e. absurd (true≢false (sym e)),
  λ none. absurd (some_there c.args.self.now.seats.items c.loop-seat.seat-index c.seat-item.result (ap (λ (l : List (Option Running)). entry l c.loop-seat.seat-index) (sym c.deref-seat-items.ensures.value) ∙ entry_read c.deref-seat-items.result.now c.loop-seat.seat-index c.seat-item.result c.loop-seat-test.true c.seat-item.is) (sym c.is_some.ensures ∙ c.if-is_some.true) none),
)

pub loop-seat-preserved : goal.loop-seat-preserved
loop-seat-preserved c = none_more c.args.self.now.seats.items c.loop-seat.seat-index c.loop-seat.invariant
    ((ap (λ (l : List (Option Running)). entry l c.loop-seat.seat-index) (sym c.deref-seat-items.ensures.value) ∙ entry_read c.deref-seat-items.result.now c.loop-seat.seat-index c.seat-item.result c.loop-seat-test.true c.seat-item.is) ∙ none_is c.seat-item.result (sym c.is_some.ensures ∙ c.if-is_some.false))

pub returns : goal.returns
returns c = (λ e. all_none c.args.self.now.seats.items c.loop-seat.seat-index (let long = ap length c.deref-seat-items.ensures.value in omega (arith, long, c.loop-seat-test.false)) c.loop-seat.invariant, λ none. refl)
