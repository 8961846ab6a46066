use Rattle.std.proofs.Common.{◌∷◌, [], ◌++◌, ℕ, List, Option, take, sym, ap, ◌∙◌, subst}
use Rattle.std.proofs.lemmas.List.{take_more}
use Rattle.tup_stamp.specs.declared.Stamp.{Stamp}
use Rattle.tup_runner.specs.declared.step.Answer.{Answer}
use Rattle.tup_board.specs.Calls.{AreStamped}
use Rattle.tup_board_rows.proofs.Told.{stamped_push}
use Rattle.tup_board_rows.proofs.seat.stamped.Goals as goal

pub loop-text-preserved : goal.loop-text-preserved
loop-text-preserved c =
    let given = c.loop-text-item.result in
    let front = take c.loop-text.text-index c.args.asks.now in
    subst (λ (asks : List (List ℕ × Answer)). AreStamped c.push.new.self asks)
    (sym (take_more c.args.asks.now c.loop-text.text-index given c.loop-text-test.true ∙ ap (λ (one : List ℕ × Answer). front ++ one ∷ []) (sym c.loop-text-item.is)))
    (subst (λ (stamps : List (List ℕ × Option Stamp)). AreStamped stamps (front ++ given ∷ [])) (sym c.in_ok-push.ensures.ok)
    (stamped_push c.loop-text.stamped front (c.in_ok-clone.field-0, c.stamp_in.result) given c.loop-text.invariant c.in_ok-clone.ensures.cases c.stamp_in.ensures))
