-- Asks with the stamps of their answers, one after another.
use Rattle.std.proofs.Common.{◌≡◌, ◌&&◌, ℕ, List, [], ◌∷◌, ◌++◌, Option, Some, None, nat_eq, refl, sym, ap, ◌∙◌, take}
use Rattle.std.specs.Bool.{Decides}
use Rattle.std.specs.Option.{option_eq}
use Rattle.std.specs.Cmp.Lexicographic.{pointwise, bytes_decides}
use Rattle.std.proofs.lemmas.Bool.Decides.{Decides-and, Decides-like}
use Rattle.tup_stamp.specs.declared.Stamp.{Stamp}
use Rattle.tup_stamp.specs.contracts.StampPartialEq.TheImpl as stamps
use Rattle.tup_runner.specs.Next.{Asks}
use Rattle.tup_runner.specs.declared.step.Answer.{Answer}
use Rattle.tup_given.specs.Replies.{ComesOn, answered}
use Rattle.tup_given.specs.declared.replies.Replies.{Replies}
use Rattle.tup_board.specs.Calls.{AreStamped, IsStampOf}

pub stamped_push : (stamps : List (List ℕ × Option Stamp)) (asks : List (List ℕ × Answer)) (ask : List ℕ × Option Stamp) (given : List ℕ × Answer) → AreStamped stamps asks
    → ask.0 ≡ given.0 → IsStampOf ask.1 given.1 → AreStamped (stamps ++ ask ∷ []) (asks ++ given ∷ [])
stamped_push [] [] ask given all text stamp = (text, stamp, tt)
stamped_push (one ∷ more) (other ∷ others) ask given all text stamp = (all.0, all.1, stamped_push more others ask given all.2 text stamp)
stamped_push [] (other ∷ others) ask given all text stamp = absurd all
stamped_push (one ∷ more) [] ask given all text stamp = absurd all

-- the test of two asks with their stamps says whether they are the same
answer_decides : (one other : Option Stamp) → Decides (option_eq stamps.eq-value.it one other) (one ≡ other)
answer_decides None None = (λ e. refl, λ e. refl)
answer_decides None (Some other) = (λ e. cc, λ e. cc)
answer_decides (Some one) None = (λ e. cc, λ e. cc)
answer_decides (Some one) (Some other) =
    (λ e. λ i. Some (record { 0 = (bytes_decides one.0 other.0).0 e i }), λ e. (bytes_decides one.0 other.0).1 (let h : one.0 ≡ other.0 = cc in h))

pub ask_decides : (one other : List ℕ × Option Stamp) → Decides (pointwise nat_eq one.0 other.0 && option_eq stamps.eq-value.it one.1 other.1) (one ≡ other)
ask_decides one other =
    Decides-like (pointwise nat_eq one.0 other.0 && option_eq stamps.eq-value.it one.1 other.1)
    (λ e. λ i. (e.0 i, e.1 i))
    (λ e. (λ i. (e i).0, λ i. (e i).1))
    (Decides-and _ _ (bytes_decides one.0 other.0) (answer_decides one.1 other.1))

-- a view that has answered nothing came on by all that it has answered then
pub came_all : (first : Replies) (some : Asks) (last : Replies) → first.asked ≡ 0 → ComesOn first some last → some ≡ answered last
came_all first some last none came = sym (came.1 ∙ ap (λ (n : ℕ). take n first.given ++ some) none)
