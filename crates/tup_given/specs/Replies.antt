-- What a view that answers from a list has answered and refused.
use Rattle.std.specs.Prelude.{◌≡◌, ◌++◌, Option, option_map, take}
use Rattle.tup_runner.specs.Next.{Asks}
use Rattle.tup_runner.specs.Refusal.{Refusal}
use Rattle.tup_runner.specs.declared.fault.ViewFailed.TheVariants.{Denied}
use Rattle.tup_given.specs.declared.replies.Replies.{Replies}

-- the asks that it answered: the first of its list
abbrev pub answered : Replies → Asks
answered replies = take replies.asked replies.given

-- it came on by these asks, over the same list
abbrev pub ComesOn : Replies → Asks → Replies → Type 0
ComesOn first some last = (last.given ≡ first.given) × (answered last ≡ answered first ++ some)

-- what it refused: a text that isn't the next of its list
abbrev pub refusal_of : Replies → Option Refusal
refusal_of replies = option_map {U = Refusal} (λ text. record { text = text; why = Denied }) replies.denied
