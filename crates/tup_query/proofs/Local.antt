-- Whatever a process is, it depends on the answers to its own questions alone.
use Rattle.std.proofs.Common.{◌≡◌, zero, suc, List, ◌∷◌, refl, ap, ◌∙◌, arith}
use Rattle.std.specs.List.{Contains}
use Rattle.tup_rule.specs.declared.question.Question.{Question}
use Rattle.tup_rule.specs.declared.question.Told.{Told}
use Rattle.tup_query.specs.Reads.{Reads, Ends, Asks, outcome, asked, AnswerAlike, IsLocal}

here : {X : Type 0} (x : X) (xs : List X) → Contains (x ∷ xs) x
here x xs = (zero, omega arith, refl)

further : {X : Type 0} (x y : X) (xs : List X) → Contains xs y → Contains (x ∷ xs) y
further x y xs (k, l, e) = (suc k, omega arith, e)

pub local : {F A : Type 0} (reads : Reads F A) (one other : Question → Told) → AnswerAlike reads one other → IsLocal reads one other
local (Ends result) one other alike = record { ends = refl; asks = refl }
local (Asks question goes_on) one other alike =
    let more = asked one (goes_on (one question)) in
    let same : other question ≡ one question = alike question (here question more) in
    let rest = local (goes_on (one question)) one other (λ next there. alike next (further question next more there)) in
    record {
      ends = ap (λ (told : Told). outcome other (goes_on told)) same ∙ rest.ends;
      asks = ap (λ (told : Told). question ∷ asked other (goes_on told)) same ∙ ap (λ (all : List Question). question ∷ all) rest.asks;
    }
