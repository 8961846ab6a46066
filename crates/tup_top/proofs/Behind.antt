-- The lines of rules that ended, from a place on.
use Rattle.std.proofs.Common.{◌≡◌, ◌<◌, ◌+◌, ◌++◌, ℕ, List, ◌∷◌, Option, length, drop, drop-cons, add-one, get_or, sym, ap, ◌∙◌}
use Rattle.std.proofs.lemmas.List.{append_assoc}
use Rattle.tup_promise.specs.declared.log.EndedRule.{EndedRule}
use Rattle.tup_top.specs.Lines.{because_line, chain_at, ended_line, ended_lines}

-- the line of the rule at a place and why it was run, and what is behind them
pub one_ended : (ended : List EndedRule) (chains : List (Option (List ℕ))) (at : ℕ) (one : EndedRule) → at < length ended → one ≡ get_or ended at one
    → ended_lines at (drop at ended) chains ≡ ended_line one ++ (because_line (chain_at chains at) ++ ended_lines (at + 1) (drop (at + 1) ended) chains)
one_ended ended chains at one within is =
    let next : drop at ended ≡ one ∷ drop (at + 1) ended =
    drop-cons ended at one within ∙ ap (λ (n : ℕ). get_or ended at one ∷ drop n ended) (sym (add-one at)) ∙ ap (λ (e : EndedRule). e ∷ drop (at + 1) ended) (sym is) in
    ap (λ (l : List EndedRule). ended_lines at l chains) next

-- two texts more
pub two_more : (text first second rest whole mid new : List ℕ) → text ++ (first ++ (second ++ rest)) ≡ whole → mid ≡ text ++ first → new ≡ mid ++ second → new ++ rest ≡ whole
two_more text first second rest whole mid new is one two =
    ap (λ (l : List ℕ). l ++ rest) (two ∙ ap (λ (l : List ℕ). l ++ second) one)
    ∙ append_assoc (text ++ first) second rest
    ∙ append_assoc text first (second ++ rest)
    ∙ is
