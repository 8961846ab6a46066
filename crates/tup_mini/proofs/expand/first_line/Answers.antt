use Rattle.std.proofs.Common.{◌≡◌, ◌∷◌, ℕ, take, drop, sym, ◌∙◌, subst}
use Rattle.tup_mini.specs.Include.{lines_of}
use Rattle.tup_mini.proofs.Including.{first-some, first-none}
use Rattle.tup_mini.proofs.expand.first_line.Goals as goal
use Rattle.tup_mini.proofs.expand.first_line.Goals.{in-Some, in-None}

pub returns-clause-cut : goal.returns-clause-cut
returns-clause-cut c =
    let rest = c.args.rest.now in
    let Cut : ℕ → Type 0 = λ n. lines_of rest ≡ take n rest ∷ lines_of (drop n rest) in
    let cut : Cut c.match-feed.end = elim c.match-feed.branch [
      | in-Some w ↦ subst Cut (sym w.end-is) (first-some rest w.in-Some.at c.requires (sym c.feed.ensures ∙ w.in-Some.is))
      | in-None w ↦ subst Cut (sym w.end-is) (first-none rest c.requires (sym c.feed.ensures ∙ w.in-None.is))
    ] in
    cut ∙ (λ i. sym c.split_at.ensures.front i ∷ lines_of (sym c.split_at.ensures.back i))
