use Rattle.std.proofs.Common.{sym, ap, ◌∙◌}
use Rattle.std.specs.Str.{chars}
use Rattle.tup_glob.proofs.Greedy.{first_match, first_match_none, if_match}
use Rattle.tup_glob.proofs.fit.shortest_run.Goals as goal

pub returns-in_err-place : goal.returns-in_err-place
returns-in_err-place c = rw c.from_residual.ensures (first_match_none c.args.symbols.now (chars c.args.name.now) c.in_err-place.ensures)

pub returns-then-others_match : goal.returns-then-others_match
returns-then-others_match c =
    let found = c.in_ok-place.ensures in
    let place = chars c.in_ok-place.place.now in
    first_match c.args.symbols.now (chars c.args.name.now) place (chars c.in_ok-place.left.now) found.0 found.1
    ∙ ap (λ b. if_match b place) (sym c.others_match.ensures ∙ c.if-others_match.true)

pub returns-else-others_match : goal.returns-else-others_match
returns-else-others_match c =
    let found = c.in_ok-place.ensures in
    let place = chars c.in_ok-place.place.now in
    first_match c.args.symbols.now (chars c.args.name.now) place (chars c.in_ok-place.left.now) found.0 found.1
    ∙ ap (λ b. if_match b place) (sym c.others_match.ensures ∙ c.if-others_match.false)
