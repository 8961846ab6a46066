use Rattle.std.proofs.Common.{sym, ◌∙◌}
use Rattle.tup_refresh.proofs.fetched.Fetched.fetch.Goals as goal

pub returns-clause-fetched : goal.returns-clause-fetched
returns-clause-fetched g c = λ tells sources here is. c.in_ok-note.ensures.fetched sources (c.in_ok-content.ensures.content tells ∙ sym here) is
