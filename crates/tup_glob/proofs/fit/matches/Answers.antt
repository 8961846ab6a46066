use Rattle.std.proofs.Common.{sym, ap, ◌∙◌}
use Rattle.std.specs.Str.{chars}
use Rattle.tup_glob.specs.Fit.{behind_run as others_of}
use Rattle.tup_glob.proofs.Greedy.{by_left, matches_by_left}
use Rattle.tup_glob.proofs.fit.matches.Goals as goal

pub returns-in-Some : goal.returns-in-Some
returns-in-Some c =
    c.others_match.ensures
    ∙ sym (matches_by_left c.args.symbols.now (chars c.args.name.now) ∙ ap (by_left (others_of c.args.symbols.now)) c.in-Some.ensures)

pub returns-in-None : goal.returns-in-None
returns-in-None c = sym (matches_by_left c.args.symbols.now (chars c.args.name.now) ∙ ap (by_left (others_of c.args.symbols.now)) c.in-None.ensures)
