use Rattle.std.proofs.Common.{◌≡◌, sym, ◌∙◌}
use Rattle.std.specs.Str.{chars}
use Rattle.tup_glob.specs.Match.{matches as matched}
use Rattle.tup_glob.proofs.Cuts.{cut_from_matches, matches_from_cut}
use Rattle.tup_glob.proofs.glob.Glob.matches.Goals as goal

pub returns-clause-cut : goal.returns-clause-cut
returns-clause-cut c =
    let name = c.as_str.ensures.bytes in
    let value : c.matches.result ≡ matched c.args.self.now (chars c.args.name.now) = cc in
    (λ yes. cut_from_matches c.args.self.now (chars c.args.name.now) (sym value ∙ yes), λ cut. value ∙ matches_from_cut c.args.self.now (chars c.args.name.now) cut)
