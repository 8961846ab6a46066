use Rattle.std.proofs.Common.{subst, List, ℕ, Ok, Err}
use Rattle.tup_lex.specs.declared.kind.ParseKind.TheVariants.{OpenBracket}
use Rattle.tup_path.specs.Gives.{GivesUnless}
use Rattle.tup_glob.specs.Read.{symbols_of}
use Rattle.tup_glob.specs.declared.fault.GlobFault.{GlobFault}
use Rattle.tup_glob.specs.declared.fault.GlobFault.TheVariants.{Memory}
use Rattle.tup_rule_line.specs.Glob.{glob_of}
use Rattle.tup_query.proofs.Texts.{taken_ok, taken_err}
use Rattle.tup_rule_line.proofs.glob_word.glob_of.Goals as goal

pub returns-in-Ok : goal.returns-in-Ok
unfolding glob_of
returns-in-Ok c =
    let a = c.args in
    taken_ok a.at.now (λ (fault : GlobFault). OpenBracket) Memory c.in-Ok.glob (symbols_of a.pattern.now)
    (subst (λ (t : List ℕ). GivesUnless (Ok c.in-Ok.glob) Memory (symbols_of t)) c.in_ok-pattern.ensures c.in-Ok.ensures.value)

pub returns : goal.returns
unfolding glob_of
returns c =
    let a = c.args in
    taken_err a.at.now (λ (fault : GlobFault). OpenBracket) Memory c.in-Err.fault (symbols_of a.pattern.now) c.glob_end.result
    (subst (λ (t : List ℕ). GivesUnless (Err c.in-Err.fault) Memory (symbols_of t)) c.in_ok-pattern.ensures c.in-Err.ensures.value) c.glob_end.ensures.refusal c.glob_end.ensures.memory
