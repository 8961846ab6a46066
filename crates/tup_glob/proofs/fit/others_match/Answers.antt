use Rattle.std.proofs.Common.{sym, ap, ◌∙◌, is_some, rules}
use Rattle.std.specs.Str.{chars}
use Rattle.tup_glob.specs.Fit.{match_left, behind_run as others_of}
use Rattle.tup_glob.proofs.Greedy.{first_match, first_match_none, is_some-if_match}
use Rattle.tup_glob.proofs.fit.others_match.Goals as goal

pub returns-in_default-first_fit : goal.returns-in_default-first_fit
returns-in_default-first_fit c =
    let left = chars c.loop-others.left.now in
    sym (c.loop-others.invariant.1
    ∙ ap (λ o. match_left o left) c.in-Some.ensures.others
    ∙ ap is_some (first_match_none c.in-Some.others.now left c.in_default-first_fit.ensures))

pub loop-others-preserved : goal.loop-others-preserved
loop-others-preserved c =
    let left = chars c.loop-others.left.now in
    let others = c.in-Some.others.now in
    let found = c.in-Some-first_fit.ensures in
    let rest = chars c.in-Some-first_fit.rest.now in
    let place = chars c.in-Some-first_fit.field-0-0.now in (
      search rules,
      c.loop-others.invariant.1
          ∙ ap (λ o. match_left o left) c.in-Some.ensures.others
          ∙ ap is_some (first_match others left place rest found.0 found.1)
          ∙ is_some-if_match (match_left (others_of others) rest) place,
    )
