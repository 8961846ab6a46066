use Rattle.std.proofs.Common.{◌++◌, ◌∷◌, [], List, filter_map, ap, sym, ◌∙◌}
use Rattle.std.specs.Map.Iter.{deref}
use Rattle.tup_rule_line.specs.declared.found.Input.{Input}
use Rattle.tup_rule_line.specs.Glob as specs
use Rattle.tup_rule_line.proofs.Globs.{matches_more}
use Rattle.tup_rule_line.proofs.glob_word.matching.Goals as goal

pub loop-name-preserved : goal.loop-name-preserved
loop-name-preserved c =
    let a = c.args in
    let l = c.loop-name in
    c.in_ok-add_match.ensures ∙ ap (λ (inputs : List Input). inputs ++ filter_map (specs.matching a.dir.now a.glob.now) (c.in-Some.name.now ∷ [])) l.invariant
    ∙ sym (matches_more deref (specs.matching a.dir.now a.glob.now) l.yielded c.in-Some.name)
