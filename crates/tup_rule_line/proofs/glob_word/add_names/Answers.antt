use Rattle.std.proofs.Common.{◌+◌, List, ℕ, drop, option_map, sym, ap, ◌∙◌, arith}
use Rattle.std.specs.Map.Iter.{deref}
use Rattle.tup_rule_line.proofs.Globs.{with_names, named_more, named_end}
use Rattle.tup_rule_line.proofs.glob_word.add_names.Goals as goal

pub loop-path-preserved : goal.loop-path-preserved
loop-path-preserved c =
    let a = c.args in
    let l = c.loop-path in
    let glob = option_map deref a.glob in
    ap (λ (names : List (List ℕ)). with_names glob a.dir.now names (drop (l.path-index + 1) a.paths.now)) c.in_ok-add_name.ensures
    ∙ sym (named_more glob a.dir.now l.names.keys a.paths.now l.path-index c.path-item.result (omega arith) c.path-item.is) ∙ l.invariant

pub returns : goal.returns
returns c =
    let a = c.args in
    let l = c.loop-path in
    sym (named_end (option_map deref a.glob) a.dir.now l.names.keys a.paths.now l.path-index (omega arith)) ∙ l.invariant
