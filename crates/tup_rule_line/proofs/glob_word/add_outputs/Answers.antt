use Rattle.std.proofs.Common.{◌+◌, List, ℕ, drop, option_map, sym, ap, ◌∙◌, arith}
use Rattle.std.specs.Map.Iter.{deref}
use Rattle.tup_path.specs.Name.{Names}
use Rattle.tup_rule_line.specs.State.{made_by}
use Rattle.tup_rule_line.proofs.Globs.{with_names, made_more, made_end}
use Rattle.tup_rule_line.proofs.glob_word.add_outputs.Goals as goal

pub loop-draft-preserved : goal.loop-draft-preserved
loop-draft-preserved c =
    let a = c.args in
    let l = c.loop-draft in
    let glob = option_map deref a.glob in
    ap (λ (names : List (List ℕ)). with_names glob a.dir.now names (made_by (drop (l.draft-index + 1) a.drafts.now)))
    (c.in_ok-add_names.ensures ∙ ap (λ (paths : List Names). with_names glob a.dir.now l.names.keys paths) c.as_slice.ensures)
    ∙ sym (made_more glob a.dir.now l.names.keys a.drafts.now l.draft-index c.draft-item.result (omega arith) c.draft-item.is) ∙ l.invariant

pub returns : goal.returns
returns c =
    let a = c.args in
    let l = c.loop-draft in
    sym (made_end (option_map deref a.glob) a.dir.now l.names.keys a.drafts.now l.draft-index (omega arith)) ∙ l.invariant
