use Rattle.std.proofs.Common.{◌≡◌, drop, option_map}
use Rattle.std.specs.Map.Iter.{deref}
use Rattle.tup_rule_line.specs.State.{made_by}
use Rattle.tup_rule_line.proofs.Globs.{with_names}
use Rattle.tup_rule_line.proofs.glob_word.add_outputs.Given as goal

abbrev pub invariant-loop-draft : goal.invariant-loop-draft
invariant-loop-draft l =
    with_names (option_map deref l.glob) l.dir l.names.keys (made_by (drop l.draft-index l.drafts)) ≡ with_names (option_map deref l.glob) l.dir l.fn.names.keys (made_by l.drafts)
