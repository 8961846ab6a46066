use Rattle.std.proofs.Common.{◌≡◌, false, ◌||◌, [], ap, ◌∙◌}
use Rattle.std.specs.BTreeSet.{BTreeSet, contains}
use Rattle.std.specs.List.{list_any}
use Rattle.std.specs.Ordering.{eq_by_cmp}
use Rattle.tup_path.specs.Name.{Names}
use Rattle.tup_path.specs.Order.{by_names}
use Rattle.tup_rule.specs.Rule.{among}
use Rattle.tup_access.proofs.inputs.declared.Goals as goal

-- no path is in a set without keys
none_in : (set : BTreeSet Names) (path : Names) → set.keys ≡ [] → contains by_names set path ≡ false
none_in set path empty = ap (list_any (eq_by_cmp by_names path)) empty

pub returns : goal.returns
returns c = λ path.
    c.in_ok-add_paths-2.ensures path
    ∙ ap (λ b. b || among path c.as_slice-2.result.now) (c.in_ok-add_paths.ensures path ∙ ap (λ b. b || among path c.as_slice.result.now) (none_in c.new-set.result path c.new-set.ensures.empty))
    ∙ (λ i. among path (c.as_slice.ensures i) || among path (c.as_slice-2.ensures i))
