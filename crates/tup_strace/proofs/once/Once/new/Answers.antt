use Rattle.std.proofs.Common.{◌∙◌, List, ap, sym}
use Rattle.std.specs.List.{list_any}
use Rattle.std.specs.Ordering.{eq_by_cmp}
use Rattle.tup_path.specs.Name.{Names}
use Rattle.tup_path.specs.Order.{by_names}
use Rattle.tup_strace.specs.Once.{is_among}
use Rattle.tup_strace.proofs.once.Once.new.Goals as goal

pub invariant_of-result : goal.invariant_of-result
invariant_of-result c = λ path. ap (list_any (eq_by_cmp by_names path)) c.new-2.ensures.empty ∙ sym (ap (λ (l : List Names). is_among path l) c.new.ensures.items)
