use Rattle.std.proofs.Common.{◌≡◌, false, List, ℕ, None, is_some, ap, ◌∙◌, rules, arith}
use Rattle.std.specs.BTreeMap.{insert_entry, is_at}
use Rattle.std.specs.Map.{lookup}
use Rattle.tup_path.specs.Order.{by_bytes}
use Rattle.tup_table.specs.Slots.{standing}
use Rattle.tup_table.proofs.Kept.{roomed}
use Rattle.tup_table.proofs.slots.make_slot.Goals as goal

pub returns-in_ok-insert-clause-same : goal.returns-in_ok-insert-clause-same
returns-in_ok-insert-clause-same c =
    let old = c.args.slots.now.entries in
    let key = c.args.key.now in
    let same : c.new-key.result ≡ key = c.new-key.ensures ∙ c.in_ok-from_slice.ensures.items ∙ c.as_slice.ensures in
    let none : is_some (lookup (is_at (by_bytes key)) old) ≡ false = first_of (search rules, grind arith) in
    ap standing c.in_ok-insert.ensures.entries ∙ ap (λ (k : List ℕ). standing (insert_entry by_bytes old k None)) same ∙ roomed old key none
