use Rattle.std.proofs.Common.{◌≡◌, ◌+◌, ◌≤◌, Option, MatchResult, sym, ap, subst, arith}
use Rattle.tup_table.specs.Compact.{size_in}
use Rattle.tup_table.specs.declared.entry.Entry.{Entry}
use Rattle.tup_table.specs.declared.fault.TableFault.TheVariants.{Memory}
use Rattle.tup_table.proofs.gathered.with_slot.Goals as goal

pub returns-in-Some : goal.returns-in-Some
returns-in-Some c =
    subst (λ (slot : Option Entry). MatchResult c.with_entry.result (λ sum. (sum ≡ c.args.size + size_in c.args.key.now slot) × (sum ≤ 4611686018427387904)) (λ fault. fault ≡ Memory)) (sym c.in-Some.is) c.with_entry.ensures

pub returns-in-None : goal.returns-in-None
returns-in-None c = let none : size_in c.args.key.now c.args.slot.now ≡ 0 = ap (size_in c.args.key.now) c.in-None.is in (omega (arith, none), c.requires)
