use Rattle.std.proofs.Common.{◌≡◌, List, ℕ, sym, subst, ◌∙◌, arith}
use Rattle.std.specs.Prelude.{MatchResult}
use Rattle.tup_table.specs.Compact.{size_of}
use Rattle.tup_table.specs.declared.fault.TableFault.TheVariants.{Memory}
use Rattle.tup_table.proofs.Snapshots.{bare_area, size_below}
use Rattle.tup_table.proofs.compacting.compact_area.Goals as goal

pub returns-then-taken-eq0 : goal.returns-then-taken-eq0
returns-then-taken-eq0 c =
    subst (λ (t : List ℕ). MatchResult c.closed_gate.result (λ bytes. bytes ≡ t) (λ fault. fault ≡ Memory)) (bare_area c.args.entries.now (sym c.size-taken.ensures.0 ∙ c.if-taken-eq0.true)) c.closed_gate.ensures

pub overflow_cast-size : goal.overflow_cast-size
overflow_cast-size c = omega (arith, c.size-taken.ensures.0, size_below (size_of c.args.entries.now), c.requires)
