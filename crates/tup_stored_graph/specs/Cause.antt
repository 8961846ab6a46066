-- Why a call of a graph is refused (own). The outside's own failures are counted, so that nobody
-- else can claim one.
use Rattle.std.specs.Prelude.{◌≡◌, ◌⊎◌, ℕ, Result}
use Rattle.std.specs.Result.{IfErr}
use Rattle.tup_site.specs.Cause.{Counts}
use Rattle.tup_graph.specs.declared.fault.GraphFault.{GraphFault}
use Rattle.tup_graph.specs.declared.fault.GraphFault.TheVariants.{Site, Memory}

-- the site's count rises with each `Site`, and at no other answer
abbrev pub CountsFaults : {T : Type 0} → ℕ → ℕ → Result T GraphFault → Type 0
CountsFaults before now result = Counts Site before now result

-- nothing refuses but a failure of the site, or want of memory
abbrev pub OnlyOutside : {T : Type 0} → Result T GraphFault → Type 0
OnlyOutside result = IfErr result (λ fault. (fault ≡ Site) ⊎ (fault ≡ Memory))
