-- How the site's faults are counted over the calls of a ground.
use Rattle.std.proofs.Common.{◌≡◌, ℕ, Bool, true, false, Option, None, Some, Result, Ok, Err, refl, sym, ap, subst, inl, inr, ◌∙◌, arith}
use Rattle.std.specs.Prelude.{if◌then◌else◌}
use Rattle.tup_path.specs.Name.{Names}
use Rattle.tup_path.specs.Tree.{Tree}
use Rattle.tup_site.specs.Cause.{CountsFaults as SiteCounts, OnlyLarge as SiteOnlyLarge, NamesLength as SiteNamesLength}
use Rattle.tup_site.specs.declared.fault.SiteFailed.{SiteFailed}
use Rattle.tup_site.specs.declared.fault.SiteFailed.TheVariants as site
use Rattle.tup_graph.specs.declared.fault.GraphFault.{GraphFault}
use Rattle.tup_graph.specs.declared.fault.GraphFault.TheVariants as graph
use Rattle.tup_stored_graph.specs.Cause.{CountsFaults as GraphCounts}
use Rattle.tup_rule_outputs.specs.declared.fault.BoardFault.{BoardFault}
use Rattle.tup_rule_outputs.specs.declared.fault.BoardFault.TheVariants as board
use Rattle.tup_rule_outputs.specs.Fault.{CountsFaults, of_site, told, lost_fault}
use Rattle.tup_rule_outputs.specs.Ground.{OnlyLarge, NamesLength}
use Rattle.tup_rule_outputs.specs.Lost.{Lost}

-- ---- which faults of a board are which of its site
pub never_full : (failed : SiteFailed) → of_site failed ≡ board.Full → ⊥
never_full site.Fault e = cc
never_full (site.TooLarge bytes) e = cc
never_full site.Memory e = cc

pub of_too_large : (failed : SiteFailed) (bytes : ℕ) → of_site failed ≡ board.TooLarge bytes → failed ≡ site.TooLarge bytes
of_too_large site.Fault bytes e = cc
of_too_large (site.TooLarge other) bytes e = cc
of_too_large site.Memory bytes e = cc

pub same_refusal : {T : Type 0} (one other : BoardFault) → (let refused : Result T BoardFault = Err one in refused) ≡ Err other → one ≡ other
same_refusal one other e = cc

abbrev refused_by : {T : Type 0} → SiteFailed → Result T SiteFailed
refused_by failed = Err failed

pub large_failed : {T U : Type 0} (failed : SiteFailed) → SiteOnlyLarge {T = T} (Err failed) → OnlyLarge {T = U} (Err (of_site failed))
large_failed {T} {U} failed large bytes e = large bytes (ap (refused_by {T = T}) (of_too_large failed bytes (same_refusal (of_site failed) (board.TooLarge bytes) e)))

pub length_failed : {T U : Type 0} (tree : Tree) (path : Names) (failed : SiteFailed) → SiteNamesLength {T = T} tree path (Err failed) → NamesLength {T = U} tree path (Err (of_site failed))
length_failed {T} {U} tree path failed named bytes e = named bytes (ap (refused_by {T = T}) (of_too_large failed bytes (same_refusal (of_site failed) (board.TooLarge bytes) e)))

pub full_failed : {U : Type 0} (failed : SiteFailed) → (let refused : Result U BoardFault = Err (of_site failed) in refused) ≡ Err board.Full → ⊥
full_failed failed e = never_full failed (same_refusal (of_site failed) board.Full e)

-- ---- how they are counted

-- a refusal of the site
pub counts_failed : {T U : Type 0} (before now : ℕ) (failed : SiteFailed) → SiteCounts {T = T} before now (Err failed) → CountsFaults {T = U} before now None (Err (of_site failed))
counts_failed before now site.Fault counts = record { later = counts.later; site = λ _. inl (counts.fault refl); steady = λ other. absurd (other refl) }
counts_failed before now (site.TooLarge bytes) counts = record { later = counts.later; site = λ e. absurd (cc); steady = λ _. counts.steady (λ e. cc) }
counts_failed before now site.Memory counts = record { later = counts.later; site = λ e. absurd (cc); steady = λ _. counts.steady (λ e. cc) }

-- none
pub counts_given : {T U : Type 0} (before now : ℕ) (value : T) (given : U) → SiteCounts before now (Ok value) → CountsFaults before now None (Ok given)
counts_given before now value given counts = record { later = counts.later; site = λ e. absurd (cc); steady = λ _. counts.steady (λ e. cc) }

-- a commit
pub counts_told : (before now : ℕ) (answer : Result (Unit {0}) GraphFault) → GraphCounts before now answer → CountsFaults before now None (told answer)
counts_told before now (Ok done) counts = record { later = counts.later; site = λ e. absurd (cc); steady = λ _. counts.steady (λ e. cc) }
counts_told before now (Err graph.NotThere) counts = record { later = counts.later; site = λ e. absurd (cc); steady = λ _. counts.steady (λ e. cc) }
counts_told before now (Err (graph.BadStore offset)) counts = record { later = counts.later; site = λ e. absurd (cc); steady = λ _. counts.steady (λ e. cc) }
counts_told before now (Err graph.Site) counts = record { later = counts.later; site = λ _. inl (counts.fault refl); steady = λ other. absurd (other refl) }
counts_told before now (Err graph.Full) counts = record { later = counts.later; site = λ e. absurd (cc); steady = λ _. counts.steady (λ e. cc) }
counts_told before now (Err graph.Memory) counts = record { later = counts.later; site = λ e. absurd (cc); steady = λ _. counts.steady (λ e. cc) }

-- calls that were not refused come first
pub steady_told : (before now : ℕ) (done : Unit {0}) → CountsFaults before now None (Ok done) → now ≡ before
steady_told before now done counts = counts.steady (λ e. cc)

pub steady_site : {T : Type 0} (before now : ℕ) (value : T) → SiteCounts before now (Ok value) → now ≡ before
steady_site before now value counts = counts.steady (λ e. cc)

pub counts_since : {T : Type 0} (before mid now : ℕ) (result : Result T BoardFault) → mid ≡ before → CountsFaults mid now None result → CountsFaults before now None result
counts_since before mid now result same counts = subst (λ (n : ℕ). CountsFaults n now None result) same counts

-- a commit was lost before, and nothing is done
memory_is_none : board.Memory ≡ board.Site → ⊥
memory_is_none e = cc

by_site_is : (b : Bool) → (if b then board.Site else board.Memory) ≡ board.Site → b ≡ true
by_site_is true e = refl
by_site_is false e = absurd (memory_is_none e)

pub counts_lost : {T : Type 0} (count : ℕ) (lost : Option Lost) (fault : BoardFault) (commit : Lost) → lost ≡ Some commit → fault ≡ lost_fault commit → CountsFaults {T = T} count count lost (Err fault)
counts_lost count lost fault commit is fault_is = record {
  later = omega arith;
  site = λ e. inr (commit, is, by_site_is commit.by_site (sym fault_is ∙ same_refusal fault board.Site e));
  steady = λ _. refl;
}
