-- A file that couldn't be read for a command: that is true of the board, as the cause of a stop.
use Rattle.std.proofs.Common.{◌≡◌, ◌≢◌, ℕ, List, length, Option, None, Some, Result, Err, refl, ap, ◌∙◌, ⊎_elim}
use Rattle.std.specs.Prelude.{IsTrue}
use Rattle.std.specs.FinMap as finite
use Rattle.tup_path.specs.Name.{Names, Content}
use Rattle.tup_path.specs.Tree.{Tree}
use Rattle.tup_site.specs.World.{World}
use Rattle.tup_site.specs.declared.site.Site.{Ghosts as Site}
use Rattle.tup_runner.specs.declared.runner.Runner.{Ghosts as Runner}
use Rattle.tup_access.proofs.Permitted.{access-Yes}
use Rattle.tup_rule_outputs.specs.declared.fault.BoardFault.{BoardFault}
use Rattle.tup_rule_outputs.specs.declared.fault.BoardFault.TheVariants.{Site as ByVisit, TooLarge, Full, Memory}
use Rattle.tup_rule_outputs.specs.Fault.{CountsFaults}
use Rattle.tup_rule_outputs.specs.Ground.{OnlyLarge, NamesLength}
use Rattle.tup_rule_outputs.specs.Lost.{Lost, WasLostToSite}
use Rattle.tup_board.specs.Board.{BoardState, course_of, plan_of, state}
use Rattle.tup_board.specs.Calls.{AsksFor}
use Rattle.tup_board.specs.Outputs.{IsPending}
use Rattle.tup_board.specs.Sound.{IsSound, IsTrueFault}
use Rattle.tup_board.proofs.WasRead.{rose_since}
use Rattle.tup_board.proofs.Seated.{not_to_come}

none_lost : WasLostToSite None → ⊥
none_lost lost = let none : (let no : Option Lost = None in no) ≡ Some lost.0 = lost.1 in cc

-- ---- a refusal of one call is that of another
abbrev refused : {T : Type 0} → BoardFault → Result T BoardFault
refused fault = Err fault

pub same_fault : {T : Type 0} (one other : BoardFault) → refused {T = T} one ≡ Err other → one ≡ other
same_fault one other e = cc

same_refusal : {T U : Type 0} (one other : BoardFault) → refused {T = T} one ≡ Err other → refused {T = U} one ≡ Err other
same_refusal {T} {U} one other e = ap (refused {T = U}) (same_fault {T = T} one other e)

pub counts_as : {T U : Type 0} (before now : ℕ) (fault : BoardFault) → CountsFaults before now None (refused {T = T} fault) → CountsFaults before now None (refused {T = U} fault)
counts_as {T} {U} before now fault counts = record {
  later = counts.later;
  site = λ e. counts.site (same_refusal {T = U} {U = T} fault ByVisit e);
  steady = λ other. counts.steady (λ e. other (same_refusal {T = T} {U = U} fault ByVisit e));
}

pub large_as : {T U : Type 0} (fault : BoardFault) → OnlyLarge (refused {T = T} fault) → OnlyLarge (refused {T = U} fault)
large_as {T} {U} fault large bytes e = large bytes (same_refusal {T = U} {U = T} fault (TooLarge bytes) e)

pub length_as : {T U : Type 0} (tree : Tree) (path : Names) (fault : BoardFault) → NamesLength tree path (refused {T = T} fault) → NamesLength tree path (refused {T = U} fault)
length_as {T} {U} tree path fault named bytes e = named bytes (same_refusal {T = U} {U = T} fault (TooLarge bytes) e)

module _ {S R : Type 0} (site : Site S) (runner : Runner R) (b : BoardState S) (sound : IsSound site runner b) (seat : ℕ) (text : List ℕ) (path : Names) (asks_for : AsksFor b seat text path) where
  -- what a command may read, and isn't its rule's own, isn't still to be made
  pub stands_there : IsPending (plan_of b) (state b) path → ⊥
  stands_there =
      not_to_come (plan_of b) (course_of b).files b.history sound.run sound.opening.apart.one_maker seat asks_for.it.running asks_for.it.rule path asks_for.it.runs
      (access-Yes (plan_of b).rules asks_for.it.rule (length asks_for.it.running.asks) text path asks_for.may).readable asks_for.foreign

  pub visit_true : (visited : S) (fault : BoardFault) → fault ≢ Full → (IsTrue site.tells → site.world visited ≡ site.world b.site)
      → OnlyLarge (let refused : Result (Option Content) BoardFault = Err fault in refused)
      → (IsTrue site.tells → NamesLength (site.world b.site).tree path (let refused : Result (Option Content) BoardFault = Err fault in refused))
      → CountsFaults (site.faults b.site) (site.faults visited) None (let refused : Result (Option Content) BoardFault = Err fault in refused)
      → IsTrueFault site runner (record b { site = visited }) seat fault
  visit_true visited ByVisit other same large length_is counts =
      ⊎_elim (λ rose. rose_since (site.faults b.opening.site) (site.faults b.site) (site.faults visited) sound.counted rose) (λ lost. absurd (none_lost lost)) (counts.site refl)
  visit_true visited (TooLarge bytes) other same large length_is counts = (
    large bytes refl,
    λ told.
        let is = length_is told bytes refl in record {
          path = path;
          content = is.content;
          here = ap (λ (w : World). finite.get w.tree path) (same told) ∙ is.found;
          long = is.bytes;
          stands = stands_there;
        },
  )
  visit_true visited Full other same large length_is counts = absurd (other refl)
  visit_true visited Memory other same large length_is counts = tt
