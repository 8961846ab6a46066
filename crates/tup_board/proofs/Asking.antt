-- What an ask does once a file was looked at: it couldn't be read, or it was read and told.
use Rattle.std.proofs.Common.{◌≡◌, ◌≢◌, ℕ, ◌≤◌, List, ◌++◌, length, None, Result, Ok, Err, refl, sym, ap, ◌∙◌, subst}
use Rattle.std.specs.Prelude.{IsTrue, slice_get}
use Rattle.std.proofs.lemmas.Option.{same_Some}
use Rattle.tup_path.specs.Name.{Names}
use Rattle.tup_rule.specs.declared.rule.Rule.{Rule}
use Rattle.tup_site.specs.Cause.{IsTooLarge}
use Rattle.tup_site.specs.Crash.{GoesOn, NoStep}
use Rattle.tup_site.specs.World.{World}
use Rattle.tup_site.specs.declared.site.Site.{Ghosts as Site}
use Rattle.tup_table.proofs.Going.{nothing_then}
use Rattle.tup_access.specs.Access.{access}
use Rattle.tup_access.specs.declared.verdict.Access.TheVariants.{Yes}
use Rattle.tup_core.specs.declared.running.Running.{Running}
use Rattle.tup_schedule.specs.Course.{CourseState, RunsRule}
use Rattle.tup_rule_outputs.specs.declared.fault.BoardFault.{BoardFault}
use Rattle.tup_rule_outputs.specs.declared.fault.BoardFault.TheVariants.{Site as ByVisit, TooLarge, Full, Memory}
use Rattle.tup_rule_outputs.specs.Fault.{CountsFaults}
use Rattle.tup_rule_outputs.specs.Ground.{OnlyLarge, NamesLength}
use Rattle.tup_board.specs.declared.answers.Asked.{Asked}
use Rattle.tup_board.specs.declared.answers.Asked.TheVariants.{Content as Told, Absent, Denied}
use Rattle.tup_board.specs.Board.{BoardState, course_of, plan_of, with_history}
use Rattle.tup_board.specs.Calls.{Asks, AsksFor, IsToldOf, HasAskedFor, ask_events}
use Rattle.tup_board.specs.Cause.{stops_by}

-- a seat runs one rule
pub same_running : (course : CourseState) (seat : ℕ) (it other : RunsRule course seat) → it.running ≡ other.running
same_running course seat it other = same_Some _ _ (sym it.runs.here ∙ other.runs.here)

pub same_rule_at : (course : CourseState) (seat : ℕ) (it other : RunsRule course seat) → it.rule ≡ other.rule
same_rule_at course seat it other =
    same_Some _ _ (sym it.runs.placed ∙ ap (λ (r : Running). slice_get course.plan.rules r.rule) (same_running course seat it other) ∙ other.runs.placed)

same_path_asked : {one other : Names} → Yes one ≡ Yes other → one ≡ other
same_path_asked e = cc

module _ {S : Type 0} (site : Site S) (b : BoardState S) (seat : ℕ) (text : List ℕ) where
  -- what a rule's command may ask, it may as whatever the seat runs
  may_at : (it other : RunsRule (course_of b) seat) (path : Names) → access (plan_of b).rules it.rule (length it.running.asks) text ≡ Yes path
      → access (plan_of b).rules other.rule (length other.running.asks) text ≡ Yes path
  may_at it other path may =
      ap (λ (r : Rule). access (plan_of b).rules r (length other.running.asks) text) (sym (same_rule_at (course_of b) seat it other))
      ∙ ap (λ (r : Running). access (plan_of b).rules it.rule (length r.asks) text) (sym (same_running (course_of b) seat it other)) ∙ may

  one_path : (it other : RunsRule (course_of b) seat) (path named : Names) → access (plan_of b).rules it.rule (length it.running.asks) text ≡ Yes path
      → access (plan_of b).rules other.rule (length other.running.asks) text ≡ Yes named → named ≡ path
  one_path it other path named may also = same_path_asked (sym also ∙ may_at it other path may)

  module _ (path : Names) (asks_for : AsksFor b seat text path) where
    -- ---- a file that couldn't be read
    module _ (visited : S) (same : IsTrue site.tells → site.world visited ≡ site.world b.site)
        (crash : IsTrue site.tells → GoesOn site.moment site.left_since b.site visited NoStep) (known : IsTrue site.tells → site.known visited ≡ site.known b.site) where
      abbrev after_visit : BoardState S
      after_visit = record b { site = visited }

      read_told : (fault : BoardFault) (named : Names) → IsTrue site.tells → NamesLength (site.world b.site).tree path (let refused : Result Asked BoardFault = Err fault in refused) → named ≡ path
          → IsToldOf (site.world b.site).tree named (Err fault)
      read_told ByVisit named tells large is = tt
      read_told (TooLarge bytes) named tells large is = subst (λ (p : Names). IsTooLarge (site.world b.site).tree p bytes) (sym is) (large bytes refl)
      read_told Full named tells large is = tt
      read_told Memory named tells large is = tt

      read_for : (fault : BoardFault) → OnlyLarge (let refused : Result Asked BoardFault = Err fault in refused) → HasAskedFor seat text b (Err fault)
      read_for ByVisit large = (path, asks_for)
      read_for (TooLarge bytes) large = (large bytes refl, (path, asks_for))
      read_for Full large = tt
      read_for Memory large = tt

      failed_adds : (fault : BoardFault) → with_history after_visit (b.history ++ stops_by seat fault) ≡ record b { history = b.history ++ ask_events seat text (Err fault); site = visited }
      failed_adds fault = refl

      pub failed_asks : (fault : BoardFault) → fault ≢ Full → OnlyLarge (let refused : Result Asked BoardFault = Err fault in refused)
          → (IsTrue site.tells → NamesLength (site.world b.site).tree path (let refused : Result Asked BoardFault = Err fault in refused))
          → CountsFaults (site.faults b.site) (site.faults visited) None (let refused : Result Asked BoardFault = Err fault in refused)
          → Asks site seat text b (Err fault) (with_history after_visit (b.history ++ stops_by seat fault))
      failed_asks fault not_full large length_is counts = record {
        asked = record { adds = failed_adds fault; never_full = λ e. not_full (same_err fault Full e) };
        told = λ tells named for_it. read_told fault named tells (length_is tells) (one_path asks_for.it for_it.it path named asks_for.may for_it.may);
        for_it = read_for fault large;
        same = same;
        crash = crash;
        known = known;
        cause = counts;
      }
        where
          same_err : (one other : BoardFault) → (let refused : Result Asked BoardFault = Err one in refused) ≡ Err other → one ≡ other
          same_err one other e = cc

      -- ---- and one that was read, and told then
      for_back : (named : Names) → AsksFor b seat text named → AsksFor after_visit seat text named
      for_back named for_it = record { it = for_it.it; may = for_it.may; foreign = for_it.foreign }

      for_on : (result : Result Asked BoardFault) → HasAskedFor seat text after_visit result → HasAskedFor seat text b result
      for_on (Ok (Told content)) it = (it.0, record { it = it.1.it; may = it.1.may; foreign = it.1.foreign })
      for_on (Ok Absent) it = tt
      for_on (Ok (Denied verdict)) it = tt
      for_on (Err ByVisit) it = (it.0, record { it = it.1.it; may = it.1.may; foreign = it.1.foreign })
      for_on (Err (TooLarge bytes)) it = (it.0, (it.1.0, record { it = it.1.1.it; may = it.1.1.may; foreign = it.1.1.foreign }))
      for_on (Err Full) it = tt
      for_on (Err Memory) it = tt

      pub read_asks : (result : Result Asked BoardFault) (new : BoardState S) → ((t u : ℕ) (w : World) → IsTrue site.tells → t ≤ u → site.left_since visited u w → site.left_since visited t w)
          → site.faults visited ≡ site.faults b.site → Asks site seat text after_visit result new → Asks site seat text b result new
      read_asks result new earlier steady asks = record {
        asked = record { adds = asks.asked.adds; never_full = asks.asked.never_full };
        told = λ tells named for_it. subst (λ (w : World). IsToldOf w.tree named result) (same tells) (asks.told tells named (for_back named for_it));
        for_it = for_on result asks.for_it;
        same = λ tells. asks.same tells ∙ same tells;
        crash = λ tells. nothing_then site.moment site.left_since b.site visited new.site NoStep (λ t u w le left. earlier t u w tells le left) (crash tells) (asks.crash tells);
        known = λ tells. asks.known tells ∙ known tells;
        cause = subst (λ (n : ℕ). CountsFaults n (site.faults new.site) None result) steady asks.cause;
      }
