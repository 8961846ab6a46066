-- How a command ends: its verdict fits what it leaves, and the end is what its runner means.
use Rattle.std.proofs.Common.{◌≡◌, ◌≢◌, ℕ, ◌<◌, Bool, true, false, not, List, [], ◌∷◌, Option, None, Some, refl, sym, ap, ◌∙◌, subst, arith, map}
use Rattle.std.specs.Prelude.{◌==◌, All, Contains, if◌then◌else◌, unwrap_or}
use Rattle.std.proofs.lemmas.Bool.{true≢false, eq-eqb}
use Rattle.std.proofs.lemmas.List.Elements.{Contains-append_right}
use Rattle.tup_path.specs.Name.{Names, Content}
use Rattle.tup_stamp.specs.declared.Stamp.{Stamp}
use Rattle.tup_stamp.specs.Stamp.{stamp}
use Rattle.tup_rule.specs.declared.rule.Rule.{Rule}
use Rattle.tup_runner.specs.Next.{Next, Asks}
use Rattle.tup_runner.specs.Honest.{EndsAfter}
use Rattle.tup_runner.specs.declared.step.Answer.{Answer}
use Rattle.tup_runner.specs.declared.step.Answer.TheVariants.{Content as Holds, Absent as Nothing}
use Rattle.tup_runner.specs.declared.step.Ended.{Ended}
use Rattle.tup_access.specs.declared.verdict.Verdict.{Verdict}
use Rattle.tup_access.specs.declared.verdict.Verdict.TheVariants.{Good, Failed, IllegalWrite, Unwritten}
use Rattle.tup_access.specs.Judge.{Judged, bad, good, judge, files_of, foreign_write, unwritten, last_written}
use Rattle.tup_access.proofs.Outputs.{judge-LeavesOutputs}
use Rattle.tup_core.specs.declared.running.Running.{Running}
use Rattle.tup_core.specs.Honest.{AreAnswered, Answered, EndsHonestly, StandsFor, stamped}
use Rattle.tup_core.specs.Step.{FitsEnd}
use Rattle.tup_board.specs.Calls.{AreKnown, AreStamped, IsStampOf}

-- ---- a verdict fits what is left
module _ (rule : Rule) (ended : Ended) where
  abbrev Fits : Judged → Type 0
  Fits judged = FitsEnd rule None judged.verdict (map stamped judged.files)

  names_kept : (outputs : List Names) → map (λ (w : Names × Stamp). w.0) (map stamped (map (λ path. (path, unwrap_or (last_written rule path ended.writes) [])) outputs)) ≡ outputs
  names_kept [] = refl
  names_kept (path ∷ outputs) = ap (λ (rest : List Names). path ∷ rest) (names_kept outputs)

  abbrev by_unwritten : Option Names → Judged
  by_unwritten found = elim found [ Some path ↦ bad (Unwritten path) | None ↦ good (files_of rule ended.writes) ]

  abbrev by_foreign : Option (List ℕ × Content) → Judged
  by_foreign found = elim found [ Some w ↦ bad (IllegalWrite w.0) | None ↦ by_unwritten (unwritten rule ended.writes) ]

  abbrev by_status : Bool → Judged
  by_status ok = if not ok then bad (Failed ended.status) else by_foreign (foreign_write rule ended.writes)

  unwritten_fits : (found : Option Names) → Fits (by_unwritten found)
  unwritten_fits (Some path) = refl
  unwritten_fits None = names_kept rule.outputs

  foreign_fits : (found : Option (List ℕ × Content)) → Fits (by_foreign found)
  foreign_fits (Some w) = refl
  foreign_fits None = unwritten_fits (unwritten rule ended.writes)

  status_fits : (ok : Bool) → (ended.status == 0) ≡ ok → Fits (by_status ok)
  status_fits false failed = ((λ zero. true≢false (sym (eq-eqb ended.status 0 zero) ∙ failed)), refl)
  status_fits true well = foreign_fits (foreign_write rule ended.writes)

  pub judge_fits : Fits (judge rule ended)
  judge_fits = status_fits (ended.status == 0) refl

  -- a Good one leaves a content for each output, also for one that is named twice
  abbrev HasContents : Judged → Type 0
  HasContents judged = judged.verdict ≡ Good → (content : Names → Content) × (judged.files ≡ map (λ path. (path, content path)) rule.outputs)

  never_good : (given : Verdict) → given ≢ Good → HasContents (bad given)
  never_good given other well = absurd (other well)

  unwritten_has : (found : Option Names) → HasContents (by_unwritten found)
  unwritten_has (Some path) = never_good (Unwritten path) (λ e. cc)
  unwritten_has None = λ well. (λ path. unwrap_or (last_written rule path ended.writes) [], refl)

  foreign_has : (found : Option (List ℕ × Content)) → HasContents (by_foreign found)
  foreign_has (Some w) = never_good (IllegalWrite w.0) (λ e. cc)
  foreign_has None = unwritten_has (unwritten rule ended.writes)

  status_has : (ok : Bool) → HasContents (by_status ok)
  status_has false = never_good (Failed ended.status) (λ e. cc)
  status_has true = foreign_has (foreign_write rule ended.writes)

  pub judge_contents : HasContents (judge rule ended)
  judge_contents = status_has (ended.status == 0)

  -- a bad one leaves nothing
  pub bad_leaves : (judge rule ended).verdict ≢ Good → (judge rule ended).files ≡ []
  bad_leaves other = (judge-LeavesOutputs rule ended).other other

  -- so it may end so
  pub bad_fits : (given : Verdict) (denied : Option (List ℕ × Verdict)) → denied ≡ None → given ≡ (judge rule ended).verdict → given ≢ Good → FitsEnd rule denied given []
  bad_fits given denied granted is other =
      subst (λ (d : Option (List ℕ × Verdict)). FitsEnd rule d given []) (sym granted)
      (subst (λ (v : Verdict). FitsEnd rule None v []) (sym is)
      (subst (λ (files : List (Names × Content)). FitsEnd rule None (judge rule ended).verdict (map stamped files)) (bad_leaves (λ e. other (is ∙ e))) judge_fits))

-- ---- what was asked was answered with known contents
stands_for : (known : List Content) (given : Option Stamp) (answer : Answer) → IsStampOf given answer → ((content : Content) → answer ≡ Holds content → Contains known content) → StandsFor known given answer
stands_for known None (Holds content) is there = cc
stands_for known (Some told) (Holds content) is there = (there content refl, the told (stamp content) is)
  where
    the : (one other : Stamp) → Some one ≡ Some other → one ≡ other
    the one other e = cc
stands_for known None Nothing is there = tt
stands_for known (Some told) Nothing is there = cc

pub answered_of : (known : List Content) (asks : List (List ℕ × Option Stamp)) (answers : Asks) → AreStamped asks answers → AreKnown known answers → AreAnswered known asks answers
answered_of known [] [] stamps there = tt
answered_of known [] (given ∷ more) stamps there = absurd stamps
answered_of known (ask ∷ asks) [] stamps there = absurd stamps
answered_of known (ask ∷ asks) (given ∷ more) stamps there = (
  stamps.0,
  stands_for known ask.1 given.1 stamps.1 (λ content is. there given.0 content (0, omega arith, ap (λ (a : Answer). (given.0, a)) is)),
  answered_of known asks more stamps.2 (λ text content within. there text content (Contains-append_right (given ∷ []) more (text, Holds content) within)),
)

-- ---- an end that its runner means
pub answered : (next : Next) (known : List Content) (rule : Rule) (running : Running) (asks : Asks) (ended : Ended) → AreStamped running.asks asks → AreKnown known asks
    → EndsAfter (next rule.dir rule.text) asks ended → Answered next known rule running
answered next known rule running asks ended stamps there means = record { asks = asks; stamps = answered_of known running.asks asks stamps there; just = means.before }

pub ends_badly : (next : Next) (known : List Content) (rule : Rule) (running : Running) (asks : Asks) (ended : Ended) (given : Verdict) → AreStamped running.asks asks → AreKnown known asks
    → EndsAfter (next rule.dir rule.text) asks ended → given ≡ (judge rule ended).verdict → given ≢ Good → EndsHonestly next known rule running None given []
unfolding answered
ends_badly next known rule running asks ended given stamps there means is other =
    let none = bad_leaves rule ended (λ e. other (is ∙ e)) in (
      answered next known rule running asks ended stamps there means,
      ended,
      means.ends,
      sym is,
      ap (map stamped) none,
      subst (All (λ (file : Names × Content). Contains known file.1)) (sym none) (λ k d below. absurd (no_place k below)),
    )
  where
    no_place : (k : ℕ) → k < 0 → ⊥
    no_place k below = omega arith

pub ends_well : (next : Next) (known : List Content) (rule : Rule) (running : Running) (asks : Asks) (ended : Ended) (files : List (Names × Content)) (written : List (Names × Stamp)) → AreStamped running.asks asks → AreKnown known asks
    → EndsAfter (next rule.dir rule.text) asks ended → judge rule ended ≡ good files → written ≡ map stamped files → All (λ (file : Names × Content). Contains known file.1) files
    → EndsHonestly next known rule running None Good written
unfolding answered
ends_well next known rule running asks ended files written stamps there means is writes_are all = (
  answered next known rule running asks ended stamps there means,
  ended,
  means.ends,
  ap (λ (j : Judged). j.verdict) is,
  ap (λ (j : Judged). map stamped j.files) is ∙ sym writes_are,
  subst (λ (j : Judged). All (λ (file : Names × Content). Contains known file.1) j.files) (sym is) all,
)
