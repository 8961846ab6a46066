-- The record of a command that did what its runner means is true.
use Rattle.std.proofs.Common.{◌≡◌, ℕ, zero, suc, ◌≤◌, true, List, [], ◌∷◌, ◌++◌, length, Option, None, Some, Ok, All, Contains, refl, sym, ap, subst, ◌∙◌, append_assoc, arith}
use Rattle.std.proofs.lemmas.List.Elements.{All-contains}
use Rattle.tup_path.specs.Name.{Names, Content}
use Rattle.tup_path.specs.Resolve.{resolve}
use Rattle.tup_stamp.specs.declared.Stamp.{Stamp}
use Rattle.tup_rule.specs.Rule.{writes}
use Rattle.tup_rule.specs.declared.rule.Rule.{Rule}
use Rattle.tup_runner.specs.Honest.{AsksJust}
use Rattle.tup_runner.specs.Next.{Asks, Next}
use Rattle.tup_runner.specs.declared.step.Answer.{Answer}
use Rattle.tup_runner.specs.declared.step.Answer.TheVariants.{Content as Holds, Absent}
use Rattle.tup_runner.proofs.Asking.{just_next}
use Rattle.tup_access.specs.declared.verdict.Verdict.TheVariants.{Good}
use Rattle.tup_record.specs.declared.run.RunRecord.{RunRecord}
use Rattle.tup_graph.specs.Records.{AreRecorded, GoesOnAsking, IsStampOf, IsTrueRun}
use Rattle.tup_core.specs.Honest.{AreAnswered, EndsHonestly, StandsFor}
use Rattle.tup_core.specs.Run.{IsRun, end_of}
use Rattle.tup_core.specs.Sound.{HasOneMaker, Stands}
use Rattle.tup_core.specs.Step.{State, opening, told}
use Rattle.tup_core.specs.declared.event.CoreEvent.{CoreEvent}
use Rattle.tup_core.specs.declared.plan.Plan.{Plan}
use Rattle.tup_core.specs.declared.running.Running.{Running}
use Rattle.tup_core.proofs.Counted.{all_counted}
use Rattle.tup_core.proofs.Standing.{asks_stand}
use Rattle.tup_core.proofs.Verdicts.{as_many}
use Rattle.tup_board.specs.Ends.{AreRecorded as AreNoted, IsRecordOf}

-- a recorded ask is one of those that the command made
pub noted_ask : (dir : Names) (asks : List (List ℕ × Option Stamp)) (list : List (Names × Option Stamp)) (noted : Names × Option Stamp) → AreNoted dir asks list → Contains list noted
    → (ask : List ℕ × Option Stamp) × Contains asks ask × (resolve dir ask.0 ≡ Ok noted.0) × (noted.1 ≡ ask.1)
noted_ask dir asks [] noted are (at, less, is) = absurd (let within = less in omega (arith, within))
noted_ask dir [] (one ∷ list) noted are there = absurd are
noted_ask dir (ask ∷ asks) (one ∷ list) noted are (zero, less, is) =
    let first : one ≡ noted = is in
    (ask, (zero, omega arith, refl), are.0 ∙ ap (λ (n : Names × Option Stamp). Ok n.0) first, ap (λ (n : Names × Option Stamp). n.1) (sym first) ∙ are.1)
noted_ask dir (ask ∷ asks) (one ∷ list) noted are (suc at, less, is) =
    let found = noted_ask dir asks list noted are.2 (at, (let within = less in omega (arith, within)), is) in
    (found.0, (suc found.1.0, (let within = found.1.1 in omega (arith, within)), found.1.2), found.2, found.3)

module _ (next : Next) (known : List Content) (rule : Rule) where
  stamp_of : (given : Option Stamp) (answer : Answer) → StandsFor known given answer → IsStampOf known given answer
  stamp_of (Some given) (Holds content) is = is
  stamp_of None Absent is = is
  stamp_of (Some given) Absent is = absurd is
  stamp_of None (Holds content) is = absurd is

  -- what was asked of its own outputs is absent
  abbrev OwnAbsent : List (List ℕ × Option Stamp) → Type 0
  OwnAbsent asks = (ask : List ℕ × Option Stamp) (path : Names) → Contains asks ask → resolve rule.dir ask.0 ≡ Ok path → writes rule path ≡ true → ask.1 ≡ None

  recorded : (asks : List (List ℕ × Option Stamp)) (answers : Asks) (list : List (Names × Option Stamp)) → AreAnswered known asks answers → AreNoted rule.dir asks list → OwnAbsent asks → AreRecorded known rule answers list
  recorded [] [] [] answered noted own = tt
  recorded (ask ∷ asks) (given ∷ answers) (one ∷ list) (same, stands, answered) (named, value, noted) own = (
    ap (resolve rule.dir) (sym same) ∙ named,
    subst (λ (s : Option Stamp). IsStampOf known s given.1) (sym value) (stamp_of ask.1 given.1 stands),
    (λ mine. value ∙ own ask one.0 (zero, omega arith, refl) named mine),
    recorded asks answers list answered noted (λ a path there is mine. own a path (suc there.0, (let within = there.1 in omega (arith, within)), there.2) is mine),
  )
  recorded [] (given ∷ answers) list answered noted own = absurd answered
  recorded (ask ∷ asks) [] list answered noted own = absurd answered
  recorded [] [] (one ∷ list) answered noted own = absurd noted
  recorded (ask ∷ asks) (given ∷ answers) [] answered noted own = absurd noted

  goes_on : (before asks : Asks) → AsksJust (next rule.dir rule.text) (before ++ asks) → GoesOnAsking next rule before asks
  goes_on before [] just = tt
  goes_on before (ask ∷ asks) just = (
    just_next (next rule.dir rule.text) before asks ask just,
    goes_on (before ++ ask ∷ []) asks (subst (AsksJust (next rule.dir rule.text)) (sym (append_assoc before (ask ∷ []) asks)) just),
  )

  pub honest_run : (running : Running) (run : RunRecord) → length running.asks ≤ 65535 → EndsHonestly next known rule running None Good run.writes → AreNoted rule.dir running.asks run.asks → OwnAbsent running.asks
      → IsTrueRun next known rule run
  honest_run running run few (answered, ended, ends, good, files, contents) noted own = record {
    asks = answered.asks;
    recorded = recorded running.asks answered.asks run.asks answered.stamps noted own;
    just = goes_on [] answered.asks answered.just;
    few = subst (λ (n : ℕ). n ≤ 65535) (sym (as_many known running.asks answered.asks answered.stamps)) few;
    ended = ended;
    ends = ends;
    good = good;
    files = files;
    known_files = contents;
  }

-- ---- so is the record of one that a seat runs, in a run of the core
module _ (plan : Plan) (files : List (Names × Stamp)) (events : List CoreEvent) (one : HasOneMaker plan) (run_to : IsRun plan (opening plan files) events) (next : Next) (known : List Content) (seat number : ℕ) (run : RunRecord)
    (kept : IsRecordOf plan (end_of plan (opening plan files) events) seat number run) (ends : EndsHonestly next known kept.rule kept.running None Good run.writes) where
  abbrev now : State
  now = end_of plan (opening plan files) events

  asks_are : All (Stands plan now kept.rule) kept.running.asks
  asks_are = asks_stand plan files events one run_to seat kept.running kept.rule kept.runs

  told_own : (path : Names) → writes kept.rule path ≡ true → told kept.rule now path ≡ None
  told_own path own = rw own refl

  own_absent : (ask : List ℕ × Option Stamp) (path : Names) → Contains kept.running.asks ask → resolve kept.rule.dir ask.0 ≡ Ok path → writes kept.rule path ≡ true → ask.1 ≡ None
  own_absent ask path there named own =
      let stand = All-contains (Stands plan now kept.rule) kept.running.asks ask asks_are there in
      let both : Ok stand.path ≡ Ok path = sym stand.named ∙ named in
      let same : stand.path ≡ path = cc in
      stand.same ∙ ap (told kept.rule now) same ∙ told_own path own

  pub record_true : IsTrueRun next known kept.rule run
  record_true = honest_run next known kept.rule kept.running run ((all_counted plan files events run_to).each seat kept.running kept.runs.here).few ends kept.asks own_absent
