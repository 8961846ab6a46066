-- More contents are known: what a runner meant by those that were, it means by these.
use Rattle.std.proofs.Common.{◌≡◌, ℕ, zero, suc, ◌<◌, List, [], ◌∷◌, length, Option, None, Some, get_or, sym, inl, inr, arith}
use Rattle.std.specs.Prelude.{Contains, IsTrue, bytes_eq}
use Rattle.std.specs.List.{list_any}
use Rattle.std.proofs.lemmas.Bool.{or_cases, or_left, or_right}
use Rattle.std.proofs.lemmas.List.Elements.{All-weaker}
use Rattle.std.proofs.lemmas.Slice.Eq.{bytes_eq-Decides}
use Rattle.tup_path.specs.Name.{Names, Content}
use Rattle.tup_stamp.specs.declared.Stamp.{Stamp}
use Rattle.tup_rule.specs.declared.rule.Rule.{Rule}
use Rattle.tup_runner.specs.Next.{Next, Asks}
use Rattle.tup_runner.specs.declared.step.Answer.{Answer}
use Rattle.tup_runner.specs.declared.step.Answer.TheVariants.{Content as Holds, Absent}
use Rattle.tup_access.specs.declared.verdict.Verdict.{Verdict}
use Rattle.tup_site.specs.Known.{Keeps, knows}
use Rattle.tup_core.specs.declared.event.CoreEvent.{CoreEvent}
use Rattle.tup_core.specs.declared.event.CoreEvent.TheVariants.{Claim, Ask, Deny, Finish, Stop}
use Rattle.tup_core.specs.declared.plan.Plan.{Plan}
use Rattle.tup_core.specs.declared.running.Running.{Running}
use Rattle.tup_core.specs.Honest.{AreAnswered, Answered, EndsHonestly, IsHonest, StandsFor}
use Rattle.tup_core.specs.Step.{State, after}

-- ---- what a site knows is among its known contents, and the other way round
pub known_among : (known : List Content) (content : Content) → IsTrue (knows known content) → Contains known content
known_among [] content e = cc
known_among (one ∷ known) content e =
    elim (or_cases (bytes_eq content one) (list_any (bytes_eq content) known) e) [
      | inl same ↦ (0, omega arith, sym ((bytes_eq-Decides content one).0 same))
      | inr later ↦
          let there = known_among known content later in
          let less = there.1 in
          (suc there.0, omega arith, there.2)
    ]

known_at : (known : List Content) (content : Content) (k : ℕ) → k < length known → get_or known k content ≡ content → IsTrue (knows known content)
known_at [] content k less is = absurd (omega arith)
known_at (one ∷ known) content zero less is = or_left (bytes_eq content one) (list_any (bytes_eq content) known) ((bytes_eq-Decides content one).1 (sym is))
known_at (one ∷ known) content (suc k) less is = or_right (bytes_eq content one) (list_any (bytes_eq content) known) (known_at known content k (omega arith) is)

-- contents of which none is forgotten
pub keeps_all : (old new : List Content) → Keeps old new → (content : Content) → Contains old content → Contains new content
keeps_all old new keeps content there = known_among new content (keeps content (known_at old content there.0 there.1 there.2))

-- ---- what was meant by the known contents is meant by more
module _ (old new : List Content) (more : (content : Content) → Contains old content → Contains new content) where
  stands_more : (given : Option Stamp) (answer : Answer) → StandsFor old given answer → StandsFor new given answer
  stands_more (Some told) (Holds content) it = (more content it.0, it.1)
  stands_more None Absent it = tt
  stands_more (Some told) Absent it = absurd it
  stands_more None (Holds content) it = absurd it

  answered_more : (asks : List (List ℕ × Option Stamp)) (answers : Asks) → AreAnswered old asks answers → AreAnswered new asks answers
  answered_more [] [] it = tt
  answered_more (ask ∷ asks) (given ∷ answers) it = (it.0, stands_more ask.1 given.1 it.1, answered_more asks answers it.2)
  answered_more [] (given ∷ answers) it = absurd it
  answered_more (ask ∷ asks) [] it = absurd it

  answers_more : (next : Next) (rule : Rule) (running : Running) → Answered next old rule running → Answered next new rule running
  answers_more next rule running it = record { asks = it.asks; stamps = answered_more running.asks it.asks it.stamps; just = it.just }

  pub ends_more : (next : Next) (rule : Rule) (running : Running) (denied : Option (List ℕ × Verdict)) (given : Verdict) (written : List (Names × Stamp))
      → EndsHonestly next old rule running denied given written → EndsHonestly next new rule running denied given written
  unfolding answers_more
  ends_more next rule running (Some denied) given written it = (answers_more next rule running it.0, it.1)
  ends_more next rule running None given written it = (
    answers_more next rule running it.0,
    it.1,
    it.2,
    it.3,
    it.4,
    All-weaker (λ (file : Names × Content). Contains old file.1) (λ (file : Names × Content). Contains new file.1) (λ file had. more file.1 had) _ it.5,
  )

  pub honest_known : (next : Next) (plan : Plan) (before : State) (events : List CoreEvent) → IsHonest next old plan before events → IsHonest next new plan before events
  honest_known next plan before [] honest = tt
  honest_known next plan before (Claim seat rule ∷ events) honest = honest_known next plan (after plan before (Claim seat rule)) events honest
  honest_known next plan before (Ask seat text answer ∷ events) honest = honest_known next plan (after plan before (Ask seat text answer)) events honest
  honest_known next plan before (Deny seat text verdict ∷ events) honest = honest_known next plan (after plan before (Deny seat text verdict)) events honest
  honest_known next plan before (Finish seat given written ∷ events) honest = (
    λ running rule runs. ends_more next rule running running.denied given written (honest.0 running rule runs),
    honest_known next plan (after plan before (Finish seat given written)) events honest.1,
  )
  honest_known next plan before (Stop seat cause ∷ events) honest = honest_known next plan (after plan before (Stop seat cause)) events honest
