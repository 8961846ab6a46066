-- The asks of one line behind those of the lines before it.
use Rattle.std.proofs.Common.{◌≡◌, ◌≢◌, ◌⊎◌, [], ◌∷◌, ◌++◌, List, ℕ, ◌+◌, ◌<◌, length, get_or, drop, map, false, Option, None, Some, Result, Ok, Err, IfOk, IfErr, sym, ap, subst, ◌∙◌, inl, inr}
use Rattle.std.proofs.lemmas.Bool.{false≢true}
use Rattle.std.proofs.lemmas.List.{at_drop_more, append_assoc, map-append}
use Rattle.tup_stamp.specs.declared.Stamp.{Stamp}
use Rattle.tup_proc.specs.declared.line.LogLine.{LogLine}
use Rattle.tup_runner.specs.Next.{Asks}
use Rattle.tup_runner.specs.Refusal.{Refusal}
use Rattle.tup_runner.specs.Run.{RunsAs}
use Rattle.tup_runner.specs.declared.fault.ViewFailed.{ViewFailed}
use Rattle.tup_runner.specs.declared.fault.ViewFailed.TheVariants.{Denied as ViewDenied, Fault as ViewFault}
use Rattle.tup_runner.specs.declared.fault.RunFailed.{RunFailed}
use Rattle.tup_runner.specs.declared.fault.RunFailed.TheVariants.{Denied, View, Fault, Memory}
use Rattle.tup_runner.specs.declared.step.Answer.{Answer}
use Rattle.tup_runner.specs.declared.step.Ended.{Ended}
use Rattle.tup_runner.specs.declared.step.Step.{Step}
use Rattle.tup_proc_runner.specs.declared.fault.ProcFault.{ProcFault}
use Rattle.tup_proc_runner.specs.declared.fault.ProcFault.TheVariants.{BadLog, NoStage}
use Rattle.tup_proc_runner.specs.declared.fault.Refused.{Refused}
use Rattle.tup_proc_runner.specs.declared.fault.Refused.TheVariants.{Memory as NoMemory, Fault as ProgramFault}
use Rattle.tup_proc_runner.specs.Asked.{Said, said_by, said_in, found, shown, AsSaid, Unlike, Unanswered, AsksAs, IsOwn}
use Rattle.tup_proc_runner.specs.Refused.{IsOfRead}
use Rattle.tup_proc_runner.specs.Told.{FollowsLog, told_in, told_of}

-- what was asked so far, each answer as it is said, before what is left of the whole
pub record SoFar (whole left : List Said) (came : Asks → Type 0) (refusal : Option Refusal) : Type 0 where
  pub asks : Asks
  pub came_by : came asks
  pub is : map shown asks ++ left ≡ whole
  pub granted : refusal ≡ None

-- a line is next
pub next_line : (lines : List LogLine) (at : ℕ) (line : LogLine) (whole : List Said) (came : Asks → Type 0) (refusal : Option Refusal) → at < length lines → line ≡ get_or lines at line
    → SoFar whole (said_in (drop at lines)) came refusal → SoFar whole (said_by line ++ said_in (drop (at + 1) lines)) came refusal
next_line lines at line whole came refusal less here far =
    subst (λ (left : List Said). SoFar whole left came refusal)
    (at_drop_more said_in lines at line less ∙ ap (λ (l : LogLine). said_by l ++ said_in (drop (at + 1) lines)) (sym here)) far

-- one text is answered as is said
pub fitting : (text : List ℕ) (digest : Option Stamp) (answer : Answer) (came : Asks → Type 0) (refusal : Option Refusal)
    → found answer ≡ digest → came ((text, answer) ∷ []) → refusal ≡ None → AsSaid ((text, digest) ∷ []) came refusal
fitting text digest answer came refusal is came_by granted = record {
  asks = (text, answer) ∷ [];
  came_by = came_by;
  each = ap (λ (d : Option Stamp). (text, d) ∷ []) is;
  granted = granted;
}

module _ {S : Type 0} (came : S → Asks → S → Type 0) (refusal : S → Option Refusal)
    (goes_on : (first next last : S) (some more : Asks) → came first some next → came next more last → came first (some ++ more) last)
    (first next last : S) (whole some left : List Said) where
  pub as_said_then : SoFar whole (some ++ left) (λ asks. came first asks next) (refusal next) → AsSaid some (λ asks. came next asks last) (refusal last)
      → SoFar whole left (λ asks. came first asks last) (refusal last)
  as_said_then far more = record {
    asks = far.asks ++ more.asks;
    came_by = goes_on first next last far.asks more.asks far.came_by more.came_by;
    is = ap (λ (t : List Said). t ++ left) (map-append shown far.asks more.asks)
        ∙ append_assoc (map shown far.asks) (map shown more.asks) left
        ∙ ap (λ (t : List Said). map shown far.asks ++ (t ++ left)) more.each
        ∙ far.is;
    granted = more.granted;
  }

  -- the whole, where one text of what is next is told apart
  apart : (far : SoFar whole (some ++ left) (λ asks. came first asks next) (refusal next)) (asks : Asks) (one : Said) (rest : List Said) → some ≡ map shown asks ++ one ∷ rest
      → whole ≡ map shown (far.asks ++ asks) ++ one ∷ (rest ++ left)
  apart far asks one rest is =
      sym far.is
      ∙ ap (λ (t : List Said). map shown far.asks ++ (t ++ left)) is
      ∙ ap (λ (t : List Said). map shown far.asks ++ t) (append_assoc (map shown asks) (one ∷ rest) left)
      ∙ sym (append_assoc (map shown far.asks) (map shown asks) (one ∷ (rest ++ left)))
      ∙ ap (λ (t : List Said). t ++ one ∷ (rest ++ left)) (sym (map-append shown far.asks asks))

  pub unlike_then : (text : List ℕ) → SoFar whole (some ++ left) (λ asks. came first asks next) (refusal next) → Unlike some text (λ asks. came next asks last) (refusal last)
      → Unlike whole text (λ asks. came first asks last) (refusal last)
  unlike_then text far more = record {
    asks = far.asks ++ more.asks;
    answer = more.answer;
    digest = more.digest;
    rest = more.rest ++ left;
    came_by = subst (λ (asks : Asks). came first asks last) (sym (append_assoc far.asks more.asks ((text, more.answer) ∷ [])))
        (goes_on first next last far.asks (more.asks ++ (text, more.answer) ∷ []) far.came_by more.came_by);
    is = apart far more.asks (text, more.digest) more.rest more.is;
    unlike = more.unlike;
    granted = more.granted;
  }

  unanswered_then : (why : ViewFailed) → SoFar whole (some ++ left) (λ asks. came first asks next) (refusal next) → Unanswered some (λ asks. came next asks last) (refusal last) why
      → Unanswered whole (λ asks. came first asks last) (refusal last) why
  unanswered_then why far more = record {
    asks = far.asks ++ more.asks;
    last = more.last;
    digest = more.digest;
    rest = more.rest ++ left;
    came_by = goes_on first next last far.asks more.asks far.came_by more.came_by;
    is = apart far more.asks (more.last, more.digest) more.rest more.is;
    refused = more.refused;
  }

  pub refused_then : (fault : RunFailed) → SoFar whole (some ++ left) (λ asks. came first asks next) (refusal next) → AsksAs some (λ asks. came next asks last) (refusal last) (Err fault)
      → AsksAs whole (λ asks. came first asks last) (refusal last) (Err fault)
  refused_then Denied far more = unanswered_then ViewDenied far more
  refused_then View far more = unanswered_then ViewFault far more
  refused_then Fault far more = more
  refused_then Memory far more = more

-- which fault is kept where what the program wrote can't be read
unread_as : (last : Option ProcFault) (refused : Refused) → IsOfRead refused → refused ≢ NoMemory
    → ((fault : ProcFault) → refused ≡ ProgramFault fault → last ≡ Some fault) → (last ≡ Some BadLog) ⊎ (last ≡ Some NoStage)
unread_as last refused (inl (inl memory)) other named = absurd (other memory)
unread_as last refused (inl (inr is)) other named = inl (named BadLog is)
unread_as last refused (inr (inl memory)) other named = absurd (other memory)
unread_as last refused (inr (inr is)) other named = inr (named NoStage is)

-- a run whose answers are all as its log says ends as the stage answers
pub ended_as : (lines : List LogLine) (place : List ℕ → List ℕ) (came : Asks → Type 0) (refusal : Option Refusal) (last : Option ProcFault)
    (answer : Result Ended Refused) (result : Result Ended RunFailed)
    → AsSaid (said_in lines) came refusal → IfOk answer (λ ended. told_of ended ≡ told_in lines) → IfErr answer IsOfRead
    → IfErr result IsOwn → IfOk result (λ ended. answer ≡ Ok ended) → IfOk answer (λ ended. result ≡ Ok ended)
    → (answer ≡ Err NoMemory → result ≡ Err Memory) → ((fault : ProcFault) → answer ≡ Err (ProgramFault fault) → last ≡ Some fault)
    → FollowsLog lines place came refusal last result
ended_as lines place came refusal last answer (Ok ended) said told read own value done memory named =
    (said, subst (λ (a : Result Ended Refused). IfOk a (λ ended. told_of ended ≡ told_in lines)) value told)
ended_as lines place came refusal last answer (Err Denied) said told read own value done memory named = absurd own
ended_as lines place came refusal last answer (Err View) said told read own value done memory named = absurd own
ended_as lines place came refusal last answer (Err Memory) said told read own value done memory named = said.granted
ended_as lines place came refusal last (Ok ended) (Err Fault) said told read own value done memory named = absurd (cc done)
ended_as lines place came refusal last (Err refused) (Err Fault) said told read own value done memory named = inr (record {
  as_said = said;
  named = unread_as last refused read (λ is. absurd (cc (memory (cc is)))) (λ fault is. named fault (cc is));
})

-- a run over a log is a run of a runner that doesn't tell its meaning
pub runs_as : (does : Asks → Step) (lines : List LogLine) (place : List ℕ → List ℕ) (came : Asks → Type 0) (refusal : Option Refusal) (last : Option ProcFault) (result : Result Ended RunFailed)
    → FollowsLog lines place came refusal last result → RunsAs false does came refusal result
runs_as does lines place came refusal last (Ok ended) run = record { asks = run.0.asks; came_by = run.0.came_by; means = λ no. absurd (false≢true no); granted = run.0.granted }
runs_as does lines place came refusal last (Err Denied) run = record { asks = run.asks; last = run.last; came_by = run.came_by; means = λ no. absurd (false≢true no); refused = run.refused }
runs_as does lines place came refusal last (Err View) run = record { asks = run.asks; last = run.last; came_by = run.came_by; means = λ no. absurd (false≢true no); refused = run.refused }
runs_as does lines place came refusal last (Err Fault) run = elim run [
  | inl differing ↦ let some = differing.unlike in
      record { asks = some.asks ++ (differing.text, some.answer) ∷ []; came_by = some.came_by; means = λ no. absurd (false≢true no); granted = some.granted }
  | inr unread ↦ let all = unread.as_said in
      record { asks = all.asks; came_by = all.came_by; means = λ no. absurd (false≢true no); granted = all.granted }
]
runs_as does lines place came refusal last (Err Memory) run = run
