-- What is told by one who answers as far as contents are known.
use Rattle.std.proofs.Common.{◌≡◌, Bool, true, false, cond, [], Option, Some, None, Result, Ok, Err, IsTrue, refl, sym, ap, ◌∙◌, subst}
use Rattle.std.specs.BTreeSet.{contains}
use Rattle.std.specs.FinMap as finite
use Rattle.std.specs.Result.{IfOk}
use Rattle.tup_path.specs.Name.{Names}
use Rattle.tup_path.specs.Order.{by_names, same_path}
use Rattle.tup_path.specs.Tree.{Tree}
use Rattle.tup_path.proofs.Same.{same_path-decides}
use Rattle.tup_rule.specs.declared.question.Kind.TheVariants.{Nothing}
use Rattle.tup_rule.specs.declared.question.Question.{Question}
use Rattle.tup_rule.specs.declared.question.Question.TheVariants as asks
use Rattle.tup_rule.specs.declared.question.Reading.{Reading}
use Rattle.tup_rule.specs.declared.question.Told.{Told}
use Rattle.tup_rule.specs.declared.question.Told.TheVariants as told
use Rattle.tup_vars.specs.Table.{Entries}
use Rattle.tup_query.specs.declared.fault.ParseFault.{ParseFault}
use Rattle.tup_query.specs.Log.{Log, Ran, Halts, Says, StopsAt, fits, noted_log}
use Rattle.tup_tupfile.specs.Read.{IsToldBy}
use Rattle.tup_tupfile.specs.Reading.{reading}
use Rattle.tup_readings.specs.Answers.{Readings, awaited, answer}
use Rattle.tup_readings.specs.Asked.{answer_or_misfit, waits_for}
use Rattle.tup_readings.specs.Readings.{IsReadingOver, IsFaultOver}
use Rattle.tup_readings.specs.Sources.{has_tupfile}
use Rattle.tup_readings.specs.declared.fault.FoldersFault.{FoldersFault}
use Rattle.tup_readings.proofs.Answered.{answer_fits, answered, waits_for-refl}
use Rattle.tup_readings.proofs.Logs.{AllFit, fit_from_start, fit_where_it_stands}
use Rattle.tup_readings.proofs.Stops.{read_over, fault_over}
use Rattle.tup_refresh.specs.declared.asking.Halt.{Halt}
use Rattle.tup_refresh.specs.declared.asking.Halt.TheVariants.{Lacks, Awaits, Memory}
use Rattle.tup_refresh.specs.declared.fetched.Fetched.{Fetched}
use Rattle.tup_refresh.specs.declared.found.Found.{Found}
use Rattle.tup_refresh.specs.declared.found.Found.TheVariants as found
use Rattle.tup_refresh.specs.Asking.{waiting, answer_or_waiting, told_or_misfit, IsHalt, halted_at}
use Rattle.tup_refresh.specs.Found.{HasRead, IsLack, come_of_halt}
use Rattle.tup_refresh.specs.Part.{AreFetched, HasPaths}
use Rattle.tup_refresh.proofs.Outlined.{IsOfPaths, awaited_alike, told_names_alike, told_kind_alike}
use Rattle.tup_refresh.proofs.Waiting.{answer_where_ready, where_waiting, waiting_unfit, one_waited, fits_where_ready}

-- what is kept says why there was no answer
pub halt_is : (outline : Tree) (readings : Readings) (reader : Names) (fetched : Fetched) (question : Question) (halt : Halt) → IsHalt outline readings reader fetched question halt
    → StopsAt (halted_at outline readings reader fetched (Some halt)) question
halt_is outline readings reader fetched question (Lacks path) is = is
halt_is outline readings reader fetched question (Awaits next) is = waits_for-refl outline readings reader next question is
halt_is outline readings reader fetched question Memory is = refl

-- what isn't about a content is told by the paths of the sources
pub told_by_paths : (outline : Tree) (settings : Entries) (readings : Readings) (reader : Names) (fetched : Fetched) (question : Question) (result : Result Told Halt) → IsOfPaths question
    → IfOk result (λ told. told ≡ answer_or_waiting outline settings readings reader question) → IfOk result (λ told. told ≡ told_or_misfit outline settings readings reader fetched question)
told_by_paths outline settings readings reader fetched question result of is = subst (λ (given : Told). IfOk result (λ told. told ≡ given)) (same question of) is
  where
    same : (question : Question) → IsOfPaths question → answer_or_waiting outline settings readings reader question ≡ told_or_misfit outline settings readings reader fetched question
    same (asks.Content path) of = absurd of
    same (asks.Config name) of = refl
    same (asks.Names dir) of = refl
    same (asks.Kind path) of = refl

module _ (sources outline : Tree) (settings : Entries) (readings : Readings) (reader : Names) (fetched : Fetched) (paths : HasPaths sources outline) (are : AreFetched sources fetched) where
  abbrev tells : Question → Told
  tells = told_or_misfit outline settings readings reader fetched

  -- what is told and fits is what the sources tell
  told_so : (question : Question) (given : Told) → tells question ≡ given → fits question given ≡ true → answer_or_misfit sources settings readings reader question ≡ given
  told_so (asks.Content path) given is fit = by (contains by_names fetched.missing path) refl is
    where
      by : (b : Bool) → contains by_names fetched.missing path ≡ b → cond b (told.Kind Nothing) (told.Content (finite.get fetched.contents path)) ≡ given → told.Content (finite.get sources path) ≡ given
      by true on is = let wrong : false ≡ true = ap (fits (asks.Content path)) is ∙ fit in cc
      by false off is = ap (λ c. told.Content c) (sym (are.known path off)) ∙ is
  told_so (asks.Config name) given is fit = is
  told_so (asks.Names dir) given is fit = sym (told_names_alike sources outline paths readings reader settings dir) ∙ fits_where_ready outline settings readings reader (asks.Names dir) given is fit
  told_so (asks.Kind path) given is fit = sym (told_kind_alike sources outline paths readings reader settings path) ∙ fits_where_ready outline settings readings reader (asks.Kind path) given is fit

  says_so : (log : Log) → Says tells log → AllFit log → Says (answer_or_misfit sources settings readings reader) log
  says_so log says fit question given e = told_so question given (says question given e) (fit question given e)

  pub read_so : (left : Reading) (log : Log) → IsToldBy true tells log → Ran [] (reading reader) log (Ok left.drafts) → left.asked ≡ noted_log log
      → IsReadingOver sources settings readings reader left
  read_so left log told ran noted =
      read_over sources settings readings reader left log (λ _. says_so log (told refl) (fit_from_start log (reading reader) (Ok left.drafts) ran)) ran noted

  pub fault_so : (fault : ParseFault) (log : Log) → IsTrue (has_tupfile sources reader) → IsToldBy true tells log → Ran [] (reading reader) log (Err fault)
      → IsFaultOver sources settings readings reader fault
  fault_so fault log has told ran =
      fault_over sources settings readings reader fault log has (λ _. says_so log (told refl) (fit_from_start log (reading reader) (Err fault) ran)) ran

pub lack_if : (fetched : Fetched) (result : Result Found FoldersFault) → ((given : Found) → result ≡ Ok given → IsLack fetched given) → IfOk result (IsLack fetched)
lack_if fetched (Ok given) is = is given refl
lack_if fetched (Err fault) is = tt

-- ---- where one stopped who tells the same after as before

module _ (outline after : Tree) (settings set : Entries) (readings others : Readings) (reader other : Names) (fetched later : Fetched)
    (same : told_or_misfit after set others other later ≡ told_or_misfit outline settings readings reader fetched) where
  alike : (question : Question) → told_or_misfit after set others other later question ≡ told_or_misfit outline settings readings reader fetched question
  alike question = ap (λ (tells : Question → Told). tells question) same

  -- a content that is missing after was before
  pub lacked_before : (path : Names) → contains by_names later.missing path ≡ true → contains by_names fetched.missing path ≡ true
  lacked_before path on = by (contains by_names fetched.missing path) refl (contains by_names later.missing path) on (alike (asks.Content path))
    where
      by : (b : Bool) → contains by_names fetched.missing path ≡ b → (a : Bool) → a ≡ true
          → cond a (told.Kind Nothing) (told.Content (finite.get later.contents path)) ≡ cond b (told.Kind Nothing) (told.Content (finite.get fetched.contents path)) → contains by_names fetched.missing path ≡ true
      by true is a on e = is
      by false is true on e = cc
      by false is false on e = cc

  waits_true : (next : Names) (question : Question) → IsTrue (waits_for after others other next question) → awaited after others other question ≡ Some next
  waits_true next question = by (awaited after others other question)
    where
      by : (found : Option Names) → IsTrue (elim found as (λ _. Bool) [ Some dir ↦ same_path dir next | None ↦ false ]) → found ≡ Some next
      by None h = cc
      by (Some dir) h = ap (λ d. Some d) ((same_path-decides dir next).0 h)

  waits_at : (next : Names) (question : Question) → answer_or_waiting after set others other question ≡ answer_or_waiting outline settings readings reader question
      → awaited after others other question ≡ Some next → awaited outline readings reader question ≡ Some next
  waits_at next question told there = by (awaited outline readings reader question) refl
    where
      here : answer_or_waiting outline settings readings reader question ≡ waiting question next
      here = sym told ∙ where_waiting after set others other question next there

      by : (found : Option Names) → awaited outline readings reader question ≡ found → awaited outline readings reader question ≡ Some next
      by (Some dir) e = e ∙ ap (λ d. Some d) (one_waited question dir next (sym (where_waiting outline settings readings reader question dir e) ∙ here))
      by None e =
          let is : answer outline settings readings reader question ≡ waiting question next = sym (answer_where_ready outline settings readings reader question e) ∙ here in
          let wrong : true ≡ false = sym (answer_fits outline settings readings reader question) ∙ ap (fits question) is ∙ waiting_unfit question next in
          cc

  -- and it waited for the same folder
  pub waited_before : (next : Names) (question : Question) → IsTrue (waits_for after others other next question) → awaited outline readings reader question ≡ Some next
  waited_before next (asks.Content path) at = let wrong = waits_true next (asks.Content path) at in cc
  waited_before next (asks.Config name) at = let wrong = waits_true next (asks.Config name) at in cc
  waited_before next (asks.Names dir) at = waits_at next (asks.Names dir) (alike (asks.Names dir)) (waits_true next (asks.Names dir) at)
  waited_before next (asks.Kind path) at = waits_at next (asks.Kind path) (alike (asks.Kind path)) (waits_true next (asks.Kind path) at)

  -- what came of it
  pub came_so : (sources : Tree) (result : Result Found FoldersFault) (halt : Option Halt) (log : Log) (question : Question) → HasPaths sources outline → AreFetched sources fetched → IsTrue (has_tupfile sources reader)
      → IsToldBy true (told_or_misfit outline settings readings reader fetched) log → StopsAt (halted_at after others other later halt) question → Halts [] (reading reader) log question
      → result ≡ come_of_halt halt → HasRead sources settings readings reader result
  came_so sources result None log question paths are has told at halts is = absurd at
  came_so sources result (Some (Lacks path)) log question paths are has told at halts is = subst (HasRead sources settings readings reader) (sym is) tt
  came_so sources result (Some Memory) log question paths are has told at halts is = subst (HasRead sources settings readings reader) (sym is) tt
  came_so sources result (Some (Awaits next)) log question paths are has told at halts is =
      subst (HasRead sources settings readings reader) (sym is) (record {
        has = has;
        log = log;
        answered = answered sources settings readings reader log (says_so sources outline settings readings reader fetched paths are log (told refl) (fit_where_it_stands log (reading reader) question halts))
            (fit_where_it_stands log (reading reader) question halts);
        question = question;
        halts = halts;
        waits = sym (awaited_alike sources outline paths readings reader question) ∙ waited_before next question at;
      })

  pub lack_so : (result : Result Found FoldersFault) (halt : Option Halt) (question : Question) → StopsAt (halted_at after others other later halt) question → result ≡ come_of_halt halt
      → (given : Found) → result ≡ Ok given → IsLack fetched given
  lack_so result None question at is given e = absurd at
  lack_so result (Some (Lacks path)) question at is given e =
      let same : found.Lacks path ≡ given = the (found.Lacks path) given (sym is ∙ e) in
      subst (IsLack fetched) same (lacked_before path at)
    where
      the : (a b : Found) → ◌≡◌ {A = Result Found FoldersFault} (Ok a) (Ok b) → a ≡ b
      the a b e = cc
  lack_so result (Some (Awaits next)) question at is given e =
      let same : found.Waits next ≡ given = the (found.Waits next) given (sym is ∙ e) in
      subst (IsLack fetched) same tt
    where
      the : (a b : Found) → ◌≡◌ {A = Result Found FoldersFault} (Ok a) (Ok b) → a ≡ b
      the a b e = cc
  lack_so result (Some Memory) question at is given e = let wrong = sym is ∙ e in cc
