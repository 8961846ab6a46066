-- What one who answers told, by what sources and readings answer.
use Rattle.std.proofs.Common.{◌≡◌, Bool, true, false, Option, Some, None, IsTrue, is_some, refl, sym, ap, ◌∙◌}
use Rattle.std.specs.FinMap as finite
use Rattle.tup_path.specs.Name.{Names, Content}
use Rattle.tup_path.specs.Order.{same_path}
use Rattle.tup_path.specs.Tree.{Tree}
use Rattle.tup_path.proofs.Same.{same_path-decides}
use Rattle.tup_rule.specs.declared.question.Question.{Question}
use Rattle.tup_rule.specs.declared.question.Question.TheVariants as asks
use Rattle.tup_rule.specs.declared.question.Told.{Told}
use Rattle.tup_rule.specs.declared.question.Told.TheVariants as told
use Rattle.tup_vars.specs.Table.{Entries}
use Rattle.tup_query.specs.Log.{Log, fits, Says}
use Rattle.tup_readings.specs.Sources.{tupfile, has_tupfile}
use Rattle.tup_readings.specs.Answers.{Readings, awaited, answer}
use Rattle.tup_readings.specs.Asked.{misfit, answer_or_misfit, waits_for}
use Rattle.tup_readings.specs.Readings.{IsAnswered}
use Rattle.tup_readings.proofs.Logs.{AllFit}
use Rattle.tup_readings.proofs.Waits.{awaited_is, one_folder}

-- an answer is of its question's kind
pub answer_fits : (sources : Tree) (settings : Entries) (readings : Readings) (reader : Names) (question : Question) → fits question (answer sources settings readings reader question) ≡ true
answer_fits sources settings readings reader (asks.Content path) = refl
answer_fits sources settings readings reader (asks.Config name) = refl
answer_fits sources settings readings reader (asks.Names dir) = refl
answer_fits sources settings readings reader (asks.Kind path) = refl

-- where an answer waits, what stands in its place is of another kind
unfit : (sources : Tree) (readings : Readings) (reader next : Names) (question : Question) → awaited sources readings reader question ≡ Some next → fits question (misfit question) ≡ false
unfit sources readings reader next (asks.Content path) e = cc
unfit sources readings reader next (asks.Config name) e = cc
unfit sources readings reader next (asks.Names dir) e = refl
unfit sources readings reader next (asks.Kind path) e = refl

-- what is told where no answer waits
pub told_where_ready : (sources : Tree) (settings : Entries) (readings : Readings) (reader : Names) (question : Question) → awaited sources readings reader question ≡ None
    → answer_or_misfit sources settings readings reader question ≡ answer sources settings readings reader question
told_where_ready sources settings readings reader question e =
    ap (λ (next : Option Names). elim next as (λ _. Told) [ Some dir ↦ misfit question | None ↦ answer sources settings readings reader question ]) e

pub told_where_waiting : (sources : Tree) (settings : Entries) (readings : Readings) (reader next : Names) (question : Question) → awaited sources readings reader question ≡ Some next
    → answer_or_misfit sources settings readings reader question ≡ misfit question
told_where_waiting sources settings readings reader next question e =
    ap (λ (next : Option Names). elim next as (λ _. Told) [ Some dir ↦ misfit question | None ↦ answer sources settings readings reader question ]) e

-- what a log says that one told, each answer of its question's kind, is what sources and readings answer
pub answered : (sources : Tree) (settings : Entries) (readings : Readings) (reader : Names) (log : Log) → Says (answer_or_misfit sources settings readings reader) log → AllFit log
    → IsAnswered sources settings readings reader log
answered sources settings readings reader log says fit question told e = by (awaited sources readings reader question) refl
  where
    is : answer_or_misfit sources settings readings reader question ≡ told
    is = says question told e

    by : (next : Option Names) → awaited sources readings reader question ≡ next → (awaited sources readings reader question ≡ None) × (told ≡ answer sources settings readings reader question)
    by None ready = (ready, sym is ∙ told_where_ready sources settings readings reader question ready)
    by (Some next) waits =
        let is_misfit : misfit question ≡ told = sym (told_where_waiting sources settings readings reader next question waits) ∙ is in
        let fitting : fits question (misfit question) ≡ true = ap (fits question) is_misfit ∙ fit question told e in
        let wrong : true ≡ false = sym fitting ∙ unfit sources readings reader next question waits in
        cc

-- what is known of the question at which one stopped
waits_for-true : (sources : Tree) (readings : Readings) (reader next : Names) (question : Question) → IsTrue (waits_for sources readings reader next question)
    → awaited sources readings reader question ≡ Some next
waits_for-true sources readings reader next question = by (awaited sources readings reader question)
  where
    by : (found : Option Names) → IsTrue (elim found as (λ _. Bool) [ Some dir ↦ same_path dir next | None ↦ false ]) → found ≡ Some next
    by None h = cc
    by (Some dir) h = ap (λ d. Some d) ((same_path-decides dir next).0 h)

pub waits_for-refl : (sources : Tree) (readings : Readings) (reader next : Names) (question : Question) → awaited sources readings reader question ≡ Some next
    → IsTrue (waits_for sources readings reader next question)
waits_for-refl sources readings reader next question e =
    ap (λ (found : Option Names). elim found as (λ _. Bool) [ Some dir ↦ same_path dir next | None ↦ false ]) e ∙ (same_path-decides next next).1 refl

-- one who tells the same before and after has the same sources
pub same_sources : (sources after : Tree) (settings set : Entries) (readings read : Readings) (reader other : Names)
    → answer_or_misfit after set read other ≡ answer_or_misfit sources settings readings reader → (path : Names) → finite.get after path ≡ finite.get sources path
same_sources sources after settings set readings read reader other same path =
    let told_same : told.Content (finite.get after path) ≡ told.Content (finite.get sources path) = ap (λ (tells : Question → Told). tells (asks.Content path)) same in
    cc

-- one who tells the same before and after stopped for the same folder at a question
pub waits_as_before : (sources after : Tree) (settings set : Entries) (readings read : Readings) (reader other next : Names) (question : Question)
    → answer_or_misfit after set read other ≡ answer_or_misfit sources settings readings reader → IsTrue (waits_for after read other next question)
    → awaited sources readings reader question ≡ Some next
waits_as_before sources after settings set readings read reader other next question same at = by (awaited sources readings reader question) refl
  where
    waits : awaited after read other question ≡ Some next
    waits = waits_for-true after read other next question at

    is_misfit : answer_or_misfit sources settings readings reader question ≡ misfit question
    is_misfit = sym (ap (λ (tells : Question → Told). tells question) same) ∙ told_where_waiting after set read other next question waits

    by : (found : Option Names) → awaited sources readings reader question ≡ found → awaited sources readings reader question ≡ Some next
    by (Some dir) e =
        let here = awaited_is sources readings reader dir question e in
        let there = awaited_is after read other next question waits in
        let alike : (folder : Names) → has_tupfile sources folder ≡ has_tupfile after folder = λ folder.
        ap (λ (found : Option Content). is_some found) (sym (same_sources sources after settings set readings read reader other same (tupfile folder))) in
        e ∙ ap (λ d. Some d) (one_folder sources after alike question dir next here.0 there.0)
    by None e =
        let is : answer sources settings readings reader question ≡ misfit question = sym (told_where_ready sources settings readings reader question e) ∙ is_misfit in
        let wrong : true ≡ false = sym (answer_fits sources settings readings reader question) ∙ ap (fits question) is ∙ unfit after read other next question waits in
        cc
