-- The reading of a folder over sources is a true record of it.
use Rattle.std.proofs.Common.{◌≡◌, ◌⊎◌, inl, inr, suc, true, cond, ◌&&◌, List, [], ◌∷◌, ◌++◌, Option, Some, None, Result, Ok, Err, IsTrue, refl, sym, ap, ◌∙◌, subst, arith, append_assoc}
use Rattle.std.specs.Prelude.{bytes_eq}
use Rattle.std.specs.FinMap as finite
use Rattle.std.specs.List.{All, Contains, list_any}
use Rattle.std.proofs.lemmas.Bool.{or_cases}
use Rattle.std.proofs.lemmas.List.Elements.{All-nil, All-push, All-head, All-tail}
use Rattle.std.proofs.lemmas.Slice.Eq.{bytes_eq-Decides}
use Rattle.tup_path.specs.Name.{Names, Content}
use Rattle.tup_path.specs.Order.{by_names}
use Rattle.tup_path.specs.Tree.{Tree}
use Rattle.tup_site.specs.Known.{knows, KnowsTree}
use Rattle.tup_rule.specs.declared.draft.Draft.{Draft}
use Rattle.tup_rule.specs.declared.question.Question.{Question}
use Rattle.tup_rule.specs.declared.question.Question.TheVariants as asks
use Rattle.tup_rule.specs.declared.question.Reading.{Reading}
use Rattle.tup_rule.specs.declared.question.Told.{Told}
use Rattle.tup_rule.specs.declared.question.Told.TheVariants as told
use Rattle.tup_vars.specs.Table.{Entries}
use Rattle.tup_vars.specs.declared.fault.ConfigFault.{ConfigFault}
use Rattle.tup_query.specs.declared.fault.ParseFault.{ParseFault}
use Rattle.tup_query.specs.Log.{Log, fits, told_before, Ran, Halts}
use Rattle.tup_query.specs.Reads.{Reads, Ends, Asks}
use Rattle.tup_query.proofs.Runs.{told_new, ran_keeps}
use Rattle.tup_tupfile.specs.Reading.{reading}
use Rattle.tup_readings.specs.Answers.{Readings, answer}
use Rattle.tup_readings.specs.Readings.{IsReadingOver, AreReadWith, IsOutcome}
use Rattle.tup_readings.specs.Sources.{settings_of}
use Rattle.tup_readings.proofs.Alike.{halts_keeps}
use Rattle.tup_readings.proofs.Logs.{one_step, fit_from_start, fit_where_it_stands}
use Rattle.tup_readings.proofs.One.{reading_in}
use Rattle.tup_graph.specs.Records.{Language, GoesOnReading, IsToldKnown, IsTrueReading}
use Rattle.tup_refresh.specs.Language.{known_or, stands_at, all_fit, ReadsTupfiles}
use Rattle.tup_refresh.proofs.Halting.{halted_from_start}

-- ---- all entries of a log

module _ (P : Question × Told → Type 0) where
  -- what holds of each question that is told at a run's end holds of each entry
  pub ran_all : {F A : Type 0} (log after : Log) (reads : Reads F A) (end : Result A F) → ((question : Question) (given : Told) → told_before after question ≡ Some given → P (question, given)) → Ran log reads after end → All P log → All P after
  ran_all log after (Ends result) end each (same, is) all = subst (All P) (sym same) all
  ran_all log after (Asks asked goes_on) end each ran all =
      one_step asked (λ t. Ran log (goes_on t) after end) (λ t. Ran (log ++ (asked, t) ∷ []) (goes_on t) after end) (told_before log asked) ran
      (λ t is more. ran_all log after (goes_on t) end each more all)
      (λ t is fit more.
      ran_all (log ++ (asked, t) ∷ []) after (goes_on t) end each more
      (All-push P log (asked, t) all (each asked t (ran_keeps (log ++ (asked, t) ∷ []) after (goes_on t) end asked t more (told_new log asked t is)))))

  halts_all : {F A : Type 0} (log after : Log) (reads : Reads F A) (question : Question) → ((question : Question) (given : Told) → told_before after question ≡ Some given → P (question, given)) → Halts log reads after question → All P log → All P after
  halts_all log after (Ends result) question each halts all = absurd halts
  halts_all log after (Asks asked goes_on) question each (inl here) all = subst (All P) (sym here.2) all
  halts_all log after (Asks asked goes_on) question each (inr halts) all =
      one_step asked (λ t. Halts log (goes_on t) after question) (λ t. Halts (log ++ (asked, t) ∷ []) (goes_on t) after question) (told_before log asked) halts
      (λ t is more. halts_all log after (goes_on t) question each more all)
      (λ t is fit more.
      halts_all (log ++ (asked, t) ∷ []) after (goes_on t) question each more
      (All-push P log (asked, t) all (each asked t (halts_keeps (log ++ (asked, t) ∷ []) after (goes_on t) question asked t more (told_new log asked t is)))))

abbrev Fits : Question × Told → Type 0
Fits entry = fits entry.0 entry.1 ≡ true

fit_test : (log : Log) → All Fits log → all_fit log ≡ true
fit_test [] all = refl
fit_test (entry ∷ log) all = ap (λ b. b && all_fit log) (All-head Fits entry log all) ∙ fit_test log (All-tail Fits entry log all)

-- ---- where a process stands

-- at its end
ran_stands : {A : Type 0} (log after : Log) (reads : Reads ParseFault A) (value : A) → Ran log reads after (Ok value) → stands_at after reads ≡ Some (inr value)
ran_stands log after (Ends (Ok given)) value (same, is) = let v : value ≡ given = cc in ap (λ x. Some (inr x)) (sym v)
ran_stands log after (Ends (Err fault)) value (same, is) = cc
ran_stands log after (Asks asked goes_on) value ran =
    one_step asked (λ t. Ran log (goes_on t) after (Ok value)) (λ t. Ran (log ++ (asked, t) ∷ []) (goes_on t) after (Ok value)) (told_before log asked) ran
    (λ t is more.
    ap (λ (found : Option Told). known_or found (λ given. stands_at after (goes_on given)) (Some (inl asked))) (ran_keeps log after (goes_on t) (Ok value) asked t more is)
    ∙ ran_stands log after (goes_on t) value more)
    (λ t is fit more.
    ap (λ (found : Option Told). known_or found (λ given. stands_at after (goes_on given)) (Some (inl asked)))
    (ran_keeps (log ++ (asked, t) ∷ []) after (goes_on t) (Ok value) asked t more (told_new log asked t is))
    ∙ ran_stands (log ++ (asked, t) ∷ []) after (goes_on t) value more)

-- at a question
halts_stands : {A : Type 0} (log after : Log) (reads : Reads ParseFault A) (question : Question) → Halts log reads after question → stands_at after reads ≡ Some (inl question)
halts_stands log after (Ends result) question halts = absurd halts
halts_stands log after (Asks asked goes_on) question (inl here) =
    ap (λ (found : Option Told). known_or found (λ given. stands_at after (goes_on given)) (Some (inl asked))) (ap (λ l. told_before l asked) here.2 ∙ here.1)
    ∙ ap (λ q. Some (inl q)) (sym here.0)
halts_stands log after (Asks asked goes_on) question (inr halts) =
    one_step asked (λ t. Halts log (goes_on t) after question) (λ t. Halts (log ++ (asked, t) ∷ []) (goes_on t) after question) (told_before log asked) halts
    (λ t is more.
    ap (λ (found : Option Told). known_or found (λ given. stands_at after (goes_on given)) (Some (inl asked))) (halts_keeps log after (goes_on t) question asked t more is)
    ∙ halts_stands log after (goes_on t) question more)
    (λ t is fit more.
    ap (λ (found : Option Told). known_or found (λ given. stands_at after (goes_on given)) (Some (inl asked)))
    (halts_keeps (log ++ (asked, t) ∷ []) after (goes_on t) question asked t more (told_new log asked t is))
    ∙ halts_stands (log ++ (asked, t) ∷ []) after (goes_on t) question more)

-- ---- known contents

-- a known content is among them
pub known_among : (known : List Content) (content : Content) → IsTrue (knows known content) → Contains known content
known_among [] content e = cc
known_among (one ∷ known) content e = elim (or_cases (bytes_eq content one) (list_any (bytes_eq content) known) e) [
  | inl same ↦ (0, omega arith, sym ((bytes_eq-Decides content one).0 same))
  | inr later ↦
      let there = known_among known content later in
      let less = there.1 in
      (suc there.0, omega arith, there.2)
]

-- ---- records

module _ (language : Language) (known : List Content) (sources : Tree) (settings : Entries) (readings : Readings) (dir : Names) (reads : ReadsTupfiles language) (tree : KnowsTree known sources) where
  -- an answer tells known contents alone
  answer_known : (question : Question) → IsToldKnown known (answer sources settings readings dir question)
  answer_known (asks.Content path) = by (finite.get sources path) refl
    where
      by : (found : Option Content) → finite.get sources path ≡ found → IsToldKnown known (told.Content found)
      by None e = tt
      by (Some content) e = known_among known content (tree path content e)
  answer_known (asks.Config name) = tt
  answer_known (asks.Names folder) = tt
  answer_known (asks.Kind path) = tt

  next_at : (log : Log) (next : Question ⊎ List Draft) → all_fit log ≡ true → stands_at log (reading dir) ≡ Some next → language.next dir log ≡ Some next
  next_at log next fit stands = reads dir log ∙ ap (λ b. cond b (stands_at log (reading dir)) None) fit ∙ stands

  module _ (left : Reading) (is : IsReadingOver sources settings readings dir left) where
    goes_so : (before more : Log) → is.log ≡ before ++ more → GoesOnReading language dir before more
    goes_so before [] e = tt
    goes_so before (one ∷ more) e = (
      next_at before (inl one.0)
          (fit_test before (halts_all Fits [] before (reading dir) one.0 (fit_where_it_stands before (reading dir) one.0 halts) halts (All-nil Fits)))
          (halts_stands [] before (reading dir) one.0 halts),
      goes_so (before ++ one ∷ []) more (e ∙ sym (append_assoc before (one ∷ []) more)),
    )
      where
        halts : Halts [] (reading dir) before one.0
        halts = halted_from_start is.log (reading dir) (Ok left.drafts) before more one is.ran e

    pub true_record : IsTrueReading language known dir left
    true_record = record {
      told_so = is.log;
      recorded = sym is.noted;
      contents = ran_all (λ (one : Question × Told). IsToldKnown known one.1) [] is.log (reading dir) (Ok left.drafts)
          (λ question given e. subst (IsToldKnown known) (sym (is.answered question given e).1) (answer_known question)) is.ran (All-nil (λ (one : Question × Told). IsToldKnown known one.1));
      just = goes_so [] is.log refl;
      leaves = next_at is.log (inr left.drafts)
          (fit_test is.log (ran_all Fits [] is.log (reading dir) (Ok left.drafts) (fit_from_start is.log (reading dir) (Ok left.drafts) is.ran) is.ran (All-nil Fits)))
          (ran_stands [] is.log (reading dir) left.drafts is.ran);
    }

-- what reading all folders gives is true records
pub all_true_records : (language : Language) (known : List Content) (sources : Tree) (all : List (Names × Reading)) (dir : Names) (left : Reading) → ReadsTupfiles language → KnowsTree known sources → IsOutcome sources (Ok all)
    → finite.get (finite.from_sorted {R = by_names} all) dir ≡ Some left → IsTrueReading language known dir left
all_true_records language known sources all dir left reads tree outcome there = by (settings_of sources) outcome
  where
    by : (found : Result Entries ConfigFault) → AreReadWith sources found (Ok all) → IsTrueReading language known dir left
    by (Ok settings) read =
        let at = reading_in sources settings (finite.from_sorted all) read.1.some dir left there in
        true_record language known sources settings at.before dir reads tree left at.over
    by (Err fault) (inl e) = cc
    by (Err fault) (inr e) = cc
