-- What a scan leaves agrees with what it found, and a kept graph stays kept.
use Rattle.std.specs.Prelude.{◌≡◌, ◌⊎◌, ℕ, zero, suc, Bool, true, false, List, Option, None, Some, All, Contains, is_some, option_to_list}
use Rattle.std.proofs.Common.{refl, sym, subst, ◌∙◌, inl, inr, slice_index_or}
use Rattle.std.specs.FinMap as finite
use Rattle.std.proofs.lemmas.Bool.{true≢false}
use Rattle.std.proofs.lemmas.List.Elements.{All-contains, All-contains_itself}
use Rattle.tup_path.specs.Name.{Names, Content}
use Rattle.tup_stamp.specs.declared.Stamp.{Stamp}
use Rattle.tup_rule.specs.Rule.{writes}
use Rattle.tup_rule.specs.declared.question.Noted.{Noted}
use Rattle.tup_rule.specs.declared.question.Question.{Question}
use Rattle.tup_rule.specs.declared.question.Reading.{Reading}
use Rattle.tup_rule.specs.declared.rule.Rule.{Rule}
use Rattle.tup_runner.specs.Next.{Next}
use Rattle.tup_record.specs.declared.run.RunRecord.{RunRecord}
use Rattle.tup_graph.specs.Above.{IsAbove}
use Rattle.tup_graph.specs.Answers.{tupfile, IsSource, IsAnswer}
use Rattle.tup_graph.specs.Graph.{GraphState, is_flagged, is_created, source}
use Rattle.tup_graph.specs.Kept.{IsRuleAt, IsUnflagged, HasSeenStamps, AgreesWithSeen, IsKept}
use Rattle.tup_graph.specs.Records.{Language}
use Rattle.tup_graph.specs.Scan.{BeginsAt, IsScanned}
use Rattle.tup_law_graph.proofs.Answering.{answer_more, answer_stable}
use Rattle.tup_law_graph.proofs.Stable.{same_seen, stable_of}

module _ (g new : GraphState) (files : List (Names × Stamp)) (config : Option Content) (is : IsScanned g files config new) where
  abbrev Root : ℕ → Type 0
  Root = BeginsAt g new

  -- who asked an output of a flagged rule is flagged
  pub scan_upward : (number other : ℕ) (rule reader : Rule) (run : RunRecord) (path : Names) (given : Option Stamp) → IsRuleAt new number rule → is_flagged new number ≡ true
      → IsRuleAt new other reader → finite.get new.runs other ≡ Some run → Contains run.asks (path, given) → writes rule path ≡ true → is_flagged new other ≡ true
  scan_upward number other rule reader run path given here flagged there ran asked wrote = (is.flags other).1 (further ((is.flags number).0 flagged))
    where
      further : IsAbove new Root number → IsAbove new Root other
      further (reads, over) = (suc reads, (number, rule, over, here, (path, (run, given, ran, asked), wrote)))

module _ (known : List Content) (g new : GraphState) (files : List (Names × Stamp)) (config : Option Content) (is : IsScanned g files config new) where
  not_root : (number : ℕ) → is_flagged new number ≡ false → BeginsAt g new number → ⊥
  not_root number unflagged root = true≢false (sym ((is.flags number).1 (zero, root)) ∙ unflagged)

  pub was_unflagged : (number : ℕ) → is_flagged new number ≡ false → is_flagged g number ≡ false
  was_unflagged number unflagged = by (is_flagged g number) refl
    where
      by : (b : Bool) → is_flagged g number ≡ b → b ≡ false
      by true was = absurd (not_root number unflagged (inl was))
      by false was = refl

  stamps : (number : ℕ) (rule : Rule) (run : RunRecord) → IsUnflagged new number rule → finite.get new.runs number ≡ Some run → HasSeenStamps new rule run
  stamps number rule run unflagged ran = record {
    asked = λ path given asked. stable_of (same_seen given (finite.get new.seen path))
        (λ apart. not_root number unflagged.unflagged (inr (inl (rule, run, unflagged.here, ran, inl (path, given, asked, apart)))));
    wrote = λ at d less.
        (let file = slice_index_or run.writes at d in
        sym (stable_of (same_seen (Some file.1) (finite.get new.seen file.0))
        (λ apart. not_root number unflagged.unflagged (inr (inl (rule, run, unflagged.here, ran, inr (file.0, file.1, All-contains_itself run.writes at d less, apart)))))));
  }

  read : (dir : Names) → IsSource (source new) (tupfile dir) → is_created new dir ≡ false → is_some (finite.get new.readings dir) ≡ true
  read dir there unread = by (finite.get new.readings dir) refl
    where
      by : (found : Option Reading) → finite.get new.readings dir ≡ found → is_some found ≡ true
      by (Some reading) here = refl
      by None here = absurd (true≢false (sym ((is.created dir).1 (inr (inl (there, here)))) ∙ unread))

  module _ (knows : All (Contains known) (option_to_list config)) where
    told : (dir : Names) (reading : Reading) → finite.get new.readings dir ≡ Some reading → is_created new dir ≡ false
        → All (λ (one : Question × Noted). IsAnswer known (source new) new.readings dir one.0 one.1) reading.asked
    told dir reading here unread at d less =
        let one = slice_index_or reading.asked at d in
        answer_more (option_to_list config) known (λ content h. All-contains (Contains known) (option_to_list config) content knows h) (source new) new.readings dir one.0 one.1
        (answer_stable config new new.readings dir one.0 one.1
        (λ other. true≢false (sym ((is.created dir).1 (inr (inr (reading, here, inr (one.0, one.1, All-contains_itself reading.asked at d less, other))))) ∙ unread)))

    pub scan_agrees : AgreesWithSeen known new
    scan_agrees = record { stamps = stamps; read = read; told = told; upward = scan_upward g new files config is }

module _ (next : Next) (language : Language) (known : List Content) (g new : GraphState) (files : List (Names × Stamp)) (config : Option Content) (kept : IsKept next language known g) (knows : All (Contains known) (option_to_list config)) (is : IsScanned g files config new) where
  -- the graph that is left, by what it changed
  abbrev after : GraphState
  after = record g { seen = new.seen; created = new.created; flags = new.flags }

  as_left : new ≡ after
  as_left = λ i. record {
    seen = new.seen;
    readings = is.readings i;
    rules = is.rules i;
    places = is.places i;
    runs = is.runs i;
    owned = is.owned i;
    created = new.created;
    flags = new.flags;
  }

  scanned : IsScanned g files config after
  scanned = subst (IsScanned g files config) as_left is

  agrees : AgreesWithSeen known after
  agrees = scan_agrees known g after files config scanned knows

  before : (number : ℕ) (rule : Rule) → IsUnflagged after number rule → IsUnflagged g number rule
  before number rule unflagged = record { here = unflagged.here; unflagged = was_unflagged known g after files config scanned number unflagged.unflagged }

  still_kept : IsKept next language known after
  still_kept = record {
    records = record { runs = kept.records.runs; readings = kept.records.readings };
    recorded = λ number rule unflagged. kept.recorded number rule (before number rule unflagged);
    agrees = agrees;
    declared = λ number rule run path given unflagged. kept.declared number rule run path given (before number rule unflagged);
    owners = record { made = kept.owners.made; makers = kept.owners.makers };
    linked = kept.linked;
    written = λ number rule run unflagged. kept.written number rule run (before number rule unflagged);
  }

  pub scan_keeps : IsKept next language known new
  scan_keeps = subst (IsKept next language known) (sym as_left) still_kept
