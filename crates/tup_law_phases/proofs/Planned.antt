-- What a kept graph keeps is kept for the core of an update.
use Rattle.std.proofs.Common.{◌≡◌, ◌≢◌, ℕ, zero, suc, ◌<◌, ◌≤◌, true, false, List, [], ◌∷◌, ◌++◌, length, take, Option, Some, None, Contains, IsSome, is_some, slice_get, slice_index_or, option_map, refl, sym, ap, ◌∙◌, subst, append_assoc, append-nil}
use Rattle.std.specs.FinMap as finite
use Rattle.std.proofs.lemmas.Bool.{ltb-true, true≢false}
use Rattle.std.proofs.lemmas.List.Elements.{All-contains_itself}
use Rattle.std.proofs.lemmas.Option.{none-some, same_Some}
use Rattle.tup_path.specs.Name.{Names, Content}
use Rattle.tup_path.specs.Tree.{Tree}
use Rattle.tup_stamp.specs.declared.Stamp.{Stamp}
use Rattle.tup_stamp.specs.Stamp.{stamp}
use Rattle.tup_rule.specs.Rule.{is_generated}
use Rattle.tup_rule.specs.declared.rule.Rule.{Rule}
use Rattle.tup_rule.proofs.Laws.{is_generated-at}
use Rattle.tup_runner.specs.Next.{Next, Asks}
use Rattle.tup_runner.specs.declared.step.Answer.{Answer}
use Rattle.tup_runner.specs.declared.step.Answer.TheVariants.{Content as Holds, Absent}
use Rattle.tup_runner.specs.declared.step.Step.TheVariants.{Ask}
use Rattle.tup_record.specs.declared.run.RunRecord.{RunRecord}
use Rattle.tup_graph.specs.Graph.{GraphState, is_flagged, is_rule}
use Rattle.tup_graph.specs.Kept.{HasSeenStamps, IsKept, IsUnflagged}
use Rattle.tup_graph.specs.Records.{GoesOnAsking, IsStampOf, IsTrueRun, Language, AreRecorded as AreRecordedIn}
use Rattle.tup_graph.specs.declared.owned.Owned.{Owned}
use Rattle.tup_graph.proofs.Keeping.{has_run}
use Rattle.tup_core.specs.Honest.{IsKnown, StandsFor}
use Rattle.tup_core.specs.Kept.{AreRecorded, IsCurrent, IsTrueRecord, Owner, IsKept as IsKeptForCore}
use Rattle.tup_core.specs.Planned.{IsPlanned}
use Rattle.tup_core.specs.Step.{is_reached, opening}
use Rattle.tup_core.specs.declared.plan.Plan.{Plan}
use Rattle.tup_link.specs.Circle.{NoneWaitsForItself}
use Rattle.tup_law_graph.specs.Linking.{LinksReadings}
use Rattle.tup_law_phases.specs.Planning.{kept_of, owner_of}

-- ---- records

module _ (known : List Content) where
  stands : (given : Option Stamp) (answer : Answer) → IsStampOf known given answer → StandsFor known given answer
  stands (Some given) (Holds content) is = is
  stands None Absent is = is
  stands (Some given) Absent is = absurd is
  stands None (Holds content) is = absurd is

  module _ (rule : Rule) where
    recorded : (asks : Asks) (list : List (Names × Option Stamp)) → AreRecordedIn known rule asks list → AreRecorded known rule list asks
    recorded [] [] are = tt
    recorded (ask ∷ asks) (one ∷ list) (named, is, own, are) = (named, stands one.1 ask.1 is, own, recorded asks list are)
    recorded [] (one ∷ list) are = absurd are
    recorded (ask ∷ asks) [] are = absurd are

    as_many : (asks : Asks) (list : List (Names × Option Stamp)) → AreRecordedIn known rule asks list → length asks ≡ length list
    as_many [] [] are = refl
    as_many (ask ∷ asks) (one ∷ list) (named, is, own, are) = ap suc (as_many asks list are)
    as_many [] (one ∷ list) are = absurd are
    as_many (ask ∷ asks) [] are = absurd are

module _ (next : Next) (rule : Rule) where
  goes_on : (before asks : Asks) → GoesOnAsking next rule before asks → (at : ℕ) (ask : List ℕ × Answer) → slice_get asks at ≡ Some ask → next rule.dir rule.text (before ++ take at asks) ≡ Ask ask.0
  goes_on before [] goes at ask here = absurd (none-some ask here)
  goes_on before (first ∷ asks) (here, rest) zero ask is = ap (next rule.dir rule.text) (append-nil before) ∙ here ∙ ap (λ (a : List ℕ × Answer). Ask a.0) (same_Some first ask is)
  goes_on before (first ∷ asks) (here, rest) (suc at) ask is =
      ap (next rule.dir rule.text) (sym (append_assoc before (first ∷ []) (take at asks))) ∙ goes_on (before ++ first ∷ []) asks rest at ask is

true_record : (next : Next) (known : List Content) (rule : Rule) (run : RunRecord) → IsTrueRun next known rule run → IsTrueRecord next known rule run
true_record next known rule run is = record {
  asks = is.asks;
  recorded = recorded known rule is.asks run.asks is.recorded;
  just = record { each = goes_on next rule [] is.asks is.just };
  few = subst (λ (n : ℕ). n ≤ 65535) (as_many known rule is.asks run.asks is.recorded) is.few;
  ended = is.ended;
  ends = is.ends;
  good = is.good;
  leaves = is.files;
  contents = is.known_files;
}

-- ---- owners

is_there : {X Y : Type 0} (f : X → Y) (found : Option X) → IsSome (option_map f found) → is_some found ≡ true
is_there f (Some x) some = refl
is_there f None some = some

there_is : {X Y : Type 0} (f : X → Y) (found : Option X) (y : Y) → option_map f found ≡ Some y → (x : X) × (found ≡ Some x) × (f x ≡ y)
there_is f (Some x) y e = (x, refl, same_Some (f x) y e)
there_is f None y e = absurd (none-some y e)

-- ---- the graph

module _ (next : Next) (language : Language) (known : List Content) (g : GraphState) (kept : IsKept next language known g) where
  current : (at : ℕ) (rule : Rule) → slice_get g.rules at ≡ Some rule → is_flagged g at ≡ false → (run : RunRecord) × (finite.get g.runs at ≡ Some run) × IsCurrent (kept_of g) rule run
  current at rule here off = (
    has.0,
    has.1,
    record {
      asks = λ k d less. (let ask = slice_index_or has.0.asks k d in λ other. has.2.asked ask.0 ask.1 (All-contains_itself has.0.asks k d less, other));
      seen = has.2.wrote;
      declared = λ k d less.
          (let ask = slice_index_or has.0.asks k d in
          λ other some. kept.declared at rule has.0 ask.0 ask.1 unflagged has.1 (All-contains_itself has.0.asks k d less, other) (is_there owner_of (finite.get g.owned ask.0) some));
      written = λ k d less.
          (let one = kept.written at rule has.0 unflagged has.1 k d less in
          (owner_of one.0, ap (option_map owner_of) one.1, one.2));
    },
  )
    where
      unflagged : IsUnflagged g at rule
      unflagged = record { here = here; unflagged = off }

      has : (run : RunRecord) × (finite.get g.runs at ≡ Some run) × HasSeenStamps g rule run
      has = has_run next language known g kept at rule unflagged

  others : (path : Names) (owner : Owner) → option_map owner_of (finite.get g.owned path) ≡ Some owner → is_generated g.rules path ≡ false → owner.maker ≡ None
  others path owner e none = by (there_is owner_of (finite.get g.owned path) owner e)
    where
      made : (owned : Owned) → finite.get g.owned path ≡ Some owned → (maker : Option ℕ) → owned.maker ≡ maker → owned.maker ≡ None
      made owned here None is = is
      made owned here (Some number) is =
          (let by = kept.owners.makers path owned number here is in absurd (true≢false (sym (is_generated-at g.rules path number by.0 by.1 by.2) ∙ none)))

      by : (owned : Owned) × (finite.get g.owned path ≡ Some owned) × (owner_of owned ≡ owner) → owner.maker ≡ None
      by (owned, here, same) = ap (λ (o : Owner). o.maker) (sym same) ∙ made owned here owned.maker refl

  pub core_kept : NoneWaitsForItself g.rules → ((number : ℕ) → is_flagged g number ≡ true → number < length g.rules) → IsKeptForCore next known (kept_of g)
  core_kept acyclic flags = record {
    acyclic = acyclic;
    flags = flags;
    true_records = λ at rule run here ran. true_record next known rule run (kept.records.runs at rule run here ran);
    current = current;
    upward = λ at other rule another run ask here there ran asked wrote flagged. kept.agrees.upward other at another rule run ask.0 ask.1 there flagged here ran asked wrote;
    outputs = λ at rule path here wrote. (let o = kept.owners.made at rule path here wrote in (owner_of o.0, ap (option_map owner_of) o.1, o.2));
    others = others;
  }

  pub kept_for_core : LinksReadings language → ((number : ℕ) → is_flagged g number ≡ true → is_rule g number ≡ true) → IsKeptForCore next known (kept_of g)
  kept_for_core links flags =
      core_kept ((links (finite.entries g.readings) g.rules).0 kept.linked).order (λ number flagged. ltb-true number (length g.rules) (flags number flagged))

  pub planned : LinksReadings language → ((number : ℕ) → is_flagged g number ≡ true → is_rule g number ≡ true) → (tree : Tree) (plan : Plan) (files : List (Names × Stamp)) → ((path : Names) → finite.get g.seen path ≡ option_map stamp (finite.get tree path))
      → ((path : Names) (owned : Owned) → finite.get g.owned path ≡ Some owned → owned.maker ≢ None) → g.rules ≡ plan.rules → ((at : ℕ) → is_reached plan at ≡ is_flagged g at)
      → ((path : Names) → (opening plan files).files path ≡ finite.get g.seen path) → IsKnown known → ((path : Names) (content : Content) → finite.get tree path ≡ Some content → Contains known content)
      → IsPlanned next known (kept_of g) tree plan files
  planned links flags tree plan files seen made rules reach stamps is_known contents = record {
    is_kept = kept_for_core links flags;
    seen = seen;
    made = λ path owner owns none.
        (let owned = there_is owner_of (finite.get g.owned path) owner owns in
        made path owned.0 owned.1 (ap (λ (o : Owner). o.maker) owned.2 ∙ none));
    rules = rules;
    reach = reach;
    stamps = stamps;
    is_known = is_known;
    contents = contents;
  }
