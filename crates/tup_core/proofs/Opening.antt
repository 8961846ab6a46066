-- What a planned opening gives: the clean build of its rules over its sources, where rules may read what, and that a
-- rule that isn't to be run is settled where all its declared producers are Good.
use Rattle.std.proofs.Common.{◌≡◌, ℕ, suc, ◌<◌, ◌≤◌, Bool, true, false, cond, not, ◌&&◌, List, [], ◌∷◌, length, map, get_or, Option, None, Some, Ok, is_some, refl, sym, ap, ◌∙◌, subst, inl, inr}
use Rattle.std.specs.Prelude.{slice_get, All, Contains, is_none}
use Rattle.std.specs.FinMap as finite
use Rattle.std.specs.Option.{option_map}
use Rattle.std.proofs.lemmas.Bool.{true≢false, false≢true, cases_Bool, false_from_ne_true}
use Rattle.std.proofs.lemmas.Option.{same_Some, slice_get-get_or, get_or_from_slice_get}
use Rattle.std.proofs.lemmas.List.Elements.{All-nil, All-cons, All-head, All-tail, All-same}
use Rattle.tup_path.specs.Name.{Names, Content}
use Rattle.tup_path.specs.Order.{by_names-antisymmetric}
use Rattle.tup_path.specs.Resolve.{resolve}
use Rattle.tup_path.specs.Tree.{Tree}
use Rattle.tup_stamp.specs.declared.Stamp.{Stamp}
use Rattle.tup_stamp.specs.Stamp.{stamp}
use Rattle.tup_rule.specs.declared.rule.Rule.{Rule}
use Rattle.tup_rule.specs.Rule.{writes, is_generated}
use Rattle.tup_access.proofs.Reading.{may_declared, may_plain}
use Rattle.tup_rule.specs.Producer.{DeclaredProducer}
use Rattle.tup_rule.proofs.Laws.{maker-Some, writes-at, producer-one, producer-trans}
use Rattle.tup_record.specs.declared.run.RunRecord.{RunRecord}
use Rattle.tup_runner.specs.Next.{Next, Asks}
use Rattle.tup_access.specs.Access.{may_read}
use Rattle.tup_access.specs.Judge.{Judged, judge}
use Rattle.tup_access.specs.Verdict.{verdict}
use Rattle.tup_access.proofs.Steps.{verdict_after-End}
use Rattle.tup_clean.specs.AnyOrder.{MakeApart, AreProducersGood, IsWhole}
use Rattle.tup_clean.proofs.Among.{is_generated-maker}
use Rattle.tup_clean.proofs.FilesPut.{each_with}
use Rattle.tup_clean.proofs.Putting.{declared_since}
use Rattle.tup_clean.proofs.OneBuild.{clean_whole}
use Rattle.tup_core.specs.declared.plan.Plan.{Plan}
use Rattle.tup_core.specs.Step.{is_reached, opening}
use Rattle.tup_core.specs.Sound.{HasOneMaker, IsAcyclic}
use Rattle.tup_core.specs.Honest.{AreAnswered, stamped}
use Rattle.tup_core.specs.Kept.{Kept, Owner, AreRecorded, IsTrueRecord, IsCurrent, IsKept}
use Rattle.tup_core.specs.Planned.{IsPlanned, sources_of, clean_of}
use Rattle.tup_core.specs.Settled.{IsSettled}
use Rattle.tup_clean.proofs.Acyclic.{by_producers}
use Rattle.tup_core.proofs.Settled.{IsSameAt, settled_same, each_at, stamped_each, settled_from}
use Rattle.tup_core.proofs.Verdicts.{IsAsOver, as_many, goes_to}

-- ---- what may be read

may_own : (generated declared own : Bool) → own ≡ true → not (generated && not declared && not own) ≡ true
may_own true true true is = refl
may_own true false true is = refl
may_own false declared true is = refl
may_own generated declared false is = absurd (false≢true is)

-- ---- a record, read again over a tree

-- what was recorded of an ask is what the tree has there
pub record IsRead (known : List Content) (rules : List Rule) (tree : Tree) (rule : Rule) (noted : Names × Option Stamp) : Type 0 where
  pub readable : may_read rules rule noted.0 ≡ true
  pub same : noted.1 ≡ option_map stamp (finite.get tree noted.0)
  pub contents : (content : Content) → finite.get tree noted.0 ≡ Some content → Contains known content

-- own outputs aside
abbrev pub ReadsForeign : List Content → List Rule → Tree → Rule → Names × Option Stamp → Type 0
ReadsForeign known rules tree rule noted = writes rule noted.0 ≡ false → IsRead known rules tree rule noted

-- recorded asks with their texts
pub record IsTold (known : List Content) (rules : List Rule) (tree : Tree) (rule : Rule) (recorded : List (Names × Option Stamp)) (asks : Asks) : Type 0 where
  pub seen : List (List ℕ × Option Stamp)
  pub answered : AreAnswered known seen asks
  pub over : All (IsAsOver known rules rule tree) seen
  pub many : length seen ≡ length recorded

told_one : (known : List Content) (rules : List Rule) (tree : Tree) (rule : Rule) (noted : Names × Option Stamp) (text : List ℕ) → resolve rule.dir text ≡ Ok noted.0 → (writes rule noted.0 ≡ true → noted.1 ≡ None) →
    ReadsForeign known rules tree rule noted → IsAsOver known rules rule tree (text, noted.1)
told_one known rules tree rule noted text named own_absent read = record {
  path = noted.0;
  named = named;
  readable = elim (cases_Bool (writes rule noted.0)) [
    | inl own ↦ may_own _ _ _ own
    | inr foreign ↦ (read foreign).readable
  ];
  same = elim (cases_Bool (writes rule noted.0)) [
    | inl own ↦ own_absent own ∙ rw own refl
    | inr foreign ↦ (read foreign).same ∙ rw foreign refl
  ];
  contents = λ foreign. (read foreign).contents;
}

told_over : (known : List Content) (rules : List Rule) (tree : Tree) (rule : Rule) (recorded : List (Names × Option Stamp)) (asks : Asks) → AreRecorded known rule recorded asks →
    All (ReadsForeign known rules tree rule) recorded → IsTold known rules tree rule recorded asks
told_over known rules tree rule [] [] is read = record { seen = []; answered = tt; over = All-nil (IsAsOver known rules rule tree); many = refl }
told_over known rules tree rule [] (ask ∷ asks) is read = absurd is
told_over known rules tree rule (noted ∷ more) [] is read = absurd is
told_over known rules tree rule (noted ∷ more) (ask ∷ asks) (named, stands, own_absent, rest) read =
    let deeper = told_over known rules tree rule more asks rest (All-tail (ReadsForeign known rules tree rule) noted more read) in
    let first = told_one known rules tree rule noted ask.0 named own_absent (All-head (ReadsForeign known rules tree rule) noted more read) in
    record {
      seen = (ask.0, noted.1) ∷ deeper.seen;
      answered = (refl, stands, deeper.answered);
      over = All-cons (IsAsOver known rules rule tree) (ask.0, noted.1) deeper.seen first deeper.over;
      many = ap suc deeper.many;
    }

-- ---- a planned opening

module _ (next : Next) (known : List Content) (kept : Kept) (tree : Tree) (plan : Plan) (files : List (Names × Stamp)) (planned : IsPlanned next known kept tree plan files) where
  -- what is kept, with the plan's rules in it
  kept_here : IsKept next known (record kept { rules = plan.rules })
  kept_here = subst (λ (rules : List Rule). IsKept next known (record kept { rules = rules })) planned.rules planned.is_kept

  pub acyclic : IsAcyclic plan.rules
  acyclic = kept_here.acyclic

  pub apart : MakeApart plan.rules
  apart at other rule another path here there own also =
      let one = kept_here.outputs at rule path here own in
      let two = kept_here.outputs other another path there also in
      let same : one.0 ≡ two.0 = same_Some _ _ (sym one.1 ∙ two.1) in
      same_Some at other (sym one.2 ∙ ap (λ (o : Owner). o.maker) same ∙ two.2)

  pub one_maker : HasOneMaker plan
  one_maker at other rule another path reached here there own also = apart at other rule another path here there own also

  -- a path that no rule makes isn't owned, so it is a source
  unowned : (path : Names) → is_generated plan.rules path ≡ false → kept.owner path ≡ None
  unowned path plain = by (kept.owner path) refl
    where
      by : (o : Option Owner) → kept.owner path ≡ o → kept.owner path ≡ None
      by None is = is
      by (Some owner) is = absurd (planned.made path owner is (kept_here.others path owner is plain))

  source_at : (path : Names) → is_generated plan.rules path ≡ false → finite.get (sources_of kept tree) path ≡ finite.get tree path
  source_at path plain =
      finite.get-retain_keys tree (λ p. is_none (kept.owner p)) path (λ x tied. ap (λ (p : Names). is_none (kept.owner p)) (sym (by_names-antisymmetric path x tied)))
      ∙ ap (λ (o : Option Owner). cond (is_none o) (finite.get tree path) None) (unowned path plain)

  pub elsewhere : (path : Names) → is_generated plan.rules path ≡ false → (opening plan files).files path ≡ option_map stamp (finite.get (sources_of kept tree) path)
  elsewhere path plain = planned.stamps path ∙ planned.seen path ∙ ap (option_map stamp) (sym (source_at path plain))

  pub whole : IsWhole next plan.rules (sources_of kept tree) (clean_of next kept tree plan)
  whole = clean_whole next plan.rules (sources_of kept tree) apart

  -- the clean build leaves it as it is
  pub plain_at : (path : Names) → is_generated plan.rules path ≡ false → finite.get (clean_of next kept tree plan).tree path ≡ finite.get (sources_of kept tree) path
  plain_at path plain = whole.elsewhere path (λ at rule here own. absurd (false≢true (sym (writes-at plan.rules path at rule plain here) ∙ own)))

  -- a path that no rule makes has there what the files have, where they have the source
  pub plain_same : (now : Names → Option Stamp) (path : Names) → is_generated plan.rules path ≡ false → now path ≡ option_map stamp (finite.get (sources_of kept tree) path) →
      IsSameAt known now (clean_of next kept tree plan).tree path
  plain_same now path plain source = record {
    same = source ∙ ap (option_map stamp) (sym (plain_at path plain));
    contents = λ content there. planned.contents path content (sym (source_at path plain) ∙ sym (plain_at path plain) ∙ there);
  }

  -- where a rule may read, files have what the clean build has, if they do so at sources and the makers among its producers are settled
  pub read_same : (now : Names → Option Stamp) (rule : Rule) (path : Names) → may_read plan.rules rule path ≡ true → writes rule path ≡ false →
      (is_generated plan.rules path ≡ false → now path ≡ option_map stamp (finite.get (sources_of kept tree) path)) →
      ((at : ℕ) (producer : Rule) → slice_get plan.rules at ≡ Some producer → DeclaredProducer plan.rules rule at → writes producer path ≡ true → IsSettled known (clean_of next kept tree plan) now at producer) →
      IsSameAt known now (clean_of next kept tree plan).tree path
  read_same now rule path readable foreign plain_so settled =
      elim (cases_Bool (is_generated plan.rules path)) [
        | inr plain ↦ plain_same now path plain (plain_so plain)
        | inl generated ↦
            let made = is_generated-maker plan.rules path generated in
            let found = maker-Some plan.rules path made.0 made.1 in
            let produces : DeclaredProducer plan.rules rule made.0 = producer-one plan.rules rule made.0 (path, declared_since _ _ _ readable generated foreign, made.1) in
            settled_same known (clean_of next kept tree plan) now made.0 found.rule path (settled made.0 found.rule found.here produces found.writes_it) found.writes_it
      ]

  -- ---- a rule that isn't to be run

  -- what an unflagged rule recorded is what the clean build has, if its producers are settled
  module _ (rule : Rule) (at : ℕ) (run : RunRecord) (here : slice_get plan.rules at ≡ Some rule) (unreached : is_reached plan at ≡ false) (has : kept.record_of at ≡ Some run)
      (current : IsCurrent (record kept { rules = plan.rules }) rule run)
      (settled : (other : ℕ) (producer : Rule) → slice_get plan.rules other ≡ Some producer → DeclaredProducer plan.rules rule other → is_reached plan other ≡ false →
      IsSettled known (clean_of next kept tree plan) (opening plan files).files other producer) where
    -- who makes what it asked isn't to be run either
    maker_unreached : (noted : Names × Option Stamp) → Contains run.asks noted → (other : ℕ) (producer : Rule) → slice_get plan.rules other ≡ Some producer → writes producer noted.0 ≡ true → is_reached plan other ≡ false
    maker_unreached noted asked other producer there own =
        false_from_ne_true (is_reached plan other) (λ reached. true≢false (
        sym (kept_here.upward at other rule producer run noted here there has asked own (sym (planned.reach other) ∙ reached))
        ∙ sym (planned.reach at) ∙ unreached))

    read_one : (k : ℕ) (d : Names × Option Stamp) → k < length run.asks → writes rule (get_or run.asks k d).0 ≡ false → IsRead known plan.rules (clean_of next kept tree plan).tree rule (get_or run.asks k d)
    read_one k d below foreign = record { readable = readable; same = current.asks k d below foreign ∙ sym (planned.stamps (get_or run.asks k d).0) ∙ same.same; contents = same.contents }
      where
        asked : Contains run.asks (get_or run.asks k d)
        asked = (k, below, get_or_from_slice_get run.asks k (get_or run.asks k d) (get_or run.asks k d) (slice_get-get_or run.asks k d below))

        readable : may_read plan.rules rule (get_or run.asks k d).0 ≡ true
        readable = elim (cases_Bool (is_generated plan.rules (get_or run.asks k d).0)) [
          | inr plain ↦ may_plain _ _ _ plain
          | inl generated ↦
              let made = is_generated-maker plan.rules (get_or run.asks k d).0 generated in
              let found = maker-Some plan.rules (get_or run.asks k d).0 made.0 made.1 in
              let owned = kept_here.outputs made.0 found.rule (get_or run.asks k d).0 found.here found.writes_it in
              may_declared _ _ _ (current.declared k d below foreign (ap is_some owned.1))
        ]

        same : IsSameAt known (opening plan files).files (clean_of next kept tree plan).tree (get_or run.asks k d).0
        same = read_same (opening plan files).files rule (get_or run.asks k d).0 readable foreign (λ plain. elsewhere (get_or run.asks k d).0 plain)
            (λ other producer there produces own. settled other producer there produces (maker_unreached (get_or run.asks k d) asked other producer there own))

  settle : (at : ℕ) (rule : Rule) → slice_get plan.rules at ≡ Some rule → is_reached plan at ≡ false → AreProducersGood plan.rules (clean_of next kept tree plan).verdicts rule →
      ((other : ℕ) (producer : Rule) → slice_get plan.rules other ≡ Some producer → DeclaredProducer plan.rules rule other → is_reached plan other ≡ false →
      IsSettled known (clean_of next kept tree plan) (opening plan files).files other producer) →
      IsSettled known (clean_of next kept tree plan) (opening plan files).files at rule
  settle at rule here unreached good settled =
      settled_from next known plan.rules (sources_of kept tree) (clean_of next kept tree plan) (opening plan files).files at rule whole here good
      (ap (λ (j : Judged). j.verdict) upto ∙ true_one.good)
      (subst (λ (j : Judged). All (λ (file : Names × Content). Contains known file.1) j.files) (sym upto) true_one.contents)
      stamps
    where
      current_one : (run : RunRecord) × (kept.record_of at ≡ Some run) × IsCurrent (record kept { rules = plan.rules }) rule run
      current_one = kept_here.current at rule here (sym (planned.reach at) ∙ unreached)

      true_one : IsTrueRecord next known rule current_one.0
      true_one = kept_here.true_records at rule current_one.0 here current_one.1

      told : IsTold known plan.rules (clean_of next kept tree plan).tree rule current_one.0.asks true_one.asks
      told = told_over known plan.rules (clean_of next kept tree plan).tree rule current_one.0.asks true_one.asks true_one.recorded (λ k d below. read_one rule at current_one.0 here unreached current_one.1 current_one.2 settled k d below)

      few : length told.seen ≤ 65535
      few = subst (λ (n : ℕ). n ≤ 65535) (sym told.many) true_one.few

      upto : verdict next plan.rules rule (clean_of next kept tree plan).tree ≡ judge rule true_one.ended
      upto =
          goes_to next known plan.rules rule (clean_of next kept tree plan).tree planned.is_known told.seen true_one.asks told.answered told.over true_one.just few
          ∙ verdict_after-End next plan.rules rule (clean_of next kept tree plan).tree true_one.asks true_one.ended
          (subst (λ (n : ℕ). n ≤ 65535) (sym (as_many known told.seen true_one.asks told.answered)) few) true_one.ends

      stamps : (content : Names → Content) → (verdict next plan.rules rule (clean_of next kept tree plan).tree).files ≡ each_with content rule.outputs → (path : Names) → writes rule path ≡ true →
          (opening plan files).files path ≡ Some (stamp (content path))
      stamps content are path own =
          let written : current_one.0.writes ≡ map (λ p. (p, stamp (content p))) rule.outputs
          = sym true_one.leaves ∙ ap (λ (j : Judged). map stamped j.files) (sym upto) ∙ ap (map stamped) are ∙ stamped_each content rule.outputs in
          planned.stamps path
          ∙ each_at (λ (file : Names × Stamp). kept.seen file.0 ≡ Some file.1) (λ p. stamp (content p)) rule.outputs
          (All-same (λ (file : Names × Stamp). kept.seen file.0 ≡ Some file.1) (map (λ p. (p, stamp (content p))) rule.outputs) current_one.0.writes (sym written) current_one.2.seen) path own

  abbrev Unreached : ℕ → Type 0
  Unreached at = (rule : Rule) → slice_get plan.rules at ≡ Some rule → is_reached plan at ≡ false → AreProducersGood plan.rules (clean_of next kept tree plan).verdicts rule →
      IsSettled known (clean_of next kept tree plan) (opening plan files).files at rule

  -- a rule that isn't to be run is settled where all its declared producers are Good
  pub unreached_settled : (at : ℕ) (rule : Rule) → slice_get plan.rules at ≡ Some rule → is_reached plan at ≡ false → AreProducersGood plan.rules (clean_of next kept tree plan).verdicts rule →
      IsSettled known (clean_of next kept tree plan) (opening plan files).files at rule
  unreached_settled at rule here unreached good =
      by_producers plan.rules acyclic Unreached
      (λ place reader there behind its is_here not_reached producers.
      let same : reader ≡ its = same_Some reader its (sym there ∙ is_here) in
      settle place its is_here not_reached producers
      (λ other producer producer_here produces producer_unreached.
      behind other (subst (λ (r : Rule). DeclaredProducer plan.rules r other) (sym same) produces) producer producer_here producer_unreached
      (λ further beyond. producers further (producer-trans plan.rules its producer other further produces producer_here beyond))))
      at rule here rule here unreached good
