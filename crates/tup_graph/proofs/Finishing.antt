-- The good end of a run keeps a kept graph.
use Rattle.std.proofs.Common.{◌≡◌, ◌≢◌, ℕ, Bool, true, false, cond, ◌||◌, is_some, List, [], ◌∷◌, map, fold, slice_get, slice_index_or, Option, None, Some, All, Contains, refl, sym, ap, subst, ◌∙◌}
use Rattle.std.specs.List.{AllByRecursion, IsDistinct}
use Rattle.std.specs.FinMap as finite
use Rattle.std.specs.FinMap.{nat_cmp-IsAntisymmetric}
use Rattle.std.specs.Ordering.{eq_by_cmp, is_eq, nat_cmp}
use Rattle.std.specs.Cmp.{nat_cmp_total}
use Rattle.std.proofs.lemmas.Cmp.{tied_itself}
use Rattle.std.proofs.lemmas.List.Elements.{All-from_recursion, All-contains_itself}
use Rattle.tup_path.specs.Name.{Names, Content}
use Rattle.tup_path.specs.Order.{by_names, same_path, same_path-by_names, by_names-total}
use Rattle.tup_path.proofs.Same.{same_path-decides}
use Rattle.tup_stamp.specs.declared.Stamp.{Stamp}
use Rattle.tup_rule.specs.Rule.{among, writes, declares}
use Rattle.tup_rule.specs.declared.question.Noted.{Noted}
use Rattle.tup_rule.specs.declared.question.Question.{Question}
use Rattle.tup_rule.specs.declared.rule.Rule.{Rule}
use Rattle.tup_runner.specs.Next.{Next}
use Rattle.tup_access.specs.Judge.{judge}
use Rattle.tup_access.proofs.Outputs.{judge-LeavesOutputs}
use Rattle.tup_record.specs.declared.owned.OwnedState.TheVariants.{Written}
use Rattle.tup_record.specs.declared.run.RunRecord.{RunRecord}
use Rattle.tup_graph.specs.declared.owned.Owned.{Owned}
use Rattle.tup_graph.specs.Answers.{tupfile, IsSource, IsAnswer}
use Rattle.tup_graph.specs.Graph.{GraphState, is_flagged, is_owned, source}
use Rattle.tup_graph.specs.Kept.{IsRuleAt, IsUnflagged, Asked, HasSeenStamps, IsKept, EndsWell}
use Rattle.tup_graph.specs.Records.{Language, IsTrueRun}
use Rattle.tup_graph.specs.Transactions.{maker_of, finished}
use Rattle.tup_graph.proofs.Keeping.{has_run, names_of, wrote_output, some_alike, owned_too, made_by}
use Rattle.tup_graph.proofs.Maps.{equal_of}

-- ---- files that are put one after another
module _ {X : Type 0} (value : Names × Stamp → X) where
  -- what a path has at the end, where it had this before
  abbrev later : Names → List (Names × Stamp) → Option X → Option X
  later q [] before = before
  later q (file ∷ files) before = later q files (cond (same_path q file.0) (Some (value file)) before)

  get_later : (files : List (Names × Stamp)) (m : finite.FinMap by_names X) (q : Names) → finite.get (fold (λ m (file : Names × Stamp). finite.insert m file.0 (value file)) m files) q ≡ later q files (finite.get m q)
  get_later [] m q = refl
  get_later (file ∷ files) m q =
      get_later files (finite.insert m file.0 (value file)) q
      ∙ ap (later q files) (finite.get-insert by_names-total m file.0 (value file) q ∙ ap (λ (b : Bool). cond b (Some (value file)) (finite.get m q)) (sym (same_path-by_names q file.0)))

  abbrev named : List (Names × Stamp) → List Names
  named files = map (λ (file : Names × Stamp). file.0) files

  later_other : (files : List (Names × Stamp)) (q : Names) (before : Option X) → among q (named files) ≡ false → later q files before ≡ before
  later_other [] q before other = refl
  later_other (file ∷ files) q before other = by (same_path q file.0) refl other (later_other files q before)
    where
      by : (b : Bool) → same_path q file.0 ≡ b → (b || among q (named files)) ≡ false → (among q (named files) ≡ false → later q files before ≡ before)
          → later q files (cond b (Some (value file)) before) ≡ before
      by true is both more = absurd (let wrong : true ≡ false = both in cc)
      by false is both more = more both

  later_own : (files : List (Names × Stamp)) (q : Names) (before : Option X) → among q (named files) ≡ true → (file : Names × Stamp) × (file.0 ≡ q) × (later q files before ≡ Some (value file))
  later_own [] q before own = absurd (let wrong : false ≡ true = own in cc)
  later_own (file ∷ files) q before own = by (among q (named files)) refl (same_path q file.0) refl own (later_own files q)
    where
      by : (b : Bool) → among q (named files) ≡ b → (a : Bool) → same_path q file.0 ≡ a → (a || b) ≡ true
          → ((had : Option X) → among q (named files) ≡ true → (f : Names × Stamp) × (f.0 ≡ q) × (later q files had ≡ Some (value f)))
          → (f : Names × Stamp) × (f.0 ≡ q) × (later q files (cond a (Some (value file)) before) ≡ Some (value f))
      by true there a is both more = more (cond a (Some (value file)) before) there
      by false none true is both more = (file, sym ((same_path-decides q file.0).0 is), later_other files q (Some (value file)) none)
      by false none false is both more = absurd (let wrong : false ≡ true = both in cc)

  none_among : (q : Names) (paths : List Names) → AllByRecursion (λ path. same_path q path ≡ false) paths → among q paths ≡ false
  none_among q [] all = refl
  none_among q (path ∷ paths) all = rw all.0 (none_among q paths all.1)

  itself : (q : Names) → same_path q q ≡ true
  itself q = (same_path-decides q q).1 refl

  -- where no path stands twice each has its own value
  later_each : (files : List (Names × Stamp)) → IsDistinct same_path (named files) → (before : Names → Option X) → AllByRecursion (λ (file : Names × Stamp). later file.0 files (before file.0) ≡ Some (value file)) files
  unfolding IsDistinct
  later_each [] once before = tt
  later_each (file ∷ files) once before = (
    ap (later file.0 files) (ap (λ (b : Bool). cond b (Some (value file)) (before file.0)) (itself file.0)) ∙ later_other files file.0 (Some (value file)) (none_among file.0 (named files) once.0),
    later_each files once.1 (λ q. cond (same_path q file.0) (Some (value file)) (before q)),
  )

-- ---- numbers
pub same_number : (m n : ℕ) → eq_by_cmp nat_cmp m n ≡ true → m ≡ n
same_number m n is = nat_cmp-IsAntisymmetric m n (equal_of (nat_cmp m n) is)

module _ (next : Next) (language : Language) (known : List Content) (g : GraphState) (kept : IsKept next language known g) (number : ℕ) (rule : Rule) (run : RunRecord) (ends : EndsWell next known g number rule run) where
  abbrev pub now : GraphState
  now = finished g number run

  abbrev owned_as : Names × Stamp → Owned
  owned_as file = record { maker = maker_of g number file.0; state = Written file.1 }

  abbrev stamp_of : Names × Stamp → Stamp
  stamp_of file = file.1

  names : map (λ (file : Names × Stamp). file.0) run.writes ≡ rule.outputs
  names =
      ap (map (λ (file : Names × Stamp). file.0)) (sym ends.honest.files) ∙ names_of (judge rule ends.honest.ended).files
      ∙ (judge-LeavesOutputs rule ends.honest.ended).good ends.honest.good

  own_is : (q : Names) → among q (map (λ (file : Names × Stamp). file.0) run.writes) ≡ writes rule q
  own_is q = ap (among q) names

  seen_now : (q : Names) → finite.get now.seen q ≡ later stamp_of q run.writes (finite.get g.seen q)
  seen_now q = get_later stamp_of run.writes g.seen q

  owned_now : (q : Names) → finite.get now.owned q ≡ later owned_as q run.writes (finite.get g.owned q)
  owned_now q = get_later owned_as run.writes g.owned q

  seen_else : (q : Names) → writes rule q ≡ false → finite.get now.seen q ≡ finite.get g.seen q
  seen_else q other = seen_now q ∙ later_other stamp_of run.writes q (finite.get g.seen q) (own_is q ∙ other)

  owned_else : (q : Names) → writes rule q ≡ false → finite.get now.owned q ≡ finite.get g.owned q
  owned_else q other = owned_now q ∙ later_other owned_as run.writes q (finite.get g.owned q) (own_is q ∙ other)

  mine : (q : Names) → writes rule q ≡ true → (o : Owned) × (finite.get g.owned q ≡ Some o) × (o.maker ≡ Some number)
  mine q own = kept.owners.made number rule q ends.here own

  makers_alike : (q : Names) → made_by (finite.get now.owned q) ≡ made_by (finite.get g.owned q)
  makers_alike q = by (writes rule q) refl
    where
      by : (b : Bool) → writes rule q ≡ b → made_by (finite.get now.owned q) ≡ made_by (finite.get g.owned q)
      by false other = ap made_by (owned_else q other)
      by true own =
          let o = mine q own in
          let found = later_own owned_as run.writes q (finite.get g.owned q) (own_is q ∙ own) in
          ap made_by (owned_now q ∙ found.2) ∙ ap (λ (path : Names). Some (maker_of g number path)) found.1
          ∙ ap (λ (there : Option Owned). Some (elim there [ Some owned ↦ owned.maker | None ↦ Some number ])) o.1 ∙ sym (ap made_by o.1)

  pub owned_alike : (q : Names) → is_owned now q ≡ is_owned g q
  owned_alike q = some_alike (finite.get now.owned q) (finite.get g.owned q) (makers_alike q)

  sources_alike : source now ≡ source g
  sources_alike = λ i q. source_alike q i
    where
      source_alike : (q : Names) → source now q ≡ source g q
      source_alike q = ap (λ (b : Bool). cond b None (finite.get now.seen q)) (owned_alike q) ∙ by (writes rule q) refl
        where
          by : (b : Bool) → writes rule q ≡ b → cond (is_owned g q) None (finite.get now.seen q) ≡ cond (is_owned g q) None (finite.get g.seen q)
          by false other = ap (cond (is_owned g q) None) (seen_else q other)
          by true own =
              let owned : is_owned g q ≡ true = ap is_some (mine q own).1 in
              ap (λ (b : Bool). cond b None (finite.get now.seen q)) owned ∙ sym (ap (λ (b : Bool). cond b None (finite.get g.seen q)) owned)

  -- ---- other rules
  runs_now : (m : ℕ) → finite.get now.runs m ≡ cond (eq_by_cmp nat_cmp m number) (Some run) (finite.get g.runs m)
  runs_now m = finite.get-insert nat_cmp_total g.runs number run m

  flags_now : (m : ℕ) → is_flagged now m ≡ is_some (cond (eq_by_cmp nat_cmp m number) None (finite.get g.flags m))
  flags_now m = ap is_some (finite.get-remove nat_cmp_total g.flags number m)

  same_rule : (m : ℕ) (r : Rule) → m ≡ number → IsRuleAt g m r → r ≡ rule
  same_rule m r same here =
      let both : Some r ≡ Some rule = sym here ∙ ap (slice_get g.rules) same ∙ ends.here in
      cc

  -- a rule that isn't flagged now, and is another one, wasn't flagged before
  was_unflagged : (m : ℕ) (r : Rule) → eq_by_cmp nat_cmp m number ≡ false → IsUnflagged now m r → IsUnflagged g m r
  was_unflagged m r other is = record {
    here = is.here;
    unflagged = sym (flags_now m ∙ ap (λ (b : Bool). is_some (cond b None (finite.get g.flags m))) other) ∙ is.unflagged;
  }

  -- and writes none of the rule's outputs, nor reads one
  not_ours : (m : ℕ) (r : Rule) (path : Names) → IsUnflagged g m r → writes r path ≡ true → writes rule path ≡ false
  not_ours m r path is wrote = by (writes rule path) refl
    where
      by : (b : Bool) → writes rule path ≡ b → b ≡ false
      by false other = refl
      by true own =
          let ours = mine path own in
          let theirs = kept.owners.made m r path is.here wrote in
          let both : Some ours.0 ≡ Some theirs.0 = sym ours.1 ∙ theirs.1 in
          let one : ours.0 ≡ theirs.0 = cc in
          let makers : Some number ≡ Some m = sym ours.2 ∙ ap (λ (o : Owned). o.maker) one ∙ theirs.2 in
          let numbers : number ≡ m = cc in
          let wrong : true ≡ false = sym ends.flagged ∙ ap (is_flagged g) numbers ∙ is.unflagged in
          absurd (cc)

  not_read : (m : ℕ) (r : Rule) (ran : RunRecord) (path : Names) (given : Option Stamp) → IsUnflagged g m r → finite.get g.runs m ≡ Some ran → Contains ran.asks (path, given) → writes rule path ≡ false
  not_read m r ran path given is has asked = by (writes rule path) refl
    where
      by : (b : Bool) → writes rule path ≡ b → b ≡ false
      by false other = refl
      by true own =
          let wrong : true ≡ false = sym (kept.agrees.upward number m rule r ran path given ends.here ends.flagged is.here has asked own) ∙ is.unflagged in
          absurd (cc)

  -- its record, as it is now
  one_run : (m : ℕ) (ran : RunRecord) → eq_by_cmp nat_cmp m number ≡ true → finite.get now.runs m ≡ Some ran → ran ≡ run
  one_run m ran same is =
      let both : Some ran ≡ Some run = sym is ∙ runs_now m ∙ ap (λ (b : Bool). cond b (Some run) (finite.get g.runs m)) same in
      cc

  run_else : (m : ℕ) (ran : RunRecord) → eq_by_cmp nat_cmp m number ≡ false → finite.get now.runs m ≡ Some ran → finite.get g.runs m ≡ Some ran
  run_else m ran other is = sym (runs_now m ∙ ap (λ (b : Bool). cond b (Some run) (finite.get g.runs m)) other) ∙ is

  neither : (m : ℕ) → eq_by_cmp nat_cmp m number ≡ false → m ≢ number
  neither m other same = absurd (let wrong : true ≡ false = sym (ap is_eq (tied_itself nat_cmp_total m)) ∙ ap (eq_by_cmp nat_cmp m) same ∙ other in cc)

  once : IsDistinct same_path (map (λ (file : Names × Stamp). file.0) run.writes)
  once = subst (IsDistinct same_path) (sym names) ends.once

  wrote_seen : All (λ (file : Names × Stamp). finite.get now.seen file.0 ≡ Some file.1) run.writes
  wrote_seen =
      let all = All-from_recursion (λ (file : Names × Stamp). later stamp_of file.0 run.writes (finite.get g.seen file.0) ≡ Some file.1) run.writes (later_each stamp_of run.writes once (λ q. finite.get g.seen q)) in
      λ at d less. seen_now (slice_index_or run.writes at d).0 ∙ all at d less

  wrote_owned : All (λ (file : Names × Stamp). (o : Owned) × (finite.get now.owned file.0 ≡ Some o) × (o.state ≡ Written file.1)) run.writes
  wrote_owned =
      let all = All-from_recursion (λ (file : Names × Stamp). later owned_as file.0 run.writes (finite.get g.owned file.0) ≡ Some (owned_as file)) run.writes (later_each owned_as run.writes once (λ q. finite.get g.owned q)) in
      λ at d less. (let file = slice_index_or run.writes at d in (owned_as file, owned_now file.0 ∙ all at d less, refl))

  -- an ask of the rule's record, as the record of the rule of its number
  our_ask : (m : ℕ) (r : Rule) (ran : RunRecord) (path : Names) (given : Option Stamp) → eq_by_cmp nat_cmp m number ≡ true → IsRuleAt g m r → ran ≡ run → Asked r ran path given → Asked rule run path given
  our_ask m r ran path given same here is asked =
      subst (λ (y : RunRecord). Asked rule y path given) is (subst (λ (x : Rule). Asked x ran path given) (same_rule m r (same_number m number same) here) asked)

  true_now : (m : ℕ) (r : Rule) (ran : RunRecord) → IsRuleAt now m r → finite.get now.runs m ≡ Some ran → (b : Bool) → eq_by_cmp nat_cmp m number ≡ b → IsTrueRun next known r ran
  true_now m r ran here has true same =
      subst (λ (y : RunRecord). IsTrueRun next known r y) (sym (one_run m ran same has))
      (subst (λ (x : Rule). IsTrueRun next known x run) (sym (same_rule m r (same_number m number same) here)) ends.honest)
  true_now m r ran here has false other = kept.records.runs m r ran here (run_else m ran other has)

  recorded_now : (m : ℕ) (r : Rule) → IsUnflagged now m r → (b : Bool) → eq_by_cmp nat_cmp m number ≡ b → (ran : RunRecord) × (finite.get now.runs m ≡ Some ran) × HasSeenStamps now r ran
  recorded_now m r is true same = (
    run,
    runs_now m ∙ ap (λ (b : Bool). cond b (Some run) (finite.get g.runs m)) same,
    record {
      asked = λ path given asked. (let ours = our_ask m r run path given same is.here refl asked in ends.seen path given ours ∙ sym (seen_else path ours.1));
      wrote = wrote_seen;
    },
  )
  recorded_now m r is false other =
      let was = was_unflagged m r other is in
      let k = has_run next language known g kept m r was in (
        k.0,
        runs_now m ∙ ap (λ (b : Bool). cond b (Some run) (finite.get g.runs m)) other ∙ k.1,
        record {
          asked = λ path given asked. k.2.asked path given asked ∙ sym (seen_else path (not_read m r k.0 path given was k.1 asked.0));
          wrote = λ at d less.
              (let file = slice_index_or k.0.writes at d in
              seen_else file.0 (not_ours m r file.0 was (wrote_output next language known g kept m r k.0 file was.here k.1 (All-contains_itself k.0.writes at d less))) ∙ k.2.wrote at d less);
        },
      )

  declared_now : (m : ℕ) (r : Rule) (ran : RunRecord) (path : Names) (given : Option Stamp) → IsUnflagged now m r → finite.get now.runs m ≡ Some ran → Asked r ran path given → is_owned now path ≡ true
      → (b : Bool) → eq_by_cmp nat_cmp m number ≡ b → declares r path ≡ true
  declared_now m r ran path given is has asked own true same =
      subst (λ (x : Rule). declares x path ≡ true) (sym (same_rule m r (same_number m number same) is.here))
      (ends.declared path given (our_ask m r ran path given same is.here (one_run m ran same has) asked) (sym (owned_alike path) ∙ own))
  declared_now m r ran path given is has asked own false other =
      kept.declared m r ran path given (was_unflagged m r other is) (run_else m ran other has) asked (sym (owned_alike path) ∙ own)

  flagged_before : (m : ℕ) → is_flagged now m ≡ true → (b : Bool) → eq_by_cmp nat_cmp m number ≡ b → (b ≡ false) × (is_flagged g m ≡ true)
  flagged_before m flagged true same = absurd (let wrong : false ≡ true = sym (flags_now m ∙ ap (λ (b : Bool). is_some (cond b None (finite.get g.flags m))) same) ∙ flagged in cc)
  flagged_before m flagged false other = (refl, sym (flags_now m ∙ ap (λ (b : Bool). is_some (cond b None (finite.get g.flags m))) other) ∙ flagged)

  upward_now : (m other : ℕ) (r reader : Rule) (ran : RunRecord) (path : Names) (given : Option Stamp) → IsRuleAt g m r → is_flagged now m ≡ true → IsRuleAt g other reader → finite.get now.runs other ≡ Some ran
      → Contains ran.asks (path, given) → writes r path ≡ true → (b : Bool) → eq_by_cmp nat_cmp other number ≡ b → is_flagged now other ≡ true
  upward_now m other r reader ran path given here flagged there has asked wrote true same =
      let before = flagged_before m flagged (eq_by_cmp nat_cmp m number) refl in
      let ours : Contains run.asks (path, given) = subst (λ (y : RunRecord). Contains y.asks (path, given)) (one_run other ran same has) asked in
      absurd (let wrong : true ≡ false = sym before.1 ∙ ends.unflagged path given m r ours here wrote (neither m before.0) in cc)
  upward_now m other r reader ran path given here flagged there has asked wrote false another =
      let before = flagged_before m flagged (eq_by_cmp nat_cmp m number) refl in
      flags_now other ∙ ap (λ (b : Bool). is_some (cond b None (finite.get g.flags other))) another
      ∙ kept.agrees.upward m other r reader ran path given here before.1 there (run_else other ran another has) asked wrote

  written_now : (m : ℕ) (r : Rule) (ran : RunRecord) → IsUnflagged now m r → finite.get now.runs m ≡ Some ran → (b : Bool) → eq_by_cmp nat_cmp m number ≡ b
      → All (λ (file : Names × Stamp). (o : Owned) × (finite.get now.owned file.0 ≡ Some o) × (o.state ≡ Written file.1)) ran.writes
  written_now m r ran is has true same =
      subst (λ (y : RunRecord). All (λ (file : Names × Stamp). (o : Owned) × (finite.get now.owned file.0 ≡ Some o) × (o.state ≡ Written file.1)) y.writes) (sym (one_run m ran same has)) wrote_owned
  written_now m r ran is has false other =
      let was = was_unflagged m r other is in
      let had = run_else m ran other has in
      let all = kept.written m r ran was had in
      λ at d less.
      let file = slice_index_or ran.writes at d in
      let one = all at d less in
      (one.0, owned_else file.0 (not_ours m r file.0 was (wrote_output next language known g kept m r ran file was.here had (All-contains_itself ran.writes at d less))) ∙ one.1, one.2)

  pub finish_keeps : IsKept next language known now
  finish_keeps = record {
    records = record {
      runs = λ m r ran here has. true_now m r ran here has (eq_by_cmp nat_cmp m number) refl;
      readings = kept.records.readings;
    };
    recorded = λ m r is. ap is_some (recorded_now m r is (eq_by_cmp nat_cmp m number) refl).1;
    agrees = record {
      stamps = λ m r ran is has.
          (let found = recorded_now m r is (eq_by_cmp nat_cmp m number) refl in
          let both : Some found.0 ≡ Some ran = sym found.1 ∙ has in
          let one : found.0 ≡ ran = cc in
          subst (HasSeenStamps now r) one found.2);
      read = λ dir there unread. kept.agrees.read dir (subst (λ (s : Names → Option Stamp). IsSource s (tupfile dir)) sources_alike there) unread;
      told = λ dir reading is unread. subst (λ (s : Names → Option Stamp). All (λ (one : Question × Noted). IsAnswer known s g.readings dir one.0 one.1) reading.asked) (sym sources_alike) (kept.agrees.told dir reading is unread);
      upward = λ m other r reader ran path given here flagged there has asked wrote. upward_now m other r reader ran path given here flagged there has asked wrote (eq_by_cmp nat_cmp other number) refl;
    };
    declared = λ m r ran path given is has asked own. declared_now m r ran path given is has asked own (eq_by_cmp nat_cmp m number) refl;
    owners = record {
      made = λ m r path here own.
          (let k = kept.owners.made m r path here own in
          let too = owned_too (finite.get now.owned path) (finite.get g.owned path) (makers_alike path) k.0 k.1 in
          (too.0, too.1, too.2 ∙ k.2));
      makers = λ path o m is by.
          (let too = owned_too (finite.get g.owned path) (finite.get now.owned path) (sym (makers_alike path)) o is in
          kept.owners.makers path too.0 m too.1 (too.2 ∙ by));
    };
    linked = kept.linked;
    written = λ m r ran is has. written_now m r ran is has (eq_by_cmp nat_cmp m number) refl;
  }
