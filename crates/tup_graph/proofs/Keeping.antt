-- A kept graph stays kept where only states of owned paths change, and none that a rule which isn't flagged wrote.
use Rattle.std.proofs.Common.{◌≡◌, ℕ, ◌<◌, Bool, true, false, cond, ◌||◌, is_some, unwrap_or, List, [], ◌∷◌, map, fold, slice_index_or, Option, None, Some, All, Contains, IsSome, refl, sym, ap, ap₂, subst, ◌∙◌}
use Rattle.std.specs.Option.{option_map}
use Rattle.std.specs.FinMap as finite
use Rattle.std.proofs.lemmas.List.{get_or-map, length-map}
use Rattle.std.proofs.lemmas.List.Elements.{All-contains_itself}
use Rattle.std.proofs.lemmas.Bool.{or_parts}
use Rattle.tup_path.specs.Name.{Names, Content}
use Rattle.tup_path.specs.Order.{by_names, same_path, same_path-by_names, by_names-total}
use Rattle.tup_path.proofs.Same.{same_path-decides}
use Rattle.tup_stamp.specs.declared.Stamp.{Stamp}
use Rattle.tup_rule.specs.Rule.{among, writes}
use Rattle.tup_rule.specs.declared.question.Noted.{Noted}
use Rattle.tup_rule.specs.declared.question.Question.{Question}
use Rattle.tup_rule.specs.declared.rule.Rule.{Rule}
use Rattle.tup_rule.proofs.Laws.{among-decides}
use Rattle.tup_runner.specs.Next.{Next}
use Rattle.tup_access.specs.Judge.{judge}
use Rattle.tup_access.proofs.Outputs.{judge-LeavesOutputs}
use Rattle.tup_record.specs.declared.owned.OwnedState.TheVariants.{Unsure}
use Rattle.tup_record.specs.declared.run.RunRecord.{RunRecord}
use Rattle.tup_graph.specs.declared.owned.Owned.{Owned}
use Rattle.tup_graph.specs.Answers.{tupfile, IsSource, IsAnswer}
use Rattle.tup_graph.specs.Graph.{GraphState, is_flagged, is_owned, source, outputs_of}
use Rattle.tup_graph.specs.Kept.{IsRuleAt, IsUnflagged, Asked, HasSeenStamps, IsKept}
use Rattle.tup_graph.specs.Records.{Language, stamped}
use Rattle.tup_graph.specs.Transactions.{maker_of, with_state, begun, unsure_as, with_doomed, with_forgotten}

abbrev pub OwnedPaths : Type 0
OwnedPaths = finite.FinMap by_names Owned

abbrev pub made_by : Option Owned → Option (Option ℕ)
made_by owned = option_map (λ (o : Owned). o.maker) owned

-- the same paths are owned, with the same makers
abbrev pub SameMakers : OwnedPaths → OwnedPaths → Type 0
SameMakers old new = (path : Names) → made_by (finite.get new path) ≡ made_by (finite.get old path)

pub names_of : (files : List (Names × Content)) → map (λ (f : Names × Stamp). f.0) (map stamped files) ≡ map (λ (f : Names × Content). f.0) files
names_of [] = refl
names_of (file ∷ files) = ap (λ (names : List Names). file.0 ∷ names) (names_of files)

contains_name : (files : List (Names × Stamp)) (file : Names × Stamp) → Contains files file → Contains (map (λ (f : Names × Stamp). f.0) files) file.0
contains_name files file there = (
  there.0,
  subst (λ (n : ℕ). there.0 < n) (sym (length-map files (λ (f : Names × Stamp). f.0))) there.1,
  get_or-map (λ (f : Names × Stamp). f.0) files there.0 file file.0 there.1 ∙ ap (λ (f : Names × Stamp). f.0) there.2,
)

pub some_alike : (a b : Option Owned) → made_by a ≡ made_by b → is_some a ≡ is_some b
some_alike None None same = refl
some_alike None (Some b) same = cc
some_alike (Some a) None same = cc
some_alike (Some a) (Some b) same = refl

-- an owned path with a maker is owned with that maker
pub owned_too : (a b : Option Owned) → made_by a ≡ made_by b → (o : Owned) → b ≡ Some o → (other : Owned) × (a ≡ Some other) × (other.maker ≡ o.maker)
owned_too None None same o is = absurd (cc)
owned_too None (Some b) same o is = absurd (cc)
owned_too (Some a) None same o is = absurd (cc)
owned_too (Some a) (Some b) same o is = (a, refl, (let one : a.maker ≡ b.maker = cc in let two : b ≡ o = cc in one ∙ ap (λ (x : Owned). x.maker) two))

-- what may be there is
pub there_is : {X : Type 0} (found : Option X) → IsSome found → (x : X) × (found ≡ Some x)
there_is (Some x) some = (x, refl)
there_is None some = absurd (cc)

module _ (next : Next) (language : Language) (known : List Content) (g : GraphState) (kept : IsKept next language known g) where
  -- a rule that isn't flagged has a record, with the stamps that are seen
  pub has_run : (number : ℕ) (rule : Rule) → IsUnflagged g number rule → (run : RunRecord) × (finite.get g.runs number ≡ Some run) × HasSeenStamps g rule run
  has_run number rule is = let run = there_is (finite.get g.runs number) (kept.recorded number rule is) in (run.0, run.1, kept.agrees.stamps number rule run.0 is run.1)

  -- what a rule that isn't flagged wrote is one of its outputs
  pub wrote_output : (number : ℕ) (rule : Rule) (run : RunRecord) (file : Names × Stamp) → IsRuleAt g number rule → finite.get g.runs number ≡ Some run → Contains run.writes file → writes rule file.0 ≡ true
  wrote_output number rule run file here ran wrote =
      let honest = kept.records.runs number rule run here ran in
      let names : map (λ (f : Names × Stamp). f.0) run.writes ≡ rule.outputs =
      ap (map (λ (f : Names × Stamp). f.0)) (sym honest.files) ∙ names_of (judge rule honest.ended).files
      ∙ (judge-LeavesOutputs rule honest.ended).good honest.good in
      (among-decides file.0 rule.outputs).1 (subst (λ (paths : List Names). Contains paths file.0) names (contains_name run.writes file wrote))

module _ (next : Next) (language : Language) (known : List Content) (g : GraphState) (kept : IsKept next language known g) (owned : OwnedPaths) (same : SameMakers g.owned owned) where
  abbrev changed : GraphState
  changed = record g { owned = owned }

  owned_alike : (path : Names) → is_owned changed path ≡ is_owned g path
  owned_alike path = some_alike (finite.get owned path) (finite.get g.owned path) (same path)

  sources_alike : source changed ≡ source g
  sources_alike = λ i path. cond (owned_alike path i) None (finite.get g.seen path)

  back : (number : ℕ) (rule : Rule) → IsUnflagged changed number rule → IsUnflagged g number rule
  back number rule is = record { here = is.here; unflagged = is.unflagged }

  pub keeps : ((number : ℕ) (rule : Rule) (path : Names) → IsUnflagged g number rule → writes rule path ≡ true → finite.get owned path ≡ finite.get g.owned path) → IsKept next language known changed
  keeps stay = record {
    records = record { runs = kept.records.runs; readings = kept.records.readings };
    recorded = λ number rule is. kept.recorded number rule (back number rule is);
    agrees = record {
      stamps = λ number rule run is ran. (let k = kept.agrees.stamps number rule run (back number rule is) ran in record { asked = k.asked; wrote = k.wrote });
      read = λ dir there unread. kept.agrees.read dir (subst (λ (s : Names → Option Stamp). IsSource s (tupfile dir)) sources_alike there) unread;
      told = λ dir reading is unread. subst (λ (s : Names → Option Stamp). All (λ (one : Question × Noted). IsAnswer known s g.readings dir one.0 one.1) reading.asked) (sym sources_alike) (kept.agrees.told dir reading is unread);
      upward = kept.agrees.upward;
    };
    declared = λ number rule run path given is ran asked mine. kept.declared number rule run path given (back number rule is) ran asked (sym (owned_alike path) ∙ mine);
    owners = record {
      made = λ number rule path here mine.
          (let k = kept.owners.made number rule path here mine in
          let too = owned_too (finite.get owned path) (finite.get g.owned path) (same path) k.0 k.1 in
          (too.0, too.1, too.2 ∙ k.2));
      makers = λ path o number is by.
          (let too = owned_too (finite.get g.owned path) (finite.get owned path) (sym (same path)) o is in
          kept.owners.makers path too.0 number too.1 (too.2 ∙ by));
    };
    linked = kept.linked;
    written = λ number rule run is ran.
        (let unflagged = back number rule is in
        let all = kept.written number rule run unflagged ran in
        λ k d less.
        let file = slice_index_or run.writes k d in
        let one = all k d less in
        (one.0, stay number rule file.0 unflagged (wrote_output next language known g kept number rule run file unflagged.here ran (All-contains_itself run.writes k d less)) ∙ one.1, one.2));
  }

-- ---- the states of a rule's outputs
either_here : (a b : Bool) (s t : Owned) (z : Option Owned) → (a ≡ true → t ≡ s) → cond b (Some s) (cond a (Some t) z) ≡ cond (a || b) (Some s) z
either_here true true s t z same = refl
either_here true false s t z same = ap Some (same refl)
either_here false true s t z same = refl
either_here false false s t z same = refl

module _ (g : GraphState) (number : ℕ) where
  abbrev started : Names → Owned
  started path = record { maker = maker_of g number path; state = Unsure }

  get_states : (paths : List Names) (owned : OwnedPaths) (q : Names) → finite.get (fold (with_state g number Unsure) owned paths) q ≡ cond (among q paths) (Some (started q)) (finite.get owned q)
  get_states [] owned q = refl
  get_states (path ∷ paths) owned q =
      get_states paths (with_state g number Unsure owned path) q
      ∙ ap (cond (among q paths) (Some (started q))) (finite.get-insert by_names-total owned path (started path) q ∙ ap (λ (b : Bool). cond b (Some (started path)) (finite.get owned q)) (sym (same_path-by_names q path)))
      ∙ either_here (same_path q path) (among q paths) (started q) (started path) (finite.get owned q) (λ is. ap started (sym ((same_path-decides q path).0 is)))

  pub same_makers : ((path : Names) → among path (outputs_of g number) ≡ true → (o : Owned) × (finite.get g.owned path ≡ Some o) × (o.maker ≡ Some number)) → SameMakers g.owned (begun g number).owned
  same_makers mine path = by (among path (outputs_of g number)) refl
    where
      by : (b : Bool) → among path (outputs_of g number) ≡ b → made_by (finite.get (begun g number).owned path) ≡ made_by (finite.get g.owned path)
      by true is =
          let o = mine path is in
          ap made_by (get_states (outputs_of g number) g.owned path ∙ ap (λ (b : Bool). cond b (Some (started path)) (finite.get g.owned path)) is)
          ∙ ap (λ (found : Option Owned). Some (elim found [ Some owned ↦ owned.maker | None ↦ Some number ])) o.1 ∙ sym (ap made_by o.1)
      by false is = ap made_by (get_states (outputs_of g number) g.owned path ∙ ap (λ (b : Bool). cond b (Some (started path)) (finite.get g.owned path)) is)

-- a run that begins keeps a kept graph
pub begin_keeps : (next : Next) (language : Language) (known : List Content) (g : GraphState) (number : ℕ) (rule : Rule) → IsKept next language known g → IsRuleAt g number rule → is_flagged g number ≡ true
    → IsKept next language known (begun g number)
begin_keeps next language known g number rule kept here flagged =
    keeps next language known g kept (begun g number).owned (same_makers g number mine) (λ other reader path is wrote. stays other reader path is wrote (among path (outputs_of g number)) refl)
  where
    outputs : outputs_of g number ≡ rule.outputs
    outputs = ap (λ (found : Option Rule). unwrap_or (option_map (λ (r : Rule). r.outputs) found) []) here

    mine : (path : Names) → among path (outputs_of g number) ≡ true → (o : Owned) × (finite.get g.owned path ≡ Some o) × (o.maker ≡ Some number)
    mine path is = kept.owners.made number rule path here (ap (among path) (sym outputs) ∙ is)

    stays : (other : ℕ) (reader : Rule) (path : Names) → IsUnflagged g other reader → writes reader path ≡ true → (b : Bool) → among path (outputs_of g number) ≡ b → finite.get (begun g number).owned path ≡ finite.get g.owned path
    stays other reader path is wrote true own =
        let ours = mine path own in
        let theirs = kept.owners.made other reader path is.here wrote in
        let same : Some ours.0 ≡ Some theirs.0 = sym ours.1 ∙ theirs.1 in
        let one : ours.0 ≡ theirs.0 = cc in
        let makers : Some number ≡ Some other = sym ours.2 ∙ ap (λ (o : Owned). o.maker) one ∙ theirs.2 in
        let number_is : number ≡ other = cc in
        let wrong : true ≡ false = sym flagged ∙ ap (is_flagged g) number_is ∙ is.unflagged in
        absurd (cc)
    stays other reader path is wrote false own = get_states g number (outputs_of g number) g.owned path ∙ ap (λ (b : Bool). cond b (Some (started g number path)) (finite.get g.owned path)) own

-- ---- owned paths without a maker
module _ (g : GraphState) where
  abbrev pub one_unsure : OwnedPaths → Names → OwnedPaths
  one_unsure owned path = unsure_as path (finite.get g.owned path) owned

  get_unsure : (owned : OwnedPaths) (path : Names) (one : Owned) (q : Names)
      → finite.get (unsure_as path (Some one) owned) q ≡ cond (same_path q path) (Some (record { maker = one.maker; state = Unsure })) (finite.get owned q)
  get_unsure owned path one q =
      finite.get-insert by_names-total owned path (record { maker = one.maker; state = Unsure }) q
      ∙ ap (λ (b : Bool). cond b (Some (record { maker = one.maker; state = Unsure })) (finite.get owned q)) (sym (same_path-by_names q path))

  one_doomed : (owned : OwnedPaths) (path : Names) (found : Option Owned) → finite.get g.owned path ≡ found → SameMakers g.owned owned → SameMakers g.owned (unsure_as path found owned)
  one_doomed owned path None is same q = same q
  one_doomed owned path (Some one) is same q = ap made_by (get_unsure owned path one q) ∙ by (same_path q path) refl
    where
      by : (b : Bool) → same_path q path ≡ b → made_by (cond b (Some (record { maker = one.maker; state = Unsure })) (finite.get owned q)) ≡ made_by (finite.get g.owned q)
      by true here = sym (ap made_by (ap (finite.get g.owned) ((same_path-decides q path).0 here) ∙ is))
      by false here = same q

  pub all_doomed : (paths : List Names) (owned : OwnedPaths) → SameMakers g.owned owned → SameMakers g.owned (fold one_unsure owned paths)
  all_doomed [] owned same = same
  all_doomed (path ∷ paths) owned same = all_doomed paths (one_unsure owned path) (one_doomed owned path (finite.get g.owned path) refl same)

  one_stays : (owned : OwnedPaths) (path : Names) (found : Option Owned) (q : Names) → same_path q path ≡ false → finite.get (unsure_as path found owned) q ≡ finite.get owned q
  one_stays owned path None q other = refl
  one_stays owned path (Some one) q other = get_unsure owned path one q ∙ rw other refl

  pub others_stay : (paths : List Names) (owned : OwnedPaths) (q : Names) → among q paths ≡ false → finite.get (fold one_unsure owned paths) q ≡ finite.get owned q
  others_stay [] owned q other = refl
  others_stay (path ∷ paths) owned q other =
      let parts = or_parts (same_path q path) (among q paths) other in
      others_stay paths (one_unsure owned path) q parts.1 ∙ one_stays owned path (finite.get g.owned path) q parts.0

-- paths without a maker that become unsure keep a kept graph
pub doom_keeps : (next : Next) (language : Language) (known : List Content) (g : GraphState) (paths : List Names) → IsKept next language known g
    → ((path : Names) (o : Owned) → among path paths ≡ true → finite.get g.owned path ≡ Some o → o.maker ≡ None) → IsKept next language known (with_doomed g paths)
doom_keeps next language known g paths kept unmade =
    keeps next language known g kept (with_doomed g paths).owned (all_doomed g paths g.owned (λ path. refl)) (λ number rule path is wrote. stays number rule path is wrote (among path paths) refl)
  where
    stays : (number : ℕ) (rule : Rule) (path : Names) → IsUnflagged g number rule → writes rule path ≡ true → (b : Bool) → among path paths ≡ b → finite.get (with_doomed g paths).owned path ≡ finite.get g.owned path
    stays number rule path is wrote true doomed =
        let made = kept.owners.made number rule path is.here wrote in
        let wrong : Some number ≡ None = sym made.2 ∙ unmade path made.0 doomed made.1 in
        absurd (cc)
    stays number rule path is wrote false doomed = others_stay g paths g.owned path doomed

-- ---- paths that are owned no longer
gone_either : {X : Type 0} (a b : Bool) (z : Option X) → cond b None (cond a None z) ≡ cond (a || b) None z
gone_either true true z = refl
gone_either true false z = refl
gone_either false true z = refl
gone_either false false z = refl

pub get_removed : {X : Type 0} (paths : List Names) (m : finite.FinMap by_names X) (q : Names) → finite.get (fold finite.remove m paths) q ≡ cond (among q paths) None (finite.get m q)
get_removed [] m q = refl
get_removed (path ∷ paths) m q =
    get_removed paths (finite.remove m path) q
    ∙ ap (cond (among q paths) None) (finite.get-remove by_names-total m path q ∙ ap (λ (b : Bool). cond b None (finite.get m q)) (sym (same_path-by_names q path)))
    ∙ gone_either (same_path q path) (among q paths) (finite.get m q)

module _ (next : Next) (language : Language) (known : List Content) (g : GraphState) (paths : List Names) (kept : IsKept next language known g) where
  abbrev left : GraphState
  left = with_forgotten g paths

  owned_left : (q : Names) → finite.get left.owned q ≡ cond (among q paths) None (finite.get g.owned q)
  owned_left q = get_removed paths g.owned q

  seen_left : (q : Names) → finite.get left.seen q ≡ cond (among q paths) None (finite.get g.seen q)
  seen_left q = get_removed paths g.seen q

  -- what is still owned was owned so
  still_owned : (q : Names) (o : Owned) → finite.get left.owned q ≡ Some o → finite.get g.owned q ≡ Some o
  still_owned q o is = by (among q paths) (sym (owned_left q) ∙ is)
    where
      by : (b : Bool) → cond b None (finite.get g.owned q) ≡ Some o → finite.get g.owned q ≡ Some o
      by true none = absurd (cc)
      by false same = same

  module _ (unmade : (path : Names) → among path paths ≡ true → (o : Owned) × (finite.get g.owned path ≡ Some o) × (o.maker ≡ None)) where
    sources_left : source left ≡ source g
    sources_left = λ i q. source_left q i
      where
        source_left : (q : Names) → source left q ≡ source g q
        source_left q = ap₂ (λ (o : Option Owned) (s : Option Stamp). cond (is_some o) None s) (owned_left q) (seen_left q) ∙ by (among q paths) refl
          where
            by : (b : Bool) → among q paths ≡ b → cond (is_some (cond b None (finite.get g.owned q))) None (cond b None (finite.get g.seen q)) ≡ source g q
            by true own = sym (ap (λ (o : Option Owned). cond (is_some o) None (finite.get g.seen q)) (unmade q own).1)
            by false other = refl

    -- an output of a rule isn't forgotten
    output_stays : (number : ℕ) (rule : Rule) (path : Names) → IsRuleAt g number rule → writes rule path ≡ true → among path paths ≡ false
    output_stays number rule path here wrote = by (among path paths) refl
      where
        by : (b : Bool) → among path paths ≡ b → b ≡ false
        by true own =
            let made = kept.owners.made number rule path here wrote in
            let none = unmade path own in
            let same : Some made.0 ≡ Some none.0 = sym made.1 ∙ none.1 in
            let one : made.0 ≡ none.0 = cc in
            let wrong : Some number ≡ None = sym made.2 ∙ ap (λ (o : Owned). o.maker) one ∙ none.2 in
            absurd (cc)
        by false other = refl

    output_left : (number : ℕ) (rule : Rule) (path : Names) → IsRuleAt g number rule → writes rule path ≡ true → (finite.get left.owned path ≡ finite.get g.owned path) × (finite.get left.seen path ≡ finite.get g.seen path)
    output_left number rule path here wrote =
        let out = output_stays number rule path here wrote in (
          owned_left path ∙ ap (λ (b : Bool). cond b None (finite.get g.owned path)) out,
          seen_left path ∙ ap (λ (b : Bool). cond b None (finite.get g.seen path)) out,
        )

    unflagged : (number : ℕ) (rule : Rule) → IsUnflagged left number rule → IsUnflagged g number rule
    unflagged number rule is = record { here = is.here; unflagged = is.unflagged }

    pub forget_keeps : ((number : ℕ) (rule : Rule) (run : RunRecord) (path : Names) (given : Option Stamp) → IsUnflagged g number rule → finite.get g.runs number ≡ Some run
        → Asked rule run path given → among path paths ≡ false) → IsKept next language known left
    forget_keeps unread = record {
      records = record { runs = kept.records.runs; readings = kept.records.readings };
      recorded = λ number rule is. kept.recorded number rule (unflagged number rule is);
      agrees = record {
        stamps = stamps;
        read = λ dir there unread_dir. kept.agrees.read dir (subst (λ (s : Names → Option Stamp). IsSource s (tupfile dir)) sources_left there) unread_dir;
        told = λ dir reading is unread_dir. subst (λ (s : Names → Option Stamp). All (λ (one : Question × Noted). IsAnswer known s g.readings dir one.0 one.1) reading.asked) (sym sources_left) (kept.agrees.told dir reading is unread_dir);
        upward = kept.agrees.upward;
      };
      declared = λ number rule run path given is ran asked mine. kept.declared number rule run path given (unflagged number rule is) ran asked (was_owned path (finite.get left.owned path) refl mine);
      owners = record {
        made = λ number rule path here mine. (let k = kept.owners.made number rule path here mine in (k.0, (output_left number rule path here mine).0 ∙ k.1, k.2));
        makers = λ path o number is by. kept.owners.makers path o number (still_owned path o is) by;
      };
      linked = kept.linked;
      written = λ number rule run is ran.
          (let was = unflagged number rule is in
          let all = kept.written number rule run was ran in
          λ at d less.
          let file = slice_index_or run.writes at d in
          let one = all at d less in
          (one.0, (output_left number rule file.0 was.here (wrote_output next language known g kept number rule run file was.here ran (All-contains_itself run.writes at d less))).0 ∙ one.1, one.2));
    }
      where
        stamps : (number : ℕ) (rule : Rule) (run : RunRecord) → IsUnflagged left number rule → finite.get left.runs number ≡ Some run → HasSeenStamps left rule run
        stamps number rule run is ran =
            let was = unflagged number rule is in
            let k = kept.agrees.stamps number rule run was ran in
            record {
              asked = λ path given asked. k.asked path given asked ∙ sym (seen_left path ∙ ap (λ (b : Bool). cond b None (finite.get g.seen path)) (unread number rule run path given was ran asked));
              wrote = λ at d less.
                  (let file = slice_index_or run.writes at d in
                  (output_left number rule file.0 was.here (wrote_output next language known g kept number rule run file was.here ran (All-contains_itself run.writes at d less))).1 ∙ k.wrote at d less);
            }

        was_owned : (path : Names) (found : Option Owned) → finite.get left.owned path ≡ found → is_some found ≡ true → is_owned g path ≡ true
        was_owned path (Some o) is there = ap is_some (still_owned path o is)
        was_owned path None is there = absurd (cc)
