-- What the begin and the good end of one rule make of a graph, rule by rule.
use Rattle.std.proofs.Common.{◌≡◌, ◌≢◌, ℕ, Bool, true, false, cond, is_some, List, [], ◌∷◌, map, Option, None, Some, refl, sym, ap, ◌∙◌, inl}
use Rattle.std.specs.Prelude.{Contains, slice_get, unwrap_or}
use Rattle.std.specs.FinMap as finite
use Rattle.std.specs.FinMap.{nat_cmp-IsAntisymmetric}
use Rattle.std.specs.Ordering.{eq_by_cmp, is_eq, nat_cmp}
use Rattle.std.specs.Cmp.{nat_cmp_total}
use Rattle.std.specs.Option.{option_map}
use Rattle.std.proofs.lemmas.Cmp.{tied_itself}
use Rattle.tup_path.specs.Name.{Names}
use Rattle.tup_stamp.specs.declared.Stamp.{Stamp}
use Rattle.tup_rule.specs.declared.rule.Rule.{Rule}
use Rattle.tup_rule.specs.Rule.{among, writes}
use Rattle.tup_record.specs.declared.owned.OwnedState.TheVariants.{Unsure, Written}
use Rattle.tup_record.specs.declared.run.RunRecord.{RunRecord}
use Rattle.tup_graph.specs.declared.owned.Owned.{Owned}
use Rattle.tup_graph.specs.Graph.{GraphState, is_flagged, outputs_of}
use Rattle.tup_graph.specs.Transactions.{maker_of, begun, finished}
use Rattle.tup_graph.proofs.Maps.{equal_of, not_true}
use Rattle.tup_board.specs.Come.{HasOf}
use Rattle.tup_board.proofs.Folds.{get_apart, get_own, get_same}

same_paths : (paths : List Names) → map (λ (path : Names). path) paths ≡ paths
same_paths [] = refl
same_paths (path ∷ paths) = ap (λ (more : List Names). path ∷ more) (same_paths paths)

-- ---- numbers
number_apart : (m n : ℕ) → m ≢ n → eq_by_cmp nat_cmp m n ≡ false
number_apart m n differ = not_true (eq_by_cmp nat_cmp m n) (λ same. differ (nat_cmp-IsAntisymmetric m n (equal_of (nat_cmp m n) same)))

number_itself : (n : ℕ) → eq_by_cmp nat_cmp n n ≡ true
number_itself n = ap is_eq (tied_itself nat_cmp_total n)

-- ---- the outputs of a rule in a graph

-- who makes an output of a rule, by what owns it
abbrev pub maker_in : ℕ → Option Owned → Option ℕ
maker_in number o = elim o [ Some owned ↦ owned.maker | None ↦ Some number ]

module _ (g : GraphState) (number : ℕ) (rule : Rule) (here : slice_get g.rules number ≡ Some rule) where
  abbrev unsure : Names → Owned
  unsure path = record { maker = maker_of g number path; state = Unsure }

  pub outputs_are : outputs_of g number ≡ rule.outputs
  outputs_are = ap (λ (o : Option Rule). unwrap_or (option_map (λ (r : Rule). r.outputs) o) []) here

  own_is : (q : Names) → among q (map (λ (path : Names). path) (outputs_of g number)) ≡ writes rule q
  own_is q = ap (among q) (same_paths (outputs_of g number) ∙ outputs_are)

  -- once its run began
  pub begun_else : (q : Names) → writes rule q ≡ false → finite.get (begun g number).owned q ≡ finite.get g.owned q
  begun_else q other = get_apart (λ (path : Names). path) unsure (outputs_of g number) g.owned q (own_is q ∙ other)

  pub begun_own : (q : Names) → writes rule q ≡ true → finite.get (begun g number).owned q ≡ Some (unsure q)
  begun_own q own =
      let found = get_own (λ (path : Names). path) unsure (outputs_of g number) g.owned q (own_is q ∙ own) in
      found.2 ∙ ap (λ (path : Names). Some (unsure path)) found.1

  pub begun_maker : (q : Names) → maker_of (begun g number) number q ≡ maker_of g number q
  begun_maker q = by (writes rule q) refl
    where
      by : (b : Bool) → writes rule q ≡ b → maker_of (begun g number) number q ≡ maker_of g number q
      by true own = ap (maker_in number) (begun_own q own)
      by false other = ap (maker_in number) (begun_else q other)

  -- and once it ended with a record
  module _ (run : RunRecord) (names : map (λ (file : Names × Stamp). file.0) run.writes ≡ rule.outputs) where
    abbrev file_named : Names × Stamp → Names
    file_named file = file.0

    abbrev owned_as : Names × Stamp → Owned
    owned_as file = record { maker = maker_of g number file.0; state = Written file.1 }

    abbrev stamp_as : Names × Stamp → Stamp
    stamp_as file = file.1

    wrote_is : (q : Names) → among q (map file_named run.writes) ≡ writes rule q
    wrote_is q = ap (among q) names

    pub finished_owned : (q : Names) → writes rule q ≡ false → finite.get (finished g number run).owned q ≡ finite.get g.owned q
    finished_owned q other = get_apart file_named owned_as run.writes g.owned q (wrote_is q ∙ other)

    pub finished_seen : (q : Names) → writes rule q ≡ false → finite.get (finished g number run).seen q ≡ finite.get g.seen q
    finished_seen q other = get_apart file_named stamp_as run.writes g.seen q (wrote_is q ∙ other)

    pub finished_run : (m : ℕ) → finite.get (finished g number run).runs m ≡ cond (eq_by_cmp nat_cmp m number) (Some run) (finite.get g.runs m)
    finished_run m = finite.get-insert nat_cmp_total g.runs number run m

    pub finished_flag : (m : ℕ) → is_flagged (finished g number run) m ≡ is_some (cond (eq_by_cmp nat_cmp m number) None (finite.get g.flags m))
    finished_flag m = ap is_some (finite.get-remove nat_cmp_total g.flags number m)

    pub run_else : (m : ℕ) → m ≢ number → finite.get (finished g number run).runs m ≡ finite.get g.runs m
    run_else m other = finished_run m ∙ ap (λ (b : Bool). cond b (Some run) (finite.get g.runs m)) (number_apart m number other)

    pub flag_else : (m : ℕ) → m ≢ number → is_flagged (finished g number run) m ≡ is_flagged g m
    flag_else m other = finished_flag m ∙ ap (λ (b : Bool). is_some (cond b None (finite.get g.flags m))) (number_apart m number other)

    pub flag_here : is_flagged (finished g number run) number ≡ false
    flag_here = finished_flag number ∙ ap (λ (b : Bool). is_some (cond b None (finite.get g.flags number))) (number_itself number)

    run_here : finite.get (finished g number run).runs number ≡ Some run
    run_here = finished_run number ∙ ap (λ (b : Bool). cond b (Some run) (finite.get g.runs number)) (number_itself number)

    pub written_own : (q : Names) → writes rule q ≡ true → (file : Names × Stamp) × (file.0 ≡ q) × (finite.get (finished g number run).owned q ≡ Some (owned_as file)) × Contains run.writes file
    written_own q own = get_own file_named owned_as run.writes g.owned q (wrote_is q ∙ own)

    pub finished_maker : (q : Names) → writes rule q ≡ true → maker_of (finished g number run) number q ≡ maker_of g number q
    finished_maker q own =
        let found = get_own file_named owned_as run.writes g.owned q (wrote_is q ∙ own) in
        ap (λ (o : Option Owned). elim o [ Some owned ↦ owned.maker | None ↦ Some number ]) found.2 ∙ ap (λ (path : Names). maker_of g number path) found.1

    -- ---- two graphs in which the same rule ended with the same record have the same of it, where the outputs have the same makers
    module _ (f : GraphState) (there : slice_get f.rules number ≡ Some rule) (makers : (q : Names) → writes rule q ≡ true → maker_of g number q ≡ maker_of f number q) where
      file_own : (q : Names) → writes rule q ≡ true → among q (map file_named run.writes) ≡ true
      file_own q own = wrote_is q ∙ own

      same_owned : (q : Names) → writes rule q ≡ true → finite.get (finished g number run).owned q ≡ finite.get (finished f number run).owned q
      same_owned q own =
          get_same file_named owned_as (λ (file : Names × Stamp). record { maker = maker_of f number file.0; state = Written file.1 }) run.writes g.owned f.owned q
          (λ file is. ap (λ (maker : Option ℕ). record { maker = maker; state = Written file.1 }) (makers file.0 (ap (writes rule) is ∙ own))) (inl (file_own q own))

      same_seen : (q : Names) → writes rule q ≡ true → finite.get (finished g number run).seen q ≡ finite.get (finished f number run).seen q
      same_seen q own = get_same file_named stamp_as stamp_as run.writes g.seen f.seen q (λ file is. refl) (inl (file_own q own))

      pub ended_of : HasOf (finished f number run) (finished g number run) number rule
      ended_of = record {
        run = run_here ∙ sym (finite.get-insert nat_cmp_total f.runs number run number ∙ ap (λ (b : Bool). cond b (Some run) (finite.get f.runs number)) (number_itself number));
        flag = flag_here ∙ sym (ap is_some (finite.get-remove nat_cmp_total f.flags number number) ∙ ap (λ (b : Bool). is_some (cond b None (finite.get f.flags number))) (number_itself number));
        owned = same_owned;
        seen = same_seen;
      }

    -- ---- another rule, with other outputs, has what it had
    pub other_of : (f : GraphState) (m : ℕ) (another : Rule) → m ≢ number → ((q : Names) → writes another q ≡ true → writes rule q ≡ false) → HasOf f g m another → HasOf f (finished g number run) m another
    other_of f m another other apart has = record {
      run = run_else m other ∙ has.run;
      flag = flag_else m other ∙ has.flag;
      owned = λ q own. finished_owned q (apart q own) ∙ has.owned q own;
      seen = λ q own. finished_seen q (apart q own) ∙ has.seen q own;
    }

  pub other_begun : (f : GraphState) (m : ℕ) (another : Rule) → ((q : Names) → writes another q ≡ true → writes rule q ≡ false) → HasOf f g m another → HasOf f (begun g number) m another
  other_begun f m another apart has = record {
    run = has.run;
    flag = has.flag;
    owned = λ q own. begun_else q (apart q own) ∙ has.owned q own;
    seen = has.seen;
  }

  -- its own run began
  module _ (f : GraphState) (there : slice_get f.rules number ≡ Some rule) (makers : (q : Names) → writes rule q ≡ true → maker_of g number q ≡ maker_of f number q)
      (run : finite.get g.runs number ≡ finite.get f.runs number) (flag : is_flagged g number ≡ is_flagged f number) (seen : (q : Names) → writes rule q ≡ true → finite.get g.seen q ≡ finite.get f.seen q) where
    both_outputs : outputs_of f number ≡ outputs_of g number
    both_outputs = ap (λ (o : Option Rule). unwrap_or (option_map (λ (r : Rule). r.outputs) o) []) (there ∙ sym here)

    pub begun_of : HasOf (begun f number) (begun g number) number rule
    begun_of = record {
      run = run;
      flag = flag;
      owned = λ q own.
          begun_own q own ∙ ap (λ (maker : Option ℕ). Some (record { maker = maker; state = Unsure })) (makers q own)
          ∙ sym (own_in_f q own);
      seen = seen;
    }
      where
        own_in_f : (q : Names) → writes rule q ≡ true → finite.get (begun f number).owned q ≡ Some (record { maker = maker_of f number q; state = Unsure })
        own_in_f q own =
            let found = get_own (λ (path : Names). path) (λ (path : Names). record { maker = maker_of f number path; state = Unsure }) (outputs_of f number) f.owned q
            (ap (λ (paths : List Names). among q (map (λ (path : Names). path) paths)) both_outputs ∙ own_is q ∙ own) in
            found.2 ∙ ap (λ (path : Names). Some (record { maker = maker_of f number path; state = Unsure })) found.1
