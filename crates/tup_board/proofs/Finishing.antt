-- How far a graph has come once the run of a rule began, and once its command ended Good.
use Rattle.std.proofs.Common.{◌≡◌, ◌≢◌, ◌⊎◌, ℕ, true, false, List, map, Option, None, Some, sym, ap, ◌∙◌, subst, inl, inr}
use Rattle.std.specs.Prelude.{◌==◌, slice_get}
use Rattle.std.proofs.lemmas.Bool.{true≢false, cases_Bool, eqb-true, eq-eqb}
use Rattle.std.proofs.lemmas.Option.{same_Some, none-some}
use Rattle.tup_path.specs.Name.{Names}
use Rattle.tup_stamp.specs.declared.Stamp.{Stamp}
use Rattle.tup_rule.specs.declared.rule.Rule.{Rule}
use Rattle.tup_rule.specs.Rule.{writes, is_generated}
use Rattle.tup_rule.specs.Producer.{DeclaredProducer}
use Rattle.tup_rule.proofs.Laws.{writes-at}
use Rattle.tup_record.specs.declared.run.RunRecord.{RunRecord}
use Rattle.tup_graph.specs.Graph.{GraphState, is_flagged}
use Rattle.tup_graph.specs.Transactions.{maker_of, begun, finished}
use Rattle.tup_stored_graph.specs.Held.{Held}
use Rattle.tup_core.specs.declared.event.CoreEvent.{CoreEvent}
use Rattle.tup_core.specs.Step.{changed, is_reached}
use Rattle.tup_core.specs.Sound.{HasOneMaker}
use Rattle.tup_core.proofs.Changed.{changed_cases}
use Rattle.tup_core.proofs.Orderly.{IsOrderly}
use Rattle.tup_rule_outputs.specs.Lost.{Lost}
use Rattle.tup_board.specs.Board.{BoardState, plan_of, first_graph, start, state}
use Rattle.tup_board.specs.Come.{HasOf, HasCome, HasComeTo, IsPresent, WasToKeep}
use Rattle.tup_board.specs.Ends.{HasEnded, IsRecordOf}
use Rattle.tup_board.proofs.Coming.{begun_else, begun_maker, begun_of, ended_of, finished_maker, finished_owned, finished_seen, flag_else, flag_here, maker_in, other_begun, other_of, run_else}

pub same_or_other : (m n : ℕ) → (m ≡ n) ⊎ (m ≢ n)
same_or_other m n =
    elim (cases_Bool (m == n)) [
      | inl same ↦ inl (eqb-true m n same)
      | inr apart ↦ inr (λ equal. true≢false (sym (eq-eqb m n equal) ∙ apart))
    ]

module _ {S : Type 0} (b : BoardState S) (none : b.lost ≡ None) (g : GraphState) (rules : (plan_of b).rules ≡ (first_graph b).rules) (one : HasOneMaker (plan_of b)) (orderly : IsOrderly (plan_of b) (state b))
    (present : IsPresent b g) (seat number : ℕ) (run : RunRecord) (kept : IsRecordOf (plan_of b) (state b) seat number run) where
  abbrev rule : Rule
  rule = kept.rule

  abbrev began : GraphState
  began = begun g number

  -- its rule
  pub placed : slice_get (plan_of b).rules number ≡ Some rule
  placed = ap (slice_get (plan_of b).rules) (sym kept.here) ∙ kept.runs.placed

  pub in_graph : slice_get g.rules number ≡ Some rule
  in_graph = ap (λ (rs : List Rule). slice_get rs number) (present.come.beside.rules ∙ sym rules) ∙ placed

  in_first : slice_get (first_graph b).rules number ≡ Some rule
  in_first = ap (λ (rs : List Rule). slice_get rs number) (sym rules) ∙ placed

  runs_here : (state b).seats seat ≡ Some kept.running
  runs_here = kept.runs.here

  pub reached : is_reached (plan_of b) number ≡ true
  reached = subst (λ (n : ℕ). is_reached (plan_of b) n ≡ true) kept.here (orderly.reached kept.running.rule (orderly.pending seat kept.running runs_here))

  pub claimed : (state b).claimed number ≡ true
  claimed = subst (λ (n : ℕ). (state b).claimed n ≡ true) kept.here (orderly.claimed seat kept.running runs_here)

  pub flagged : is_flagged g number ≡ true
  flagged = present.flags number ∙ subst (λ (n : ℕ). (state b).pending n ≡ true) kept.here (orderly.pending seat kept.running runs_here)

  -- another rule has other outputs
  pub other_outputs : (m : ℕ) (another : Rule) → slice_get (plan_of b).rules m ≡ Some another → m ≢ number → (q : Names) → writes another q ≡ true → writes rule q ≡ false
  other_outputs m another here differ q own =
      elim (cases_Bool (writes rule q)) [
        | inr apart ↦ apart
        | inl both ↦ absurd (differ (sym (one number m rule another q reached placed here both own)))
      ]

  -- a path that no rule makes isn't one of its outputs
  not_own : (q : Names) → is_generated (plan_of b).rules q ≡ false → writes rule q ≡ false
  not_own q free = writes-at (plan_of b).rules q number rule free placed

  not_here : (m : ℕ) → slice_get (plan_of b).rules m ≡ None → m ≢ number
  not_here m missing same = none-some rule (sym missing ∙ ap (slice_get (plan_of b).rules) same ∙ placed)

  -- a run of it that the history knows names its outputs
  same_rule : (r : Rule) → slice_get (plan_of b).rules number ≡ Some r → r ≡ rule
  same_rule r there = same_Some _ _ (sym there ∙ placed)

  names_of : (ran : RunRecord) → HasEnded (plan_of b) (start b) b.history number ran ⊎ WasToKeep b.lost number ran → map (λ (file : Names × Stamp). file.0) ran.writes ≡ rule.outputs
  names_of ran (inl done) = done.kept.writes ∙ ap (λ (r : Rule). r.outputs) (same_rule done.kept.rule (ap (slice_get (plan_of b).rules) (sym done.kept.here) ∙ done.kept.runs.placed))
  names_of ran (inr lost) = absurd (none-some lost.commit (sym none ∙ lost.here))

  -- ---- its outputs have the makers that they had
  makers_by : HasCome b g number rule → (q : Names) → writes rule q ≡ true → maker_of g number q ≡ maker_of (first_graph b) number q
  makers_by (inl has) q own = ap (maker_in number) (has.owned q own)
  makers_by (inr (inl has)) q own = ap (maker_in number) (has.1.owned q own) ∙ begun_maker (first_graph b) number rule in_first q
  makers_by (inr (inr has)) q own = ap (maker_in number) (has.2.owned q own) ∙ finished_maker (first_graph b) number rule in_first has.0 (names_of has.0 has.1) q own

  makers : (q : Names) → writes rule q ≡ true → maker_of g number q ≡ maker_of (first_graph b) number q
  makers = makers_by (present.come.each number rule placed)

  -- ---- its run began
  begun_come : HasCome b g number rule → HasCome b began number rule
  begun_come (inl has) = inr (inl (claimed, begun_of g number rule in_graph (first_graph b) in_first makers has.run has.flag has.seen))
  begun_come (inr (inl has)) = inr (inl (claimed, begun_of g number rule in_graph (first_graph b) in_first makers has.1.run has.1.flag has.1.seen))
  begun_come (inr (inr has)) = absurd (true≢false (sym flagged ∙ has.2.flag ∙ flag_here (first_graph b) number rule in_first has.0 (names_of has.0 has.1)))

  other_come : (h : GraphState) (m : ℕ) (another : Rule) → ((f : GraphState) → HasOf f g m another → HasOf f h m another) → HasCome b g m another → HasCome b h m another
  other_come h m another keeps (inl has) = inl (keeps (first_graph b) has)
  other_come h m another keeps (inr (inl has)) = inr (inl (has.0, keeps (begun (first_graph b) m) has.1))
  other_come h m another keeps (inr (inr has)) = inr (inr (has.0, has.1, keeps (finished (first_graph b) m has.0) has.2))

  pub come_begun : HasComeTo b began
  come_begun = record {
    beside = record {
      readings = present.come.beside.readings;
      rules = present.come.beside.rules;
      places = present.come.beside.places;
      created = present.come.beside.created;
      owned = λ q free. begun_else g number rule in_graph q (not_own q free) ∙ present.come.beside.owned q free;
      seen = present.come.beside.seen;
      runs = present.come.beside.runs;
      flags = present.come.beside.flags;
    };
    each = λ m another here.
        elim (same_or_other m number) [
          | inl same ↦ subst (λ (n : ℕ). HasCome b began n another) (sym same)
              (subst (λ (r : Rule). HasCome b began number r) (same_Some _ _ (sym placed ∙ ap (slice_get (plan_of b).rules) (sym same) ∙ here)) (begun_come (present.come.each number rule placed)))
          | inr differ ↦ other_come began m another (λ f has. other_begun g number rule in_graph f m another (other_outputs m another here differ) has) (present.come.each m another here)
        ];
    producers = present.come.producers;
  }

  -- ---- and its command ended Good, or the commit that was to keep that is lost
  abbrev done : GraphState
  done = finished began number run

  names : map (λ (file : Names × Stamp). file.0) run.writes ≡ rule.outputs
  names = kept.writes

  -- the flags: its own is gone
  pub unflagged_on : (m : ℕ) → is_flagged g m ≡ false → is_flagged done m ≡ false
  unflagged_on m was =
      elim (same_or_other m number) [
        | inl same ↦ subst (λ (n : ℕ). is_flagged done n ≡ false) (sym same) (flag_here began number rule in_graph run names)
        | inr differ ↦ flag_else began number rule in_graph run names m differ ∙ was
      ]

  producers_on : (m other : ℕ) (another : Rule) → slice_get (plan_of b).rules m ≡ Some another → is_reached (plan_of b) m ≡ true → is_flagged done m ≡ false
      → DeclaredProducer (plan_of b).rules another other → is_flagged done other ≡ false
  producers_on m other another here within flag produced =
      unflagged_on other (elim (same_or_other m number) [
        | inr differ ↦ present.come.producers m other another here within (sym (flag_else began number rule in_graph run names m differ) ∙ flag) produced
        | inl same ↦
            let is : rule ≡ another = same_Some _ _ (sym placed ∙ ap (slice_get (plan_of b).rules) (sym same) ∙ here) in
            present.flags other ∙ orderly.clear seat kept.running rule runs_here kept.runs.placed other (subst (λ (r : Rule). DeclaredProducer (plan_of b).rules r other) (sym is) produced)
      ])

  -- another rule has what it had
  keeps_of : (m : ℕ) (another : Rule) → slice_get (plan_of b).rules m ≡ Some another → m ≢ number → (f : GraphState) → HasOf f g m another → HasOf f done m another
  keeps_of m another here differ f has =
      other_of began number rule in_graph run names f m another differ (other_outputs m another here differ) (other_begun g number rule in_graph f m another (other_outputs m another here differ) has)

  -- the board then, with this history, whatever its site and its graph are: what was claimed is, and what ended has ended
  module _ (hist : List CoreEvent) (now : S) (held : Held) (left : Option Lost) where
    abbrev pub then_is : BoardState S
    then_is = record b { history = hist; site = now; graph = held; lost = left }

    module _ (claims_on : (m : ℕ) → (state b).claimed m ≡ true → (state then_is).claimed m ≡ true)
        (ended_on : (m : ℕ) (ran : RunRecord) → HasEnded (plan_of b) (start b) b.history m ran → HasEnded (plan_of b) (start b) hist m ran) where
      -- a graph has come as far with each rule
      kept_or_lost : (m : ℕ) (ran : RunRecord) → HasEnded (plan_of b) (start b) b.history m ran ⊎ WasToKeep b.lost m ran → HasEnded (plan_of b) (start b) hist m ran ⊎ WasToKeep left m ran
      kept_or_lost m ran (inl was) = inl (ended_on m ran was)
      kept_or_lost m ran (inr lost) = absurd (none-some lost.commit (sym none ∙ lost.here))

      later_come : (h k : GraphState) (m : ℕ) (another : Rule) → ((f : GraphState) → HasOf f h m another → HasOf f k m another) → HasCome b h m another → HasCome then_is k m another
      later_come h k m another keeps (inl has) = inl (keeps (first_graph b) has)
      later_come h k m another keeps (inr (inl has)) = inr (inl (claims_on m has.0, keeps (begun (first_graph b) m) has.1))
      later_come h k m another keeps (inr (inr has)) = inr (inr (has.0, kept_or_lost m has.0 has.1, keeps (finished (first_graph b) m has.0) has.2))

      pub come_then : (h : GraphState) → HasComeTo b h → HasComeTo then_is h
      come_then h come = record {
        beside = come.beside;
        each = λ m another here. later_come h h m another (λ f has. has) (come.each m another here);
        producers = come.producers;
      }

      -- its own rule has what its end leaves
      module _ (ends : HasEnded (plan_of b) (start b) hist number run ⊎ WasToKeep left number run) where
        own_come : HasCome then_is done number rule
        own_come = inr (inr (run, ends, ended_of began number rule in_graph run names (first_graph b) in_first (λ q own. begun_maker g number rule in_graph q ∙ makers q own)))

        pub come_done : HasComeTo then_is done
        come_done = record {
          beside = record {
            readings = present.come.beside.readings;
            rules = present.come.beside.rules;
            places = present.come.beside.places;
            created = present.come.beside.created;
            owned = λ q free. finished_owned began number rule in_graph run names q (not_own q free) ∙ begun_else g number rule in_graph q (not_own q free) ∙ present.come.beside.owned q free;
            seen = λ q free. finished_seen began number rule in_graph run names q (not_own q free) ∙ present.come.beside.seen q free;
            runs = λ m missing. run_else began number rule in_graph run names m (not_here m missing) ∙ present.come.beside.runs m missing;
            flags = λ m missing. flag_else began number rule in_graph run names m (not_here m missing) ∙ present.come.beside.flags m missing;
          };
          each = λ m another here.
              elim (same_or_other m number) [
                | inl same ↦ subst (λ (n : ℕ). HasCome then_is done n another) (sym same)
                    (subst (λ (r : Rule). HasCome then_is done number r) (same_Some _ _ (sym placed ∙ ap (slice_get (plan_of b).rules) (sym same) ∙ here)) own_come)
                | inr differ ↦ later_come g done m another (keeps_of m another here differ) (present.come.each m another here)
              ];
          producers = producers_on;
        }

        -- the rules that are pending then are those that were, without its own
        pub present_done : ((m : ℕ) → (state then_is).pending m ≡ changed (state b).pending number false m) → IsPresent then_is done
        present_done pending_is = record {
          come = come_done;
          flags = λ m.
              elim (changed_cases (state b).pending number false m) [
                | inl same ↦ subst (λ (n : ℕ). is_flagged done n ≡ false) (sym same.0) (flag_here began number rule in_graph run names) ∙ sym (pending_is m ∙ same.1)
                | inr apart ↦ flag_else began number rule in_graph run names m apart.0 ∙ present.flags m ∙ sym (pending_is m ∙ apart.1)
              ];
        }
