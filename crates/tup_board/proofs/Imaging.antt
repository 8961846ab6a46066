-- What a crash leaves while the files of a rule are made: of each rule by itself there is what was, or its run had begun, or its
-- Good end was kept.
use Rattle.std.proofs.Common.{◌≡◌, ◌≢◌, ◌⊎◌, ℕ, true, false, List, map, Some, refl, sym, ap, ◌∙◌, subst, ⊎_elim, inl, inr}
use Rattle.std.specs.Prelude.{All, Contains, slice_get}
use Rattle.std.specs.FinMap as finite
use Rattle.std.specs.Option.{option_map}
use Rattle.std.proofs.lemmas.Bool.{true≢false, cases_Bool}
use Rattle.std.proofs.lemmas.Option.{same_Some}
use Rattle.tup_path.specs.Name.{Names, Content}
use Rattle.tup_path.specs.Tree.{Tree}
use Rattle.tup_stamp.specs.declared.Stamp.{Stamp}
use Rattle.tup_stamp.specs.Stamp.{stamp}
use Rattle.tup_rule.specs.declared.rule.Rule.{Rule}
use Rattle.tup_rule.specs.Rule.{writes}
use Rattle.tup_site.specs.World.{World}
use Rattle.tup_record.specs.declared.owned.OwnedState.TheVariants.{Unsure, Written}
use Rattle.tup_record.specs.declared.run.RunRecord.{RunRecord}
use Rattle.tup_graph.specs.Graph.{GraphState, is_flagged}
use Rattle.tup_graph.specs.Transactions.{maker_of, begun, finished}
use Rattle.tup_stored_graph.specs.Crash.{IsStoreOf}
use Rattle.tup_core.specs.declared.plan.Plan.{Plan}
use Rattle.tup_core.specs.Step.{is_reached}
use Rattle.tup_board.specs.Board.{BoardState, plan_of, state}
use Rattle.tup_board.specs.Come.{HasComeTo}
use Rattle.tup_board.specs.Images.{HasFileOf, HoldsWritten, IsImageOver, IsOwnedAs, StandsUnmade}
use Rattle.tup_board.specs.Outputs.{IsClaimed, Makes}
use Rattle.tup_board.proofs.Coming.{begun_else, begun_own, finished_owned, flag_else, flag_here, written_own}
use Rattle.tup_board.proofs.Finishing.{same_or_other}

-- a board whose graph was g, and the board that is left: how far it has come with each of the three graphs; the rule that is made
module _ {S : Type 0} (b next : BoardState S) (g : GraphState) (number : ℕ) (rule : Rule) (run : RunRecord) (files : List (Names × Content)) (tried : Type 0)
    (same_plan : plan_of next ≡ plan_of b) (come : HasComeTo next g) (come_begun : HasComeTo next (begun g number)) (come_done : tried → HasComeTo next (finished (begun g number) number run))
    (claims_on : (m : ℕ) → (state b).claimed m ≡ true → (state next).claimed m ≡ true) (claimed : (state next).claimed number ≡ true)
    (here : slice_get (plan_of b).rules number ≡ Some rule) (in_graph : slice_get g.rules number ≡ Some rule) (flagged : is_flagged g number ≡ true)
    (apart : (m : ℕ) (another : Rule) → slice_get (plan_of b).rules m ≡ Some another → m ≢ number → (q : Names) → writes another q ≡ true → writes rule q ≡ false)
    (names : map (λ (file : Names × Stamp). file.0) run.writes ≡ rule.outputs)
    (holds : (tree : Tree) → All (λ (file : Names × Content). finite.get tree file.0 ≡ Some file.1) files → (file : Names × Stamp) → Contains run.writes file → option_map stamp (finite.get tree file.0) ≡ Some file.1) where
  abbrev began : GraphState
  began = begun g number

  abbrev done : GraphState
  done = finished began number run

  -- rules and outputs of the two plans are the same
  makes_back : (m : ℕ) (path : Names) → Makes (plan_of next) m path → Makes (plan_of b) m path
  makes_back m path makes = subst (λ (p : Plan). Makes p m path) same_plan makes

  reached_back : (m : ℕ) → is_reached (plan_of next) m ≡ true → is_reached (plan_of b) m ≡ true
  reached_back m within = ap (λ (p : Plan). is_reached p m) (sym same_plan) ∙ within

  claimed_on : (path : Names) → IsClaimed (plan_of b) (state b) path → IsClaimed (plan_of next) (state next) path
  claimed_on path it = (it.0, claims_on it.0 it.1, subst (λ (p : Plan). Makes p it.0 path) (sym same_plan) it.2)

  own_claimed : (path : Names) → writes rule path ≡ true → IsClaimed (plan_of next) (state next) path
  own_claimed path own = (number, claimed, subst (λ (p : Plan). Makes p number path) (sym same_plan) (record { rule = rule; here = here; output = own }))

  -- an output of another rule is none of this one's
  foreign : (m : ℕ) (path : Names) → Makes (plan_of b) m path → m ≢ number → writes rule path ≡ false
  foreign m path makes differ = apart m makes.rule makes.here differ path makes.output

  own : (path : Names) → Makes (plan_of b) number path → writes rule path ≡ true
  own path makes = ap (λ (r : Rule). writes r path) (same_Some _ _ (sym here ∙ makes.here)) ∙ makes.output

  module _ (v u w : World) (image : IsImageOver b v u g) where
    -- ---- nothing yet
    pub not_begun_unmade : w.tree ≡ u.tree → StandsUnmade next v w g
    not_begun_unmade tree m path makes flag =
        ⊎_elim inl (λ same. inr (ap (λ (t : Tree). finite.get t path) tree ∙ same)) (image.unmade m path (makes_back m path makes) flag)

    pub not_begun : IsStoreOf g w.store → w.tree ≡ u.tree → IsImageOver next v w g
    not_begun store tree = record {
      store = store;
      come = come;
      others = λ path free. ap (λ (t : Tree). finite.get t path) tree ∙ image.others path (λ it. free (claimed_on path it));
      made = λ m path makes within flag. let it = image.made m path (makes_back m path makes) (reached_back m within) flag in record {
        seen = it.seen;
        written = it.written;
        holds = ap (λ (t : Tree). option_map stamp (finite.get t path)) tree ∙ it.holds;
      };
      unmade = not_begun_unmade tree;
    }

    -- ---- files of this rule alone differ
    module _ (beside : (path : Names) → writes rule path ≡ false → finite.get w.tree path ≡ finite.get u.tree path) where
      others_on : (path : Names) → (IsClaimed (plan_of next) (state next) path → ⊥) → HasFileOf v w path
      others_on path free =
          elim (cases_Bool (writes rule path)) [
            | inl mine ↦ absurd (free (own_claimed path mine))
            | inr other ↦ beside path other ∙ image.others path (λ it. free (claimed_on path it))
          ]

      -- what another rule made stands, and what it has yet to make is as it was
      made_else : (h : GraphState) (m : ℕ) (path : Names) → ((q : Names) → writes rule q ≡ false → finite.get h.owned q ≡ finite.get g.owned q) → is_flagged h m ≡ is_flagged g m → m ≢ number
          → Makes (plan_of next) m path → is_reached (plan_of next) m ≡ true → is_flagged h m ≡ false → HoldsWritten h w path
      made_else h m path owned flags differ makes within flag =
          let mk = makes_back m path makes in
          let other = foreign m path mk differ in
          let it = image.made m path mk (reached_back m within) (sym flags ∙ flag) in record {
            seen = it.seen;
            written = record { owned = it.written.owned; here = owned path other ∙ it.written.here; state = it.written.state };
            holds = ap (option_map stamp) (beside path other) ∙ it.holds;
          }

      unmade_else : (h : GraphState) (m : ℕ) (path : Names) → ((q : Names) → writes rule q ≡ false → finite.get h.owned q ≡ finite.get g.owned q) → is_flagged h m ≡ is_flagged g m → m ≢ number
          → Makes (plan_of next) m path → is_flagged h m ≡ true → IsOwnedAs h path Unsure ⊎ HasFileOf v w path
      unmade_else h m path owned flags differ makes flag =
          let mk = makes_back m path makes in
          let other = foreign m path mk differ in
          ⊎_elim (λ it. inl (record { owned = it.owned; here = owned path other ∙ it.here; state = it.state })) (λ same. inr (beside path other ∙ same))
          (image.unmade m path mk (sym flags ∙ flag))

      -- ---- its run began
      pub begun_unmade : StandsUnmade next v w began
      begun_unmade m path makes flag =
          elim (same_or_other m number) [
            | inr differ ↦ unmade_else began m path (begun_else g number rule in_graph) refl differ makes flag
            | inl is ↦ inl (record {
              owned = record { maker = maker_of g number path; state = Unsure };
              here = begun_own g number rule in_graph path (own path (subst (λ (n : ℕ). Makes (plan_of b) n path) is (makes_back m path makes)));
              state = refl;
            })
          ]

      pub is_begun : IsStoreOf began w.store → IsImageOver next v w began
      is_begun store = record {
        store = store;
        come = come_begun;
        others = others_on;
        made = λ m path makes within flag.
            made_else began m path (begun_else g number rule in_graph) refl (λ is. true≢false (sym flagged ∙ ap (is_flagged g) (sym is) ∙ flag)) makes within flag;
        unmade = begun_unmade;
      }

      -- ---- its end was kept, and its files stand
      done_owned : (q : Names) → writes rule q ≡ false → finite.get done.owned q ≡ finite.get g.owned q
      done_owned q other = finished_owned began number rule in_graph run names q other ∙ begun_else g number rule in_graph q other

      pub done_unmade : StandsUnmade next v w done
      done_unmade m path makes flag =
          let differ = λ (is : m ≡ number). true≢false (sym flag ∙ ap (is_flagged done) is ∙ flag_here began number rule in_graph run names) in
          unmade_else done m path done_owned (flag_else began number rule in_graph run names m differ) differ makes flag

      pub is_done : tried → IsStoreOf done w.store → All (λ (file : Names × Content). finite.get w.tree file.0 ≡ Some file.1) files → IsImageOver next v w done
      is_done was store stand = record {
        store = store;
        come = come_done was;
        others = others_on;
        made = λ m path makes within flag.
            elim (same_or_other m number) [
              | inr differ ↦ made_else done m path done_owned (flag_else began number rule in_graph run names m differ) differ makes within flag
              | inl is ↦
                  let file = written_own began number rule in_graph run names path (own path (subst (λ (n : ℕ). Makes (plan_of b) n path) is (makes_back m path makes))) in
                  record {
                    seen = file.0.1;
                    written = record { owned = record { maker = maker_of began number file.0.0; state = Written file.0.1 }; here = file.2; state = refl };
                    holds = ap (λ (q : Names). option_map stamp (finite.get w.tree q)) (sym file.1) ∙ holds w.tree stand file.0 file.3;
                  }
            ];
        unmade = done_unmade;
      }
