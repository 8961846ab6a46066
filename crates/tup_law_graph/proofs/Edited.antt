-- Edits keep what is kept: more contents are known, and a file is another one everywhere.
use Rattle.std.specs.Prelude.{◌≡◌, ◌≢◌, ℕ, Bool, true, false, List, [], ◌∷◌, Option, None, Some, Contains, cond, option_map}
use Rattle.std.proofs.Common.{refl, sym, ap, subst, ◌∙◌, inl, inr}
use Rattle.std.specs.FinMap as finite
use Rattle.std.proofs.lemmas.List.Elements.{All-weaker}
use Rattle.tup_path.specs.Name.{Names, Content}
use Rattle.tup_path.specs.Order.{by_names-total}
use Rattle.tup_path.specs.Tree.{Tree}
use Rattle.tup_path.proofs.Same.{by_names-decides, get_inserted_elsewhere, get_removed_elsewhere}
use Rattle.tup_site.specs.Edit.{edited}
use Rattle.tup_site.specs.World.{World}
use Rattle.tup_stamp.specs.declared.Stamp.{Stamp}
use Rattle.tup_stamp.specs.Stamp.{stamp}
use Rattle.tup_rule.specs.declared.question.Noted.{Noted}
use Rattle.tup_rule.specs.declared.question.Question.{Question}
use Rattle.tup_rule.specs.declared.question.Reading.{Reading}
use Rattle.tup_rule.specs.declared.question.Told.{Told}
use Rattle.tup_rule.specs.declared.question.Told.TheVariants as told
use Rattle.tup_rule.specs.declared.rule.Rule.{Rule}
use Rattle.tup_runner.specs.Next.{Next, Asks}
use Rattle.tup_runner.specs.declared.step.Answer.{Answer}
use Rattle.tup_runner.specs.declared.step.Answer.TheVariants.{Content as Holds, Absent}
use Rattle.tup_record.specs.declared.run.RunRecord.{RunRecord}
use Rattle.tup_access.specs.Judge.{judge}
use Rattle.tup_graph.specs.Answers.{IsAnswer}
use Rattle.tup_graph.specs.Graph.{GraphState, is_owned, source}
use Rattle.tup_graph.specs.Kept.{IsKept, IsKeptWorld, IsKeptSite, IsGraphIn, file_beside, HoldsItsOwn}
use Rattle.tup_graph.specs.Records.{Language, IsStampOf, AreRecorded, IsTrueRun, IsTrueReading, IsToldKnown}
use Rattle.tup_graph.specs.declared.owned.Owned.{Owned}
use Rattle.tup_law_graph.specs.Edited.{with_file, IsEditedFrom, IsOwnedAlike}
use Rattle.tup_law_graph.proofs.Answering.{answer_more}
use Rattle.tup_law_graph.proofs.Stable.{Settled, same_paths}

-- ---- more contents are known
module _ (known more : List Content) (also : (content : Content) → Contains known content → Contains more content) where
  stamp_more : (given : Option Stamp) (answer : Answer) → IsStampOf known given answer → IsStampOf more given answer
  stamp_more (Some given) (Holds content) is = (also content is.0, is.1)
  stamp_more None Absent is = is
  stamp_more (Some given) Absent is = absurd is
  stamp_more None (Holds content) is = absurd is

  recorded_more : (rule : Rule) (asks : Asks) (recorded : List (Names × Option Stamp)) → AreRecorded known rule asks recorded → AreRecorded more rule asks recorded
  recorded_more rule [] [] are = are
  recorded_more rule (ask ∷ asks) (one ∷ recorded) are = (are.0, stamp_more one.1 ask.1 are.1, are.2, recorded_more rule asks recorded are.3)
  recorded_more rule [] (one ∷ recorded) are = absurd are
  recorded_more rule (ask ∷ asks) [] are = absurd are

  told_more : (one : Told) → IsToldKnown known one → IsToldKnown more one
  told_more (told.Content (Some content)) is = also content is
  told_more (told.Content None) is = is
  told_more (told.Config value) is = is
  told_more (told.Names names) is = is
  told_more (told.Kind kind) is = is

  run_more : (next : Next) (rule : Rule) (run : RunRecord) → IsTrueRun next known rule run → IsTrueRun next more rule run
  run_more next rule run is = record {
    asks = is.asks;
    recorded = recorded_more rule is.asks run.asks is.recorded;
    just = is.just;
    few = is.few;
    ended = is.ended;
    ends = is.ends;
    good = is.good;
    files = is.files;
    known_files = All-weaker (λ (file : Names × Content). Contains known file.1) (λ (file : Names × Content). Contains more file.1) (λ file h. also file.1 h) (judge rule is.ended).files is.known_files;
  }

  reading_more : (language : Language) (dir : Names) (reading : Reading) → IsTrueReading language known dir reading → IsTrueReading language more dir reading
  reading_more language dir reading is = record {
    told_so = is.told_so;
    recorded = is.recorded;
    contents = All-weaker (λ (one : Question × Told). IsToldKnown known one.1) (λ (one : Question × Told). IsToldKnown more one.1) (λ one h. told_more one.1 h) is.told_so is.contents;
    just = is.just;
    leaves = is.leaves;
  }

  pub kept_more : (next : Next) (language : Language) (g : GraphState) → IsKept next language known g → IsKept next language more g
  kept_more next language g kept = record {
    records = record {
      runs = λ number rule run here ran. run_more next rule run (kept.records.runs number rule run here ran);
      readings = λ dir reading here. reading_more language dir reading (kept.records.readings dir reading here);
    };
    recorded = kept.recorded;
    agrees = record {
      stamps = kept.agrees.stamps;
      read = kept.agrees.read;
      told = λ dir reading here unread.
          All-weaker (λ (one : Question × Noted). IsAnswer known (source g) g.readings dir one.0 one.1) (λ (one : Question × Noted). IsAnswer more (source g) g.readings dir one.0 one.1)
          (λ one is. answer_more known more also (source g) g.readings dir one.0 one.1 is) reading.asked (kept.agrees.told dir reading here unread);
      upward = kept.agrees.upward;
    };
    declared = kept.declared;
    owners = kept.owners;
    linked = kept.linked;
    written = kept.written;
  }

  pub world_more : (next : Next) (language : Language) (world now : World) → now.store ≡ world.store → IsKeptWorld next language known world → IsKeptWorld next language more now
  world_more next language world now stays kept = record {
    graph = kept.graph;
    reads = subst (λ (store : List ℕ). IsGraphIn store kept.graph) (sym stays) kept.reads;
    kept = kept_more next language kept.graph kept.kept;
  }

-- more contents are known
pub site_more : (next : Next) (language : Language) (known more : List Content) → ((content : Content) → Contains known content → Contains more content) → (first : World) (Left : World → Type 0)
    → IsKeptSite next language known first Left → IsKeptSite next language more first Left
unfolding world_more
site_more next language known more also first Left kept = record {
  now = world_more known more also next language first first refl kept.now;
  later = λ left is. world_more known more also next language left left refl (kept.later left is);
  sources = kept.sources;
  own = kept.own;
}

-- ---- a file is another one
module _ (path : Names) (now : Option Content) where
  at_it : (tree : Tree) → finite.get (edited tree path now) path ≡ now
  at_it tree = by now
    where
      by : (to : Option Content) → finite.get (edited tree path to) path ≡ to
      by (Some content) = finite.get-insert by_names-total tree path content path ∙ ap (λ (b : Bool). cond b (Some content) (finite.get tree path)) ((by_names-decides path path).1 refl)
      by None = finite.get-remove by_names-total tree path path ∙ ap (λ (b : Bool). cond b None (finite.get tree path)) ((by_names-decides path path).1 refl)

  beside_it : (tree : Tree) (other : Names) → other ≢ path → finite.get (edited tree path now) other ≡ finite.get tree other
  beside_it tree other apart = by now
    where
      by : (to : Option Content) → finite.get (edited tree path to) other ≡ finite.get tree other
      by (Some content) = get_inserted_elsewhere tree path other content apart
      by None = get_removed_elsewhere tree path other apart

  -- where two trees hold the same, they do afterwards
  alike : (left present : Tree) (other : Names) → finite.get left other ≡ finite.get present other → finite.get (edited left path now) other ≡ finite.get (edited present path now) other
  alike left present other same = by (same_paths other path)
    where
      by : Settled (other ≡ path) → finite.get (edited left path now) other ≡ finite.get (edited present path now) other
      by (inl is) = subst (λ (p : Names). finite.get (edited left path now) p ≡ finite.get (edited present path now) p) (sym is) (at_it left ∙ sym (at_it present))
      by (inr apart) = beside_it left other apart ∙ same ∙ sym (beside_it present other apart)

module _ (next : Next) (language : Language) (known more : List Content) (also : (content : Content) → Contains known content → Contains more content) (present : World) (Left : World → Type 0) (path : Names) (now : Option Content)
    (kept : IsKeptSite next language known present Left) (owned_alike : IsOwnedAlike present Left path) where
  abbrev there : World → World
  there world = with_file world path now

  sources : (left : World) (g : GraphState) → Left left → IsGraphIn left.store g → (other : Names) → file_beside (there left) g other ≡ file_beside (there present) kept.now.graph other
  sources left g is reads other = by (same_paths other path)
    where
      -- what stands there is a source in both, or in none
      same_there : (mine ours : Bool) (tree present_tree : Option Content) → mine ≡ ours → tree ≡ present_tree
          → ◌≡◌ {A = Option Content} (elim mine [ true ↦ None | false ↦ tree ]) (elim ours [ true ↦ None | false ↦ present_tree ])
      same_there mine ours tree present_tree owned same = λ i. elim (owned i) [ true ↦ None | false ↦ same i ]

      kept_there : (b c : Bool) (x y now_x now_y : Option Content) → ◌≡◌ {A = Option Content} (elim b [ true ↦ None | false ↦ x ]) (elim c [ true ↦ None | false ↦ y ]) → now_x ≡ x → now_y ≡ y
          → ◌≡◌ {A = Option Content} (elim b [ true ↦ None | false ↦ now_x ]) (elim c [ true ↦ None | false ↦ now_y ])
      kept_there b c x y now_x now_y same one two =
          (λ i. elim b [ true ↦ None | false ↦ one i ]) ∙ same ∙ (λ i. elim c [ true ↦ None | false ↦ sym two i ])

      by : Settled (other ≡ path) → file_beside (there left) g other ≡ file_beside (there present) kept.now.graph other
      by (inl here) =
          same_there (is_owned g other) (is_owned kept.now.graph other) (finite.get (there left).tree other) (finite.get (there present).tree other)
          (subst (λ (p : Names). is_owned g p ≡ is_owned kept.now.graph p) (sym here) (owned_alike kept.now.graph g left kept.now.reads is reads))
          (subst (λ (p : Names). finite.get (there left).tree p ≡ finite.get (there present).tree p) (sym here) (at_it path now left.tree ∙ sym (at_it path now present.tree)))
      by (inr apart) =
          kept_there (is_owned g other) (is_owned kept.now.graph other) (finite.get left.tree other) (finite.get present.tree other) (finite.get (there left).tree other) (finite.get (there present).tree other)
          (kept.sources left g is reads other) (beside_it path now left.tree other apart) (beside_it path now present.tree other apart)

  holds : (left : World) (g : GraphState) (other : Names) (owned : Owned) → Left left → IsGraphIn left.store g → finite.get g.owned other ≡ Some owned → HoldsItsOwn (there present) (there left) other owned
  holds left g other owned is reads own = by (same_paths other path) (kept.own left g other owned is reads own)
    where
      by : Settled (other ≡ path) → HoldsItsOwn present left other owned → HoldsItsOwn (there present) (there left) other owned
      by (inl here) was = inr (inl (subst (λ (p : Names). finite.get (there left).tree p ≡ finite.get (there present).tree p) (sym here) (at_it path now left.tree ∙ sym (at_it path now present.tree))))
      by (inr apart) (inl unsure) = inl unsure
      by (inr apart) (inr (inl same)) = inr (inl (alike path now left.tree present.tree other same))
      by (inr apart) (inr (inr (seen, state, holds_it))) = inr (inr (seen, state, ap (option_map stamp) (beside_it path now left.tree other apart) ∙ holds_it))

  pub site_edited : IsKeptSite next language more (there present) (IsEditedFrom Left path now)
  unfolding world_more
  site_edited = record {
    now = world_more known more also next language present (there present) refl kept.now;
    later = λ world (left, is, same). subst (IsKeptWorld next language more) (sym same) (world_more known more also next language left (there left) refl (kept.later left is));
    sources = λ world g (left, is, same) reads other.
        ap (λ (w : World). file_beside w g other) same ∙ sources left g is (subst (λ (w : World). IsGraphIn w.store g) same reads) other;
    own = λ world g other owned (left, is, same) reads own.
        subst (λ (w : World). HoldsItsOwn (there present) w other owned) (sym same) (holds left g other owned is (subst (λ (w : World). IsGraphIn w.store g) same reads) own);
  }
