-- What a crash leaves of the sources, step by step.
use Rattle.std.proofs.Common.{◌≡◌, ℕ, true, List, Result, Ok, All, inl, inr, ⊎_elim, refl, sym, ap, subst, ◌∙◌, arith}
use Rattle.std.proofs.lemmas.Bool.{false≢true}
use Rattle.tup_path.specs.Name.{Names, Content}
use Rattle.tup_path.specs.Tree.{Tree}
use Rattle.tup_site.specs.Crash.{Follows, GoesOn, NoStep, FileStep, PinsTree, LeavesOnly}
use Rattle.tup_site.specs.World.{World, TreeStays}
use Rattle.tup_table.specs.Entries.{Standing}
use Rattle.tup_table.specs.Images.{Leaves, OpenStep}
use Rattle.tup_table.specs.Reading.{opened_of}
use Rattle.tup_table.specs.Table.{entries_in, StandsFor}
use Rattle.tup_table.specs.declared.fault.TableFault.{TableFault}
use Rattle.tup_table.specs.declared.opened.Opened.{Opened}
use Rattle.tup_table.specs.declared.table.Table.{Table}
use Rattle.tup_table.proofs.Going.{IsEarlier, as_step, nothing_then}
use Rattle.tup_table.proofs.Stores.{reads_one}
use Rattle.tup_graph.specs.Graph.{GraphState, is_owned}
use Rattle.tup_graph.specs.Opening.{IsGraphOf}
use Rattle.tup_graph.specs.Transactions.{with_forgotten}
use Rattle.tup_graph.proofs.OneWay.{one_graph}
use Rattle.tup_stored_graph.specs.Crash.{IsStoreOf, GraphStep, LeavesEither}
use Rattle.tup_stored_graph.proofs.Crashes.{as_it_was}
use Rattle.tup_ledger.specs.Owned.{with_owned}
use Rattle.tup_ledger.specs.Sources.{sources_of, Kept, HasSources, HaveNoFiles, Guards, IsDurable, OwnedStep, OwnsOnly}
use Rattle.tup_ledger.proofs.Trees.{own_more, own_less, own_same, owns_more, owns_less}

-- ---- a store is of one graph
pub entries_one : (bytes : List ℕ) (es fs : Standing) → Leaves es bytes → Leaves fs bytes → es ≡ fs
entries_one bytes es fs one other =
    let read : ◌≡◌ {A = Result Opened TableFault} (Ok (opened_of one.0)) (Ok (opened_of other.0)) =
    reads_one bytes (Ok (opened_of one.0)) (Ok (opened_of other.0)) (one.0, one.1, refl) (other.0, other.1, refl) in
    let same : opened_of one.0 ≡ opened_of other.0 = cc in
    one.2 ∙ ap (λ (o : Opened). o.entries) same ∙ sym other.2

pub one_store : (bytes : List ℕ) (g h : GraphState) → IsStoreOf g bytes → IsStoreOf h bytes → g ≡ h
one_store bytes g h one other =
    one_graph other.entries g h (subst (λ (es : Standing). IsGraphOf es g) (entries_one bytes one.entries other.entries one.leaves other.leaves) one.stands) other.stands

-- ---- files at owned paths
module _ (g : GraphState) where
  pub file_is_owned : (path : Names) (known : List Content) (v w : World) → is_owned g path ≡ true → FileStep path known v w → OwnedStep g v w
  file_is_owned path known v w owns step = record {
    others = λ other is. step.others other (λ same. false≢true (sym is ∙ ap (λ (p : Names). is_owned g p) same ∙ owns));
    store = step.store;
  }

  pub owned_then : (u v w : World) → OwnedStep g u v → OwnedStep g v w → OwnedStep g u w
  owned_then u v w one two = record { others = λ other is. two.others other is ∙ one.others other is; store = two.store ∙ one.store }

-- ---- one step behind another
module _ {S : Type 0} (moment : S → ℕ) (left_since : S → ℕ → World → Type 0) (P : World → Type 0) where
  pub in_turn : (old mid new : S) → LeavesOnly moment left_since old mid P → LeavesOnly moment left_since mid new P → LeavesOnly moment left_since old new P
  in_turn old mid new first last = record {
    later = omega (arith, first.later, last.later);
    each = λ w left. ⊎_elim (first.each w) (λ p. p) (last.before (moment old) w first.later left);
    before = λ t w le left. ⊎_elim (first.before t w le) inr (last.before t w (omega (arith, le, first.later)) left);
  }

module _ {S : Type 0} (moment : S → ℕ) (left_since : S → ℕ → World → Type 0) where
  -- nothing was done
  pub at_rest : (site : S) → GoesOn moment left_since site site NoStep
  at_rest site = record { later = omega arith; kept = λ t w le left. left; since = λ t w le left. inl left }

module _ {S : Type 0} (world : S → World) (moment : S → ℕ) (left_since : S → ℕ → World → Type 0) where
  -- ---- what stands for a store, a crash leaves
  module _ (table : Table) (g : GraphState) (site : S) (stands : StandsFor world moment left_since table site) (is : IsGraphOf (entries_in table) g) where
    pub stored : (w : World) → left_since site (moment site) w → IsStoreOf g w.store
    stored w left = ⊎_elim (λ store. store) (λ store. store) ((as_it_was world moment left_since table g site stands is g).only.each w left)

    guarded : (kept : Kept) → Guards (left_since site (moment site)) g kept → (w : World) → left_since site (moment site) w → HasSources kept w
    guarded kept guards w left = record { graph = g; store = stored w left; sources = guards.each w left; only = guards.only }

    -- a transaction goes on from here
    pub either_from : (new : S) (h : GraphState) → GoesOn moment left_since site new (GraphStep g h) → LeavesEither moment left_since site new g h
    either_from new h on = record {
      only = record {
        later = on.later;
        each = λ w left. ⊎_elim (λ before. inl (stored w before)) (λ from. from.2.store) (on.since (moment site) w (omega arith) left);
        before = λ t w le left. ⊎_elim inl (λ from. inr from.2.store) (on.since t w le left);
      };
      on = on;
    }

    -- a step from here that leaves the sources
    only_from : (kept : Kept) (new : S) (step : World → World → Type 0) → Guards (left_since site (moment site)) g kept
        → ((v w : World) → left_since site (moment site) v → step v w → HasSources kept w) → GoesOn moment left_since site new step → LeavesOnly moment left_since site new (HasSources kept)
    only_from kept new step guards has on = record {
      later = on.later;
      each = λ w left. ⊎_elim (guarded kept guards w) (λ from. has from.0 w from.1 from.2) (on.since (moment site) w (omega arith) left);
      before = λ t w le left. ⊎_elim inl (λ from. inr (has from.0 w from.1 from.2)) (on.since t w le left);
    }

    -- nothing is added
    pub nothing_keeps : (kept : Kept) (new : S) → Guards (left_since site (moment site)) g kept → GoesOn moment left_since site new NoStep → LeavesOnly moment left_since site new (HasSources kept)
    nothing_keeps kept new guards on = only_from kept new NoStep guards (λ v w left none. absurd none) on

    -- a transaction that leaves a graph which guards the same sources
    pub commit_keeps : (kept : Kept) (new : S) (h : GraphState) → Guards (left_since site (moment site)) g kept → Guards (left_since site (moment site)) h kept
        → LeavesEither moment left_since site new g h → LeavesOnly moment left_since site new (HasSources kept)
    commit_keeps kept new h guards then leaves =
        only_from kept new (GraphStep g h) guards
        (λ v w left step.
        ⊎_elim (λ (store : IsStoreOf g w.store). (let has : HasSources kept w = record { graph = g; store = store; sources = ap (sources_of g) step.tree ∙ guards.each v left; only = guards.only } in has))
        (λ (store : IsStoreOf h w.store). (let has : HasSources kept w = record { graph = h; store = store; sources = ap (sources_of h) step.tree ∙ then.each v left; only = then.only } in has)) step.store) leaves.on

    -- files at owned paths change
    pub files_keep : (kept : Kept) (new : S) → Guards (left_since site (moment site)) g kept → GoesOn moment left_since site new (OwnedStep g) → LeavesOnly moment left_since site new (HasSources kept)
    files_keep kept new guards on =
        only_from kept new (OwnedStep g) guards
        (λ v w left step. (let has : HasSources kept w = record {
          graph = g;
          store = subst (IsStoreOf g) (sym step.store) (stored v left);
          sources = own_same g v.tree w.tree step.others ∙ guards.each v left;
          only = guards.only;
        } in has)) on

    -- where a crash since an earlier moment leaves these sources, the graph that stands for the store now guards them
    pub guards_now : (kept : Kept) (old : S) → IsEarlier moment left_since site → left_since site (moment site) (world site) → LeavesOnly moment left_since old site (HasSources kept)
        → Guards (left_since site (moment site)) g kept
    guards_now kept old earlier present only = record {
      each = λ w left. sym (ap (λ (k : GraphState). sources_of k w.tree) (same w left)) ∙ (has w left).sources;
      only = subst (OwnsOnly kept.may) (same (world site) present) (has (world site) present).only;
    }
      where
        has : (w : World) → left_since site (moment site) w → HasSources kept w
        has w left = only.each w (earlier (moment old) (moment site) w only.later left)

        same : (w : World) (left : left_since site (moment site) w) → (has w left).graph ≡ g
        same w left = one_store w.store (has w left).graph g (has w left).store (stored w left)

    -- a call that adds nothing, and such a call before a transaction
    pub either_quiet : (new : S) (h : GraphState) → GoesOn moment left_since site new NoStep → LeavesEither moment left_since site new g h
    either_quiet new h on = either_from new h (as_step moment left_since site new NoStep (GraphStep g h) (λ v w left none. absurd none) on)

    pub either_settled : (mid new : S) (h : GraphState) → IsEarlier moment left_since mid → GoesOn moment left_since site mid NoStep → LeavesEither moment left_since mid new g h → LeavesEither moment left_since site new g h
    either_settled mid new h earlier quiet leaves = either_from new h (nothing_then moment left_since site mid new (GraphStep g h) earlier quiet leaves.on)

    -- paths at which no source stands become owned
    pub own_keeps : (kept : Kept) (new : S) (paths : List Names) → Guards (left_since site (moment site)) g kept → HaveNoFiles kept.sources paths → All (λ path. kept.may path ≡ true) paths
        → LeavesEither moment left_since site new g (with_owned g paths) → LeavesOnly moment left_since site new (HasSources kept)
    own_keeps kept new paths guards none may leaves =
        commit_keeps kept new (with_owned g paths) guards (record {
          each = λ w left. own_more g w.tree kept.sources paths (guards.each w left) none;
          only = owns_more g paths kept.may guards.only may;
        }) leaves

  -- where a table stands for the store and the tree is settled, a crash leaves just what is there
  pub durable_now : (table : Table) (site : S) → StandsFor world moment left_since table site → PinsTree (left_since site (moment site)) (world site) → IsDurable (left_since site (moment site)) (world site)
  durable_now table site stands pins w left = λ i. record { tree = pins w left i; store = stands.rests.durable w left i }

  -- a settled tree stays so while the store is written
  pub pins_on : (g h : GraphState) (old new : S) → IsEarlier moment left_since new → PinsTree (left_since old (moment old)) (world old) → TreeStays (world old) (world new)
      → LeavesEither moment left_since old new g h → PinsTree (left_since new (moment new)) (world new)
  pins_on g h old new earlier pins same leaves w left =
      ⊎_elim (λ (before : left_since old (moment old) w). pins w before ∙ sym same) (λ from. from.2.tree ∙ pins from.0 from.1 ∙ sym same)
      (leaves.on.since (moment old) w (omega arith) (earlier (moment old) (moment new) w leaves.on.later left))

  -- the tree is settled, and paths at which no file stands are forgotten
  pub forget_keeps : (table : Table) (g : GraphState) (kept : Kept) (paths : List Names) (old mid new : S) → StandsFor world moment left_since table old → StandsFor world moment left_since table mid → IsGraphOf (entries_in table) g
      → IsEarlier moment left_since mid → left_since mid (moment mid) (world mid) → Guards (left_since old (moment old)) g kept → HaveNoFiles (world old).tree paths → world mid ≡ world old → GoesOn moment left_since old mid NoStep
      → PinsTree (left_since mid (moment mid)) (world mid) → LeavesEither moment left_since mid new g (with_forgotten g paths) → LeavesOnly moment left_since old new (HasSources kept)
  forget_keeps table g kept paths old mid new stands settled is earlier present guards none same quiet pins leaves =
      in_turn moment left_since (HasSources kept) old mid new first
      (commit_keeps table g mid settled is kept new (with_forgotten g paths) guarding (record {
        each = λ w left. own_less g w.tree paths (gone w left) ∙ guarding.each w left;
        only = owns_less g paths kept.may guarding.only;
      }) leaves)
    where
      first : LeavesOnly moment left_since old mid (HasSources kept)
      first = nothing_keeps table g old stands is kept mid guards quiet

      guarding : Guards (left_since mid (moment mid)) g kept
      guarding = guards_now table g mid settled is kept old earlier present first

      gone : (w : World) → left_since mid (moment mid) w → HaveNoFiles w.tree paths
      gone w left = subst (λ (t : Tree). HaveNoFiles t paths) (sym (pins w left ∙ ap (λ (v : World). v.tree) same)) none

  -- ---- an opening
  pub opening_keeps : (kept : Kept) (old new : S) → ((w : World) → left_since old (moment old) w → HasSources kept w) → GoesOn moment left_since old new OpenStep
      → LeavesOnly moment left_since old new (HasSources kept)
  opening_keeps kept old new had on = record {
    later = on.later;
    each = λ w left. ⊎_elim (had w) (opened w) (on.since (moment old) w (omega arith) left);
    before = λ t w le left. ⊎_elim inl (λ from. inr (opened w from)) (on.since t w le left);
  }
    where
      opened : (w : World) → Follows OpenStep (left_since old (moment old)) w → HasSources kept w
      opened w from =
          let has = had from.0 from.1 in
          let step = from.2 in
          record {
            graph = has.graph;
            store = record {
              entries = step.entries;
              leaves = step.after;
              stands = subst (λ (es : Standing). IsGraphOf es has.graph) (entries_one from.0.store has.store.entries step.entries has.store.leaves step.before) has.store.stands;
            };
            sources = ap (sources_of has.graph) step.tree ∙ has.sources;
            only = has.only;
          }
