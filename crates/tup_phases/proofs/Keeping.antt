-- What the phases keep of a site that was kept.
use Rattle.std.proofs.Common.{◌≡◌, ℕ, ◌≤◌, List, Option, Some, All, Contains, IsTrue, true, false, sym, ap, subst, ◌∙◌, arith}
use Rattle.std.specs.Prelude.{option_to_list}
use Rattle.std.specs.FinMap as finite
use Rattle.tup_path.specs.Name.{Names, Content}
use Rattle.tup_path.specs.Tree.{Tree}
use Rattle.tup_path.proofs.Same.{same_tree}
use Rattle.tup_stamp.specs.declared.Stamp.{Stamp}
use Rattle.tup_site.specs.Crash.{GoesOn, NoStep}
use Rattle.tup_site.specs.Known.{Keeps, knows}
use Rattle.tup_site.specs.World.{World, TreeStays}
use Rattle.tup_site.specs.declared.site.Site.{Ghosts as Site}
use Rattle.tup_rule.specs.Rule.{among}
use Rattle.tup_rule.specs.declared.question.Reading.{Reading}
use Rattle.tup_rule.specs.declared.rule.Rule.{Rule}
use Rattle.tup_record.specs.declared.run.RunRecord.{RunRecord}
use Rattle.tup_runner.specs.Next.{Next}
use Rattle.tup_table.specs.Images.{OpenStep}
use Rattle.tup_table.specs.Table.{entries_in}
use Rattle.tup_table.proofs.Going.{as_step, then_on}
use Rattle.tup_graph.specs.Graph.{GraphState, is_owned}
use Rattle.tup_graph.specs.Kept.{Asked, IsGraphIn, IsKept, IsKeptSite, IsUnflagged, file_beside}
use Rattle.tup_graph.specs.Opening.{IsGraphOf}
use Rattle.tup_graph.specs.Reach.{stamp_in}
use Rattle.tup_stored_graph.specs.Held.{Held, StandsFor}
use Rattle.tup_ledger.specs.Sources.{sources_of}
use Rattle.tup_commit.specs.Crash.{LeavesScanned, LeavesSwapped}
use Rattle.tup_law_graph.specs.Fitting.{AreFitting}
use Rattle.tup_law_graph.proofs.Edited.{site_more}
use Rattle.tup_law_site.specs.Over.{IsKeptNow, StandsOver}
use Rattle.tup_law_site.proofs.Laws.{before, keeps_read, keeps_scan, keeps_swap, kept_before}
use Rattle.tup_law_site.proofs.Opened.{opened_remains}
use Rattle.tup_law_site.proofs.Remaining.{remains_now, sources_before}
use Rattle.tup_law_site.proofs.Stores.{one_in_bytes}
use Rattle.tup_stale.specs.Crash.{ClearStep, LeavesBy}
use Rattle.tup_stale.specs.Cleared.{SparesUsers}
use Rattle.tup_stale.specs.Files.{SameBeside}
use Rattle.tup_stale.specs.Unmade.{standing, unmade}
use Rattle.tup_board.proofs.Known.{keeps_all}
use Rattle.tup_law_board.proofs.Cleared.{cleared_remains}
use Rattle.tup_law_board.proofs.Leaving.{cleared_now}
use Rattle.tup_law_board.proofs.Unasked.{not_asked}
use Rattle.tup_law_board.proofs.Unmade.{unmade_at}
use Rattle.tup_law_phases.specs.Language.{tupfiles}
use Rattle.tup_law_phases.proofs.Seen.{is_beside, sees}
use Rattle.tup_promise.specs.Kept.{AsksFor}
use Rattle.tup_phases.specs.Kept.{IsKeptSince, KeepsOn, LeavesFiles}
use Rattle.tup_phases.specs.Prepared.{HasSeen}

-- contents that are known still
pub keeps_same : (old new : List Content) → new ≡ old → Keeps old new
keeps_same old new same content is = subst (λ (known : List Content). IsTrue (knows known content)) (sym same) is

-- ---- files that stay
module _ {S : Type 0} (site : Site S) where
  pub files_read : (old new : S) → site.world new ≡ site.world old → GoesOn site.moment site.left_since old new NoStep → site.known new ≡ site.known old → LeavesFiles site old new
  files_read old new same on known = record { later = on.later; tree = ap (λ (w : World). w.tree) same; known = known }

  pub files_both : (old mid new : S) → LeavesFiles site old mid → LeavesFiles site mid new → LeavesFiles site old new
  files_both old mid new one two = record { later = omega (arith, one.later, two.later); tree = two.tree ∙ one.tree; known = two.known ∙ one.known }

  module _ (next : Next) (first : World) (since : ℕ) where
    -- what is kept of what a crash may leave, where the same contents are known
    pub since_on : (old new : S) → LeavesFiles site old new → since ≤ site.moment old → IsKeptSite next tupfiles (site.known old) first (site.left_since new since) → IsKeptSince site next first since new
    since_on old new files began kept = record {
      began = omega (arith, began, files.later);
      kept = subst (λ (known : List Content). IsKeptSite next tupfiles known first (site.left_since new since)) (sym files.known) kept;
    }

    pub since_read : (old new : S) → LeavesFiles site old new → GoesOn site.moment site.left_since old new NoStep → IsKeptSince site next first since old → IsKeptSince site next first since new
    since_read old new files on kept = since_on old new files kept.began (keeps_read site next tupfiles (site.known old) first since old new kept.began kept.kept on)

    abbrev pub over : (graph : Held) (at : S) → StandsFor site.world site.moment site.left_since graph at → IsGraphOf (entries_in graph.table) graph.nodes → IsKeptSince site next first since at
        → StandsOver site next tupfiles (site.known at) first since graph at
    over graph at stands is kept = record { began = kept.began; stands = stands; is_graph = is; kept = kept.kept }

  -- a site that is kept as it is, is kept since now
  pub since_now : (next : Next) (at : S) → IsKeptNow site next tupfiles (site.known at) at → IsKeptSince site next (site.world at) (site.moment at) at
  since_now next at kept = record { began = omega arith; kept = kept }

module _ {S : Type 0} (site : Site S) (tells : IsTrue site.tells) (earlier : (s : S) (t u : ℕ) (w : World) → IsTrue site.tells → t ≤ u → site.left_since s u w → site.left_since s t w)
    (present : (s : S) → IsTrue site.tells → site.left_since s (site.moment s) (site.world s)) where
  -- as it is, a site whose files stayed is kept
  pub now_kept : (next : Next) (old new : S) → LeavesFiles site old new → IsKeptSince site next (site.world old) (site.moment old) new → IsKeptNow site next tupfiles (site.known new) new
  now_kept next old new files kept =
      remains_now site next tupfiles (site.known new) old new (present new tells) (before site tells earlier present new) files.later files.tree kept.kept

  -- what a crash may leave of files, by a step that leaves them, and by two phases one behind the other
  pub trees_by : (old new : S) (step : World → World → Type 0) → ((v w : World) → step v w → TreeStays v w) → GoesOn site.moment site.left_since old new step → GoesOn site.moment site.left_since old new TreeStays
  trees_by old new step stays on = as_step site.moment site.left_since old new step TreeStays (λ v w left one. stays v w one) on

  pub trees_both : (old mid new : S) → GoesOn site.moment site.left_since old mid TreeStays → GoesOn site.moment site.left_since mid new TreeStays → GoesOn site.moment site.left_since old new TreeStays
  trees_both old mid new one two = then_on site.moment site.left_since old mid new TreeStays (before site tells earlier present mid) (λ u v w before after. after ∙ before) one two

  -- a store is opened
  pub opened_keeps : (old new : S) → LeavesFiles site old new → GoesOn site.moment site.left_since old new OpenStep → KeepsOn site old new
  opened_keeps old new leaves on = λ next first since kept.
      since_on site next first since old new leaves kept.began
      (opened_remains site next tupfiles (site.known old) first since old new kept.began kept.kept (before site tells earlier present old) on)

  -- ---- a graph over what is kept
  module _ (next : Next) (first : World) (since : ℕ) (graph : Held) (at : S) (stands : StandsFor site.world site.moment site.left_since graph at) (is : IsGraphOf (entries_in graph.table) graph.nodes)
      (kept : IsKeptSince site next first since at) where
    abbrev over_it : StandsOver site next tupfiles (site.known at) first since graph at
    over_it = over site next first since graph at stands is kept

    pub graph_kept : IsKept next tupfiles (site.known at) graph.nodes
    graph_kept = kept_before site tells earlier present next tupfiles (site.known at) first since graph at at over_it

    -- the graph of the world that was there first is kept too, and beside its files stand the same sources
    module _ (was : GraphState) (stored : IsGraphIn first.store was) where
      first_is : kept.kept.now.graph ≡ was
      first_is = one_in_bytes first.store kept.kept.now.graph was kept.kept.now.reads stored

      pub first_kept : IsKept next tupfiles (site.known at) was
      first_kept = subst (IsKept next tupfiles (site.known at)) first_is kept.kept.now.kept

      pub same_sources : sources_of graph.nodes (site.world at).tree ≡ sources_of was first.tree
      same_sources =
          same_tree (sources_of graph.nodes (site.world at).tree) (sources_of was first.tree) (λ path.
          sym (is_beside (site.world at) graph.nodes path)
          ∙ sources_before site next tupfiles (site.known at) first since graph at over_it (before site tells earlier present at) (site.world at) (present at tells) path
          ∙ ap (λ (g : GraphState). file_beside first g path) first_is ∙ is_beside first was path)

    -- no rule that isn't flagged asked a path that is to be cleared
    pub unread : HasSeen graph.nodes (site.world at).tree → AsksFor first graph.nodes.rules → (number : ℕ) (rule : Rule) (run : RunRecord) (path : Names) (given : Option Stamp) → IsUnflagged graph.nodes number rule
        → finite.get graph.nodes.runs number ≡ Some run → Asked rule run path given → among path (unmade graph.nodes) ≡ false
    unread seen (was, stored, comes) =
        not_asked next tupfiles (site.known at) graph.nodes (sources_of was first.tree) graph_kept comes
        (λ path. sees graph.nodes (site.world at).tree seen path ∙ ap (λ (sources : Tree). stamp_in sources path) (same_sources was stored))

  -- ---- a scan is noted
  pub noted_keeps : (graph : Held) (mid new : S) (files : List (Names × Stamp)) (config : Option Content) → LeavesFiles site mid new → StandsFor site.world site.moment site.left_since graph mid
      → IsGraphOf (entries_in graph.table) graph.nodes → All (Contains (site.known mid)) (option_to_list config) → LeavesScanned site.moment site.left_since mid new graph.nodes files config → KeepsOn site mid new
  noted_keeps graph mid new files config leaves stands is knows_it crash = λ next first since kept.
      since_on site next first since mid new leaves kept.began
      (keeps_scan site tells earlier present next tupfiles (site.known mid) first since graph mid new (over site next first since graph mid stands is kept) files config knows_it crash)

  -- ---- readings and rules are swapped in
  pub swapped_keeps : (next : Next) (first : World) (since : ℕ) (graph : Held) (old new : S) (fresh : List (Names × Reading)) (gone : List Names) (rules : List Rule) → LeavesFiles site old new
      → StandsFor site.world site.moment site.left_since graph old → IsGraphOf (entries_in graph.table) graph.nodes → HasSeen graph.nodes (site.world old).tree → AreFitting tupfiles (site.known old) graph.nodes fresh gone rules
      → ((was : GraphState) (path : Names) → IsGraphIn first.store was → is_owned was path ≡ true → is_owned graph.nodes path ≡ true) → LeavesSwapped site.moment site.left_since old new graph.nodes fresh gone rules
      → IsKeptSince site next first since old → IsKeptSince site next first since new
  swapped_keeps next first since graph old new fresh gone rules leaves stands is seen fits owned_still crash kept =
      since_on site next first since old new leaves kept.began
      (keeps_swap site tells earlier present next tupfiles (site.known old) first since graph old new (over site next first since graph old stands is kept) fresh gone rules fits seen owned_still crash)

  -- ---- paths are cleared
  module _ (next : Next) (first : World) (since : ℕ) (graph now : Held) (old new : S) (stands : StandsFor site.world site.moment site.left_since graph old) (is : IsGraphOf (entries_in graph.table) graph.nodes)
      (seen : HasSeen graph.nodes (site.world old).tree) (asks : AsksFor first graph.nodes.rules) (keeps : Keeps (site.known old) (site.known new))
      (leaves : LeavesBy site.moment site.left_since old new (ClearStep graph.nodes (unmade graph.nodes) (standing (site.world old).tree (unmade graph.nodes)) (site.world old).tree))
      (kept : IsKeptSince site next first since old) where
    more : (content : Content) → Contains (site.known old) content → Contains (site.known new) content
    more = keeps_all (site.known old) (site.known new) keeps

    not_read : (number : ℕ) (rule : Rule) (run : RunRecord) (path : Names) (given : Option Stamp) → IsUnflagged graph.nodes number rule → finite.get graph.nodes.runs number ≡ Some run → Asked rule run path given
        → among path (unmade graph.nodes) ≡ false
    not_read = unread next first since graph old stands is kept seen asks

    pub cleared_keeps : IsKeptSince site next first since new
    cleared_keeps = record {
      began = (let later = leaves.on.later in let began = kept.began in omega (arith, began, later));
      kept =
          site_more next tupfiles (site.known old) (site.known new) more first (site.left_since new since)
          (cleared_remains site next tupfiles (site.known old) first since graph old (over site next first since graph old stands is kept) (before site tells earlier present old) (present old tells)
          (unmade graph.nodes) (unmade_at graph.nodes) not_read new leaves.on);
    }

    pub cleared_present : IsKeptNow site next tupfiles (site.known old) old → SameBeside (standing (site.world old).tree (unmade graph.nodes)) (site.world old).tree (site.world new).tree
        → SparesUsers site.world site.moment site.left_since (unmade graph.nodes) graph now old new → IsKeptNow site next tupfiles (site.known new) new
    cleared_present here others spares =
        site_more next tupfiles (site.known old) (site.known new) more (site.world new) (site.left_since new (site.moment new))
        (cleared_now site next tupfiles (site.known old) graph now old new (over site next (site.world old) (site.moment old) graph old stands is (since_now site next old here)) (before site tells earlier present) (λ s. present s tells)
        not_read others spares leaves)
