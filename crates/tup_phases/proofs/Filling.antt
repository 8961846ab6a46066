-- What a store lacks room for that is said to be full.
use Rattle.std.proofs.Common.{◌≡◌, ◌≢◌, ◌⊎◌, inl, inr, ⊎_elim, IsTrue, List, Result, Err, refl, sym, ap, subst}
use Rattle.tup_path.specs.Name.{Names}
use Rattle.tup_site.specs.World.{World}
use Rattle.tup_site.specs.declared.site.Site.{Ghosts as Site}
use Rattle.tup_table.specs.Table.{entries_in}
use Rattle.tup_project.specs.declared.fault.ProjectFault.{ProjectFault}
use Rattle.tup_project.specs.declared.fault.ProjectFault.TheVariants as project
use Rattle.tup_graph.specs.Opening.{IsGraphOf}
use Rattle.tup_graph.specs.Transactions.{doom_edits, forget_edits, with_doomed}
use Rattle.tup_graph.specs.declared.edit.Edit.{Edit}
use Rattle.tup_graph.specs.declared.fault.GraphFault.{GraphFault}
use Rattle.tup_graph.specs.declared.fault.GraphFault.TheVariants as graph
use Rattle.tup_stored_graph.specs.Held.{Held, StandsFor, is_fresh}
use Rattle.tup_stored_graph.specs.Transaction.{IsFull}
use Rattle.tup_stored_graph.proofs.Fresh.{after_is_fresh}
use Rattle.tup_scan.specs.declared.fault.ScanFault.{ScanFault}
use Rattle.tup_scan.specs.declared.fault.ScanFault.TheVariants as scan
use Rattle.tup_commit.specs.Noted.{Notes}
use Rattle.tup_refresh.specs.declared.fault.RefreshFault.{RefreshFault}
use Rattle.tup_refresh.specs.declared.fault.RefreshFault.TheVariants as refresh
use Rattle.tup_stale.specs.Cleared.{CannotDoom, CannotForget, AtFirst, Removed, Leaves}
use Rattle.tup_stale.specs.Unmade.{unmade}
use Rattle.tup_stale.specs.declared.fault.StaleFault.{StaleFault}
use Rattle.tup_stale.specs.declared.fault.StaleFault.TheVariants as stale
use Rattle.tup_promise.specs.Stopped.{stop_of_graph, stop_of_project, stop_of_refresh, stop_of_scan, stop_of_stale}
use Rattle.tup_phases.specs.Room.{AreNext, FillsStore, LacksRoom}

-- what never says so
module _ (w : World) where
  pub scan_fills : (fault : ScanFault) → FillsStore w (stop_of_scan fault)
  scan_fills scan.Site = tt
  scan_fills (scan.TooLarge n) = tt
  scan_fills (scan.TooManyFiles n) = tt
  scan_fills scan.Memory = tt

  pub refresh_fills : (fault : RefreshFault) → FillsStore w (stop_of_refresh fault)
  refresh_fills (refresh.Parse fault) = tt
  refresh_fills (refresh.Circular dirs) = tt
  refresh_fills refresh.Site = tt
  refresh_fills (refresh.TooLarge n) = tt
  refresh_fills refresh.Memory = tt

  pub link_fills : (fault : ProjectFault) → FillsStore w (stop_of_project fault)
  link_fills (project.Parse fault) = tt
  link_fills (project.CircularDirs dirs) = tt
  link_fills (project.NoSuchGroup group) = tt
  link_fills (project.CircularCommands names) = tt
  link_fills (project.TooMany what number) = tt
  link_fills project.Memory = tt

  -- an opening
  pub open_fills : (fault : GraphFault) → fault ≢ graph.Full → FillsStore w (stop_of_graph fault)
  open_fills graph.NotThere never = tt
  open_fills (graph.BadStore offset) never = tt
  open_fills graph.Site never = tt
  open_fills graph.Full never = absurd (never refl)
  open_fills graph.Memory never = tt

  -- nor does a compaction, which only the outside stops
  pub outside_fills : (fault : GraphFault) → (fault ≡ graph.Site) ⊎ (fault ≡ graph.Memory) → FillsStore w (stop_of_graph fault)
  outside_fills fault why =
      ⊎_elim (λ failed. subst (λ (f : GraphFault). FillsStore w (stop_of_graph f)) (sym failed) tt) (λ memory. subst (λ (f : GraphFault). FillsStore w (stop_of_graph f)) (sym memory) tt) why

-- a graph stands for the store of a site
module _ {S : Type 0} (site : Site S) (held : Held) (at : S) (stands : StandsFor site.world site.moment site.left_since held at) (is : IsGraphOf (entries_in held.table) held.nodes) where
  pub lacks : (edits : List Edit) → AreNext held.nodes (site.world at).tree edits → IsFull held edits → LacksRoom (site.world at)
  lacks edits next full = record {
    graph = held;
    stands = record { commits = stands.commits; rests = stands.rests.bytes; entries = stands.entries; gate = stands.gate; nodes = is };
    edits = edits;
    next = next;
    full = full;
  }

  -- a commit of edits says so where there is no room for them, and leaves the site as it was
  pub note_fills : (Are : List Edit → Type 0) (new : Held) (now : S) (result : Result (Unit {0}) GraphFault) (fault : GraphFault) → result ≡ Err fault → Notes Are held new at now result
      → ((edits : List Edit) → Are edits → AreNext held.nodes (site.world at).tree edits) → FillsStore (site.world now) (stop_of_graph fault)
  note_fills Are new now result fault is notes next = by fault (subst (Notes Are held new at now) is notes)
    where
      by : (why : GraphFault) → Notes Are held new at now (Err why) → FillsStore (site.world now) (stop_of_graph why)
      by graph.NotThere noted = tt
      by (graph.BadStore offset) noted = tt
      by graph.Site noted = tt
      by graph.Full noted = subst (λ (s : S). LacksRoom (site.world s)) (sym noted.leaves.2) (lacks noted.edits (next noted.edits noted.are) noted.leaves.0)
      by graph.Memory noted = tt

-- a clearing says so where there is no room for its first commit, or, once the files are gone, for its second
module _ {S : Type 0} (site : Site S) (tells : IsTrue site.tells) (old new : Held) (before now : S) (files : List Names) (fresh : IsTrue (is_fresh old)) (stands : StandsFor site.world site.moment site.left_since old before)
    (is : IsGraphOf (entries_in old.table) old.nodes) (stands_now : IsTrue (is_fresh new) → StandsFor site.world site.moment site.left_since new now) (sound : IsTrue (is_fresh new) → IsGraphOf (entries_in new.table) new.nodes) where
  abbrev paths : List Names
  paths = unmade old.nodes

  by_doom : CannotDoom old paths → AtFirst site.tells paths files old new (site.world before) (site.world now) → LacksRoom (site.world now)
  by_doom cannot first =
      subst LacksRoom (sym (first.1 tells)) (lacks site old before stands is (doom_edits old.nodes paths) (inr (inr (inl refl))) cannot)

  by_forget : CannotForget old paths → Removed site.tells paths files old new (site.world before) (site.world now) → LacksRoom (site.world now)
  by_forget cannot removed =
      let is_new = removed.0 in
      let fresh_now : IsTrue (is_fresh new) = subst (λ (h : Held). IsTrue (is_fresh h)) (sym is_new) (after_is_fresh old (doom_edits old.nodes paths) (with_doomed old.nodes paths) fresh) in
      let nodes_are : new.nodes ≡ with_doomed old.nodes paths = ap (λ (h : Held). h.nodes) is_new in
      let edits = forget_edits (with_doomed old.nodes paths) paths in
      lacks site new now (stands_now fresh_now) (sound fresh_now) edits (inr (inr (inr (old.nodes, nodes_are, ap (λ (h : Held). forget_edits h.nodes paths) (sym is_new)))))
      (subst (λ (h : Held). IsFull h edits) (sym is_new) cannot)

  pub clear_fills : (fault : StaleFault) → Leaves site.tells paths files old new (site.world before) (site.world now) {T = List Names} (Err fault) → FillsStore (site.world now) (stop_of_stale fault)
  clear_fills (stale.UserFile path written found) leaves = tt
  clear_fills stale.Site leaves = tt
  clear_fills (stale.TooLarge n) leaves = tt
  clear_fills stale.Full leaves = ⊎_elim (λ doom. by_doom doom.0 doom.1) (λ forget. by_forget forget.0 forget.1) leaves
  clear_fills stale.Memory leaves = tt
