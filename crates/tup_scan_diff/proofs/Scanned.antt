-- The edits of a scan, of what was found.
use Rattle.std.specs.Prelude.{◌≡◌, ◌↔◌, ℕ, List, ◌++◌, Option, Contains}
use Rattle.std.proofs.Common.{subst, ◌∙◌}
use Rattle.std.specs.BTreeSet.{BTreeSet, IsOrdered}
use Rattle.std.specs.FinMap as finite
use Rattle.std.specs.List.Sorted.{IsStrictlySortedBy}
use Rattle.std.specs.Ordering.{nat_cmp}
use Rattle.tup_path.specs.Name.{Names, Content}
use Rattle.tup_path.specs.Order.{by_names}
use Rattle.tup_path.proofs.Same.{by_names-decides}
use Rattle.tup_stamp.specs.declared.Stamp.{Stamp}
use Rattle.tup_graph.specs.declared.edit.Edit.{Edit}
use Rattle.tup_graph.specs.Above.{IsAbove}
use Rattle.tup_graph.specs.Graph.{GraphState}
use Rattle.tup_graph.specs.Scan.{IsStale}
use Rattle.tup_closure.proofs.Members.{contained, in_set}
use Rattle.tup_scan_diff.specs.Edits.{AreScanEdits, seen_edits, create_edits, modify_edits}
use Rattle.tup_scan_diff.specs.Present.{graph_of, seeing, stamps_in}
use Rattle.tup_scan_diff.specs.Sets.{Has}
use Rattle.tup_scan_diff.specs.Touched.{IsRootIn, IsScanRoot}
use Rattle.tup_scan_diff.specs.declared.present.Present.{Present}

module _ (nodes : GraphState) (files : List (Names × Stamp)) (config : Option Content) (present : Present) (dirs : BTreeSet Names) (numbers : List ℕ)
    (same : present.nodes.now ≡ nodes) (stamps : stamps_in present ≡ finite.from_entries files) where
  abbrev found : GraphState
  found = seeing nodes (finite.from_entries files)

  here : graph_of present ≡ found
  here = λ i. seeing (same i) (stamps i)

  abbrev made : List Edit
  made = seen_edits present.nodes.now (stamps_in present) ++ create_edits present.nodes.now dirs.keys ++ modify_edits present.nodes.now numbers

  module _ (stale : (dir : Names) → Has by_names dirs dir ↔ IsStale (graph_of present) config dir) (once : IsOrdered by_names dirs)
      (above : (n : ℕ) → Contains numbers n ↔ IsAbove (graph_of present) (IsRootIn present) n) (ascending : IsStrictlySortedBy nat_cmp numbers) where
    pub noted : (edits : List Edit) → edits ≡ made → AreScanEdits nodes files config edits
    noted edits is = record {
      dirs = dirs.keys;
      numbers = numbers;
      stale = λ dir.
          (let now = subst (λ (h : GraphState). Has by_names dirs dir ↔ IsStale h config dir) here (stale dir) in
          (λ h. now.0 (in_set by_names by_names-decides dirs dir h), λ is_stale. contained by_names by_names-decides dirs dir (now.1 is_stale)));
      dirs_once = once;
      above = λ n. subst (λ (h : GraphState × GraphState). Contains numbers n ↔ IsAbove h.1 (IsScanRoot h.0 h.1) n) (λ i. (same i, here i)) (above n);
      numbers_once = ascending;
      all = is ∙ λ i. seen_edits (same i) (stamps i) ++ create_edits (same i) dirs.keys ++ modify_edits (same i) numbers;
    }
