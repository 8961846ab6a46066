-- One graph stands in the bytes of a store.
use Rattle.std.proofs.Common.{◌≡◌, ℕ, List, Ok, refl, sym, ap, subst}
use Rattle.tup_table.specs.Entries.{Standing, entries_of}
use Rattle.tup_table.specs.Reading.{opened_of}
use Rattle.tup_table.specs.Store.{IsStore}
use Rattle.tup_table.specs.declared.change.Change.{Change}
use Rattle.tup_table.specs.declared.opened.Opened.{Opened}
use Rattle.tup_table.proofs.Stores.{reads_one}
use Rattle.tup_graph.specs.Graph.{GraphState}
use Rattle.tup_graph.specs.Kept.{IsGraphIn}
use Rattle.tup_graph.specs.Opening.{IsGraphOf}
use Rattle.tup_graph.proofs.OneWay.{one_graph}
use Rattle.tup_stored_graph.specs.Crash.{IsStoreOf}

pub in_bytes : (g : GraphState) (bytes : List ℕ) → IsStoreOf g bytes → IsGraphIn bytes g
in_bytes g bytes is = record {
  commits = is.leaves.0;
  reads = is.leaves.1;
  graph = subst (λ (entries : Standing). IsGraphOf entries g) is.leaves.2 is.stands;
}

-- bytes are a store of the same entries, whichever commits they are read as
pub one_standing : (bytes : List ℕ) (one other : List (List Change)) → IsStore bytes one → IsStore bytes other → entries_of one ≡ entries_of other
one_standing bytes one other is also =
    let both : Ok (opened_of one) ≡ Ok (opened_of other) = reads_one bytes (Ok (opened_of one)) (Ok (opened_of other)) (one, is, refl) (other, also, refl) in
    let opened : opened_of one ≡ opened_of other = cc in
    ap (λ (o : Opened). o.entries) opened

pub one_in_bytes : (bytes : List ℕ) (g h : GraphState) → IsGraphIn bytes g → IsGraphIn bytes h → g ≡ h
one_in_bytes bytes g h one other =
    one_graph (entries_of one.commits) g h one.graph
    (subst (λ (e : Standing). IsGraphOf e h) (sym (one_standing bytes one.commits other.commits one.reads other.reads)) other.graph)
