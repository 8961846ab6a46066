-- A store in which a graph stands is there, and isn't damaged.
use Rattle.std.proofs.Common.{◌≡◌, ℕ, List, [], Result, Ok, Err, ⊎_elim, refl, ap, subst}
use Rattle.tup_table.specs.Entries.{Standing}
use Rattle.tup_table.specs.Reading.{opened_of}
use Rattle.tup_table.specs.Store.{IsStore}
use Rattle.tup_table.specs.declared.fault.TableFault.{TableFault}
use Rattle.tup_table.specs.declared.fault.TableFault.TheVariants as table
use Rattle.tup_table.specs.declared.opened.Opened.{Opened}
use Rattle.tup_table.proofs.Stores.{not_empty, reads_one}
use Rattle.tup_graph.specs.Graph.{GraphState}
use Rattle.tup_graph.specs.Kept.{IsGraphIn}
use Rattle.tup_graph.specs.Opening.{IsGraphOf}
use Rattle.tup_graph.proofs.OneWay.{not_broken}
use Rattle.tup_promise.specs.Unopened.{IsDamaged}

pub some_bytes : (bytes : List ℕ) (g : GraphState) → IsGraphIn bytes g → bytes ≡ [] → ⊥
some_bytes bytes g is none = not_empty is.commits (subst (λ (b : List ℕ). IsStore b is.commits) none is.reads)

pub undamaged : (bytes : List ℕ) (g : GraphState) (offset : ℕ) → IsGraphIn bytes g → IsDamaged bytes offset → ⊥
undamaged bytes g offset is (left, opens) =
    ⊎_elim
    (λ damaged. let one : ◌≡◌ {A = Result Opened TableFault} (Ok (opened_of is.commits)) (Err (table.BadStore offset)) = reads_one bytes (Ok (opened_of is.commits)) (Err (table.BadStore offset)) (is.commits, is.reads, refl) damaged.0 in absurd (cc one))
    (λ broken.
    let one : ◌≡◌ {A = Result Opened TableFault} (Ok (opened_of is.commits)) (Ok broken.opened) = reads_one bytes (Ok (opened_of is.commits)) (Ok broken.opened) (is.commits, is.reads, refl) broken.reads in
    let same : opened_of is.commits ≡ broken.opened = cc one in
    not_broken broken.opened.entries g offset (subst (λ (es : Standing). IsGraphOf es g) (ap (λ (o : Opened). o.entries) same) is.graph) broken.broken) opens
