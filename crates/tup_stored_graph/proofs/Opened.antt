-- What opening a graph answers where its table isn't opened, and where a record doesn't read or fit.
use Rattle.std.proofs.Common.{◌≡◌, ◌⊎◌, ℕ, List, Ok, Err, sym, ap, subst, ⊎_elim, inl, inr}
use Rattle.tup_site.specs.World.{World}
use Rattle.tup_table.specs.Cause.{IsOutside}
use Rattle.tup_table.specs.Entries.{Standing}
use Rattle.tup_table.specs.Images.{rested}
use Rattle.tup_table.specs.Reading.{ReadsAs}
use Rattle.tup_table.specs.Table.{entries_in, opened_in, OpensAs as TableOpensAs}
use Rattle.tup_table.specs.declared.fault.TableFault.{TableFault}
use Rattle.tup_table.specs.declared.fault.TableFault.TheVariants as table
use Rattle.tup_table.specs.declared.table.Table.{Table}
use Rattle.tup_graph.specs.Fault.{fault_of}
use Rattle.tup_graph.specs.Opening.{IsBroken}
use Rattle.tup_graph.specs.declared.fault.GraphFault.{GraphFault}
use Rattle.tup_graph.specs.declared.fault.GraphFault.TheVariants.{BadStore, Memory}
use Rattle.tup_stored_graph.specs.Opening.{OpensAs}

pub open_refused : (bytes left : List ℕ) (t : Table) (es : Standing) (f : GraphFault) → ReadsAs bytes (Ok (opened_in t)) → left ≡ rested bytes (opened_in t) → es ≡ entries_in t
    → (f ≡ Memory) ⊎ ((offset : ℕ) × (f ≡ BadStore offset) × IsBroken es offset) → OpensAs bytes left (Err f)
open_refused bytes left t es f reads closes is why =
    ⊎_elim (λ memory. subst (λ (f : GraphFault). OpensAs bytes left (Err f)) (sym memory) tt)
    (λ broken. subst (λ (f : GraphFault). OpensAs bytes left (Err f)) (sym broken.1)
    (inr (record {
      opened = opened_in t;
      reads = reads;
      broken = subst (λ (es : Standing). IsBroken es broken.0) is broken.2;
      closes = closes;
    }))) why

pub open_failed : (v w : World) (f : TableFault) → TableOpensAs v.store (Err f) → IsOutside f ⊎ (w ≡ v) → OpensAs v.store w.store (Err (fault_of f))
open_failed v w table.NotThere opens refused = (opens, ⊎_elim (λ outside. ⊎_elim (λ is. absurd (cc)) (λ is. absurd (cc)) outside) (λ same. ap (λ (u : World). u.store) same) refused)
open_failed v w (table.BadStore offset) opens refused = inl (opens, ⊎_elim (λ outside. ⊎_elim (λ is. absurd (cc)) (λ is. absurd (cc)) outside) (λ same. ap (λ (u : World). u.store) same) refused)
open_failed v w table.Site opens refused = tt
open_failed v w table.Full opens refused = absurd opens
open_failed v w table.Memory opens refused = tt
