use Rattle.std.proofs.Common.{◌≡◌, ◌⊎◌, List, ℕ, Ok, Err, sym, ap, subst, ◌∙◌, inl, inr}
use Rattle.tup_site.specs.World.{World}
use Rattle.tup_table.specs.Images.{OpenStep, rested}
use Rattle.tup_table.specs.Reading.{ReadsAs, FindsAs, WasFound, opened_by}
use Rattle.tup_table.specs.Table.{StandsFor, opened_in, table_of}
use Rattle.tup_table.specs.declared.fault.TableFault.TheVariants.{Memory}
use Rattle.tup_table.specs.declared.found.Found.{Found}
use Rattle.tup_table.specs.declared.opened.Opened.{Opened}
use Rattle.tup_table.specs.declared.table.Table.{Table}
use Rattle.tup_table.proofs.Going.{nothing_then}
use Rattle.tup_table.proofs.Stores.{found_reads}
use Rattle.tup_table.proofs.table.Table.open.Goals as goal

found_ok : (bytes : List ℕ) (found : Found) → (Ok found ≡ Err Memory) ⊎ FindsAs bytes (Ok found) → WasFound bytes found
found_ok bytes found (inl memory) = absurd (cc)
found_ok bytes found (inr was) = was

-- the table that is made of what was found
made : (found : Found) (opened : Opened) (table : Table) → opened ≡ opened_by found → table ≡ table_of opened → table ≡ table_of (opened_by found)
made found opened table is made_of = made_of ∙ ap table_of is

pub settle_found-requires-clause-found : goal.settle_found-requires-clause-found
settle_found-requires-clause-found g c =
    subst (λ (b : List ℕ). WasFound b c.in_ok-found.found) (c.deref.ensures.value ∙ sym c.deref-2.ensures.value) (found_ok c.deref.result.now c.in_ok-found.found c.in_ok-found.ensures)

pub settle_found-requires-clause-bytes : goal.settle_found-requires-clause-bytes
settle_found-requires-clause-bytes g c = λ tells.
    c.deref-2.ensures.value ∙ c.in_ok-bytes.ensures.bytes tells ∙ sym (ap (λ (w : World). w.store) (c.durable_bytes.ensures.same tells))

pub returns-clause-opens : goal.returns-clause-opens
returns-clause-opens g c = λ tells.
    let found = c.in_ok-found.found in
    let reads = found_reads c.deref.result.now found (found_ok c.deref.result.now found c.in_ok-found.ensures) in
    let is = made found c.opened.result c.of.result c.opened.ensures c.of.ensures in
    subst (λ (t : Table). ReadsAs (g.S.Site.world c.args.site.now).store (Ok (opened_in t))) (sym is)
    (subst (λ (b : List ℕ). ReadsAs b (Ok (opened_by found))) (c.deref.ensures.value ∙ c.in_ok-bytes.ensures.bytes tells) reads)

pub returns-clause-stands : goal.returns-clause-stands
returns-clause-stands g c = λ tells.
    subst (λ (t : Table). StandsFor g.S.Site.world g.S.Site.moment g.S.Site.left_since t c.settle_found.new.site) (sym (made c.in_ok-found.found c.opened.result c.of.result c.opened.ensures c.of.ensures))
    (c.in_ok-settle_found.ensures.stands tells)

pub returns-clause-store : goal.returns-clause-store
returns-clause-store g c = λ tells.
    let found = c.in_ok-found.found in
    let is = made found c.opened.result c.of.result c.opened.ensures c.of.ensures in
    c.in_ok-settle_found.ensures.store tells
    ∙ ap (λ (b : List ℕ). rested b (opened_by found)) (c.deref-2.ensures.value ∙ c.in_ok-bytes.ensures.bytes tells)
    ∙ ap (λ (t : Table). rested (g.S.Site.world c.args.site.now).store (opened_in t)) (sym is)

-- the calls, of which the first adds nothing
pub returns-in_err-settle_found-clause-crash : goal.returns-in_err-settle_found-clause-crash
returns-in_err-settle_found-clause-crash g c = λ tells.
    let site_laws = g.met.S.Site in
    let mid = c.durable_bytes.new.site in
    nothing_then g.S.Site.moment g.S.Site.left_since c.args.site.now mid c.settle_found.new.site OpenStep (λ t u w le left. site_laws.earlier mid t u w tells le left) (c.durable_bytes.ensures.crash tells)
    (c.settle_found.ensures.crash tells)

pub returns-clause-crash : goal.returns-clause-crash
returns-clause-crash g c = λ tells.
    let site_laws = g.met.S.Site in
    let mid = c.durable_bytes.new.site in
    nothing_then g.S.Site.moment g.S.Site.left_since c.args.site.now mid c.settle_found.new.site OpenStep (λ t u w le left. site_laws.earlier mid t u w tells le left) (c.durable_bytes.ensures.crash tells)
    (c.settle_found.ensures.crash tells)

pub returns-in_err-settle_found-clause-keeps : goal.returns-in_err-settle_found-clause-keeps
returns-in_err-settle_found-clause-keeps g c = λ tells.
    subst (λ (u : World). (g.S.Site.world c.settle_found.new.site ≡ u) ⊎ OpenStep u (g.S.Site.world c.settle_found.new.site)) (c.durable_bytes.ensures.same tells) (c.settle_found.ensures.keeps tells)

pub returns-clause-keeps : goal.returns-clause-keeps
returns-clause-keeps g c = λ tells.
    subst (λ (u : World). (g.S.Site.world c.settle_found.new.site ≡ u) ⊎ OpenStep u (g.S.Site.world c.settle_found.new.site)) (c.durable_bytes.ensures.same tells) (c.settle_found.ensures.keeps tells)
