-- How a beginning ends that came out so: what is promised of it holds of the status that tells of it.
use Rattle.std.proofs.Common.{◌≡◌, ◌⊎◌, ⊎_elim, inl, inr, ℕ, ◌≤◌, List, [], ◌∷◌, ◌++◌, Result, Ok, Err, refl, sym, ap, subst, ◌∙◌, arith}
use Rattle.tup_path.specs.Count.{Rose}
use Rattle.tup_site.specs.Crash.{GoesOn, NoStep, PinsStore, PinsTree}
use Rattle.tup_site.specs.World.{World}
use Rattle.tup_site.specs.declared.site.Site.{Ghosts as Site}
use Rattle.tup_site.proofs.Moments.{now_or_step}
use Rattle.tup_runner.specs.Next.{Next}
use Rattle.tup_table.specs.Store.{header}
use Rattle.tup_table.specs.declared.fault.TableFault.{TableFault}
use Rattle.tup_table.specs.declared.fault.TableFault.TheVariants as table
use Rattle.tup_table.specs.declared.opened.Opened.{Opened}
use Rattle.tup_table.proofs.Stores.{reads_one}
use Rattle.tup_graph.specs.Graph.{GraphState}
use Rattle.tup_graph.specs.declared.fault.GraphFault.{GraphFault}
use Rattle.tup_graph.specs.declared.fault.GraphFault.TheVariants as graph
use Rattle.tup_stored_graph.specs.Cause.{CountsFaults}
use Rattle.tup_stored_graph.specs.Crash.{IsStoreOf}
use Rattle.tup_stored_graph.specs.Opening.{OpensAs}
use Rattle.tup_ledger.specs.Begin.{Begins}
use Rattle.tup_ledger.specs.Owned.{owned_in}
use Rattle.tup_ledger.specs.declared.beginning.Begun.{Begun}
use Rattle.tup_ledger.specs.declared.beginning.Begun.TheVariants.{Made, WasThere}
use Rattle.tup_ledger.proofs.Listing.{nothing_lists}
use Rattle.tup_law_site.specs.Over.{IsKeptNow, LeftNow}
use Rattle.tup_law_phases.specs.Language.{tupfiles}
use Rattle.tup_law_phases.proofs.Beginning.{begun_kept}
use Rattle.tup_top.specs.Lines.{begun_line}
use Rattle.tup_top.specs.Printed.{IsDone, Ends, Prints, PrintsBegun}
use Rattle.tup_top.specs.Promise.{Counts, HasBegunCause, NothingFailed, IsDoneOrMemory}
use Rattle.tup_top.specs.Status.{status_of_begun, IfBegan}
use Rattle.tup_top.specs.declared.status.Status.{Status}
use Rattle.tup_top.specs.declared.status.Status.TheVariants.{Done, Command, IllegalRead, IllegalWrite, Unwritten, TooManyReads, Usage, NotInit, AlreadyInit, BadStore, Parse, CircularDirs, CircularCommands, NoSuchGroup, UserFile, SiteFault, RunFault, SinkFault, TellFault, Limit, Memory, Differs}
use Rattle.tup_top.proofs.Success.{not_rose}

-- what is promised of how a project began is promised of the status that tells of it
began : (P : Result Begun GraphFault → Type 0) (begun : Result Begun GraphFault) → P begun → P (Err graph.Memory) → IfBegan (status_of_begun begun) P
began P (Ok Made) p memory = p
began P (Ok WasThere) p memory = p
began P (Err graph.NotThere) p memory = memory
began P (Err (graph.BadStore offset)) p memory = p
began P (Err graph.Site) p memory = p
began P (Err graph.Full) p memory = memory
began P (Err graph.Memory) p memory = memory

-- only one that made a store is done
done_is_made : (begun : Result Begun GraphFault) → IsDone (status_of_begun begun) → begun ≡ Ok Made
done_is_made (Ok Made) done = refl
done_is_made (Ok WasThere) done = absurd done
done_is_made (Err graph.NotThere) done = absurd done
done_is_made (Err (graph.BadStore offset)) done = absurd done
done_is_made (Err graph.Site) done = absurd done
done_is_made (Err graph.Full) done = absurd done
done_is_made (Err graph.Memory) done = absurd done

-- a promise of how a project began is one of what is answered for it, where want of memory keeps it too
pub begun_answered : (P : Result Begun GraphFault → Type 0) (before now : ℕ) (begun : Result Begun GraphFault) (status answer : Status) → status ≡ status_of_begun begun → Ends before now status answer →
    P begun → P (Err graph.Memory) → IfBegan answer P
begun_answered P before now begun status answer is (inl e) p memory = subst (λ (s : Status). IfBegan s P) (sym (e ∙ is)) (began P begun p memory)
begun_answered P before now begun status answer is (inr (inl e)) p memory = subst (λ (s : Status). IfBegan s P) (sym e) memory
begun_answered P before now begun status answer is (inr (inr (e, done, rose))) p memory =
    subst (λ (s : Status). IfBegan s P) (sym e) (subst P (done_is_made begun (subst IsDone is done)) p)

-- ---- counts

-- the site failed at most
pub failed : (before now : ℕ) (begun : Result Begun GraphFault) → CountsFaults before now begun → (now ≡ before) ⊎ Rose before now
failed before now (Ok value) counts = inl (counts.steady (λ is. cc))
failed before now (Err graph.NotThere) counts = inl (counts.steady (λ is. cc))
failed before now (Err (graph.BadStore offset)) counts = inl (counts.steady (λ is. cc))
failed before now (Err graph.Site) counts = inr (counts.fault refl)
failed before now (Err graph.Full) counts = inl (counts.steady (λ is. cc))
failed before now (Err graph.Memory) counts = inl (counts.steady (λ is. cc))

module _ (before now heard hears : ℕ) where
  counted : (begun : Result Begun GraphFault) → (IsDone (status_of_begun begun) → hears ≡ heard) → CountsFaults before now begun → HasBegunCause before now heard hears (status_of_begun begun)
  counted (Ok Made) sink counts = (counts.steady (λ is. cc), sink tt)
  counted (Ok WasThere) sink counts = counts.steady (λ is. cc)
  counted (Err graph.NotThere) sink counts = inl (counts.steady (λ is. cc))
  counted (Err (graph.BadStore offset)) sink counts = counts.steady (λ is. cc)
  counted (Err graph.Site) sink counts = counts.fault refl
  counted (Err graph.Full) sink counts = inl (counts.steady (λ is. cc))
  counted (Err graph.Memory) sink counts = inl (counts.steady (λ is. cc))

  -- what is answered has the causes of how the project began
  pub begun_counts : (begun : Result Begun GraphFault) (status answer : Status) → status ≡ status_of_begun begun → Ends heard hears status answer → (IsDone answer → hears ≡ heard) → CountsFaults before now begun →
      HasBegunCause before now heard hears answer
  begun_counts begun status answer is (inl e) sink counts =
      subst (HasBegunCause before now heard hears) (sym (e ∙ is)) (counted begun (λ done. sink (subst IsDone (sym (e ∙ is)) done)) counts)
  begun_counts begun status answer is (inr (inl e)) sink counts = subst (HasBegunCause before now heard hears) (sym e) (failed before now begun counts)
  begun_counts begun status answer is (inr (inr (e, done, rose))) sink counts =
      let made = done_is_made begun (subst IsDone is done) in
      let steady : now ≡ before = counts.steady (λ other. absurd (cc (made, other))) in
      subst (HasBegunCause before now heard hears) (sym e) (steady, rose)

-- ---- what is printed

pub prints_begun : (before now : ℕ) (held grown : List ℕ) (begun : Result Begun GraphFault) (status : Status) (text : List ℕ) (answer : Status) → status ≡ status_of_begun begun → text ≡ begun_line status →
    Ends before now status answer → Prints status text before now held grown answer → PrintsBegun before now held grown answer
prints_begun before now held grown begun status text answer is reads ends prints = record {
  begun = begun;
  ends = subst (λ (s : Status). Ends before now s answer) is ends;
  prints = subst (λ (s : Status). Prints s (begun_line s) before now held grown answer) is (subst (λ (t : List ℕ). Prints status t before now held grown answer) reads prints);
}

-- ---- where there is no store

-- nothing is no store
no_store : (bytes : List ℕ) (g : GraphState) → bytes ≡ [] → IsStoreOf g bytes → ⊥
no_store bytes g empty store = nothing_lists (owned_in g) (record { graph = g; store = subst (IsStoreOf g) empty store; owned = refl })

-- nor is it damaged
no_damage : (bytes left : List ℕ) (offset : ℕ) → bytes ≡ [] → OpensAs bytes left (Err (graph.BadStore offset)) → ⊥
no_damage bytes left offset empty opens =
    ⊎_elim
    (λ damaged. let one : ◌≡◌ {A = Result Opened TableFault} (Err table.NotThere) (Err (table.BadStore offset)) = reads_one bytes (Err table.NotThere) (Err (table.BadStore offset)) empty damaged.0 in absurd (cc one))
    (λ broken. let one : ◌≡◌ {A = Result Opened TableFault} (Err table.NotThere) (Ok broken.opened) = reads_one bytes (Err table.NotThere) (Ok broken.opened) empty broken.reads in absurd (cc one)) opens

-- so where the site never fails, only want of memory keeps a project from beginning there
pub only_memory : (v w : World) (fault : GraphFault) → v.store ≡ [] → Begins v w (Err fault) → CountsFaults {T = Begun} 0 0 (Err fault) → fault ≡ graph.Memory
only_memory v w graph.NotThere empty begins counts = absurd begins
only_memory v w (graph.BadStore offset) empty begins counts = absurd (no_damage v.store w.store offset empty begins)
only_memory v w graph.Site empty begins counts = absurd (not_rose 0 0 refl (omega arith) (counts.fault refl))
only_memory v w graph.Full empty begins counts = absurd begins
only_memory v w graph.Memory empty begins counts = refl

-- so a project that begins there has the store of nothing
pub made_there : (v w : World) (begun : Begun) → v.store ≡ [] → Begins v w (Ok begun) → w.store ≡ header ++ 0 ∷ []
made_there v w Made empty begins = begins.1
made_there v w WasThere empty begins = absurd (no_store v.store begins.0 empty begins.1)

-- and it is kept once its files are settled
module _ {S : Type 0} (site : Site S) (earlier : (at : S) (t u : ℕ) (w : World) → t ≤ u → site.left_since at u w → site.left_since at t w) (old new : S) (next : Next) where
  pub settled_keeps : site.world new ≡ site.world old → GoesOn site.moment site.left_since old new NoStep → PinsStore (LeftNow site old) (site.world old) → PinsTree (LeftNow site new) (site.world old) → (site.world old).store ≡ header ++ 0 ∷ []
      → IsKeptNow site next tupfiles (site.known new) new
  settled_keeps same on store_stays tree_stays first = begun_kept next (site.known new) (site.world new) (LeftNow site new) (ap (λ (w : World). w.store) same ∙ first) still
    where
      still : (w : World) → LeftNow site new w → w ≡ site.world new
      still w left =
          let before : LeftNow site old w = ⊎_elim (λ was. was) (λ from. absurd from.2) (now_or_step site.moment site.left_since old new NoStep earlier on w left) in
          let files : w.tree ≡ (site.world old).tree = tree_stays w left in
          let store : w.store ≡ (site.world old).store = store_stays w before in
          let is : w ≡ site.world old = λ i. record { tree = files i; store = store i } in
          is ∙ sym same

-- where nothing failed, a project that begins is done, but for want of memory
pub initializes_so : (old new : World) (before now : Counts) (status : Status) → IfBegan status (Begins old new) → HasBegunCause before.site now.site before.sink now.sink status → old.store ≡ [] → NothingFailed before now → IsDoneOrMemory status
initializes_so old new before now (Done read ran removed) begins counted empty fine = tt
initializes_so old new before now (Command rule status) begins counted empty fine = absurd counted
initializes_so old new before now (IllegalRead rule text) begins counted empty fine = absurd counted
initializes_so old new before now (IllegalWrite rule text) begins counted empty fine = absurd counted
initializes_so old new before now (Unwritten rule path) begins counted empty fine = absurd counted
initializes_so old new before now (TooManyReads rule) begins counted empty fine = absurd counted
initializes_so old new before now (Usage place) begins counted empty fine = absurd counted
initializes_so old new before now NotInit begins counted empty fine = absurd counted
initializes_so old new before now AlreadyInit begins counted empty fine = absurd (no_store old.store begins.0 empty begins.1)
initializes_so old new before now (BadStore offset) begins counted empty fine = absurd (no_damage old.store new.store offset empty begins)
initializes_so old new before now (Parse fault) begins counted empty fine = absurd counted
initializes_so old new before now (CircularDirs cycle) begins counted empty fine = absurd counted
initializes_so old new before now (CircularCommands cycle) begins counted empty fine = absurd counted
initializes_so old new before now (NoSuchGroup group) begins counted empty fine = absurd counted
initializes_so old new before now (UserFile path) begins counted empty fine = absurd counted
initializes_so old new before now SiteFault begins counted empty fine = not_rose before.site now.site fine.site fine.site_counts counted
initializes_so old new before now RunFault begins counted empty fine = absurd counted
initializes_so old new before now SinkFault begins counted empty fine = not_rose before.sink now.sink fine.sink fine.sink_counts counted.1
initializes_so old new before now TellFault begins counted empty fine = absurd counted
initializes_so old new before now (Limit what number) begins counted empty fine = absurd counted
initializes_so old new before now Memory begins counted empty fine = tt
initializes_so old new before now (Differs path) begins counted empty fine = absurd counted
