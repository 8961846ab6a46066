-- A project stays kept by every run of the program that is no update.
use Rattle.std.proofs.Common.{◌≡◌, ◌⊎◌, ⊎_elim, inl, inr, Bool, IsTrue, ℕ, List, [], ◌∷◌, ◌++◌, Some, Ok, Err, sym, ap, subst, ◌∙◌}
use Rattle.tup_site.specs.Crash.{GoesOn, PinsStore}
use Rattle.tup_site.specs.Laws.{present_law}
use Rattle.tup_site.specs.Memory.{world_in, tree_in, store_in, known_in, moment_of, left_since}
use Rattle.tup_site.specs.World.{World, TreeStays}
use Rattle.tup_site.specs.declared.memory.MemSite.{MemSite}
use Rattle.tup_rule.specs.declared.rule.RuleName.{RuleName}
use Rattle.tup_runner.specs.Next.{Next}
use Rattle.tup_table.specs.Images.{OpenStep}
use Rattle.tup_table.specs.Store.{IsStore, header}
use Rattle.tup_table.proofs.Stores.{not_empty}
use Rattle.tup_ledger.specs.Begin.{Begins, BeginStep}
use Rattle.tup_law_phases.proofs.Beginning.{begun_kept}
use Rattle.tup_compare.specs.Holding.{HasSameEntries, HoldsOn}
use Rattle.tup_compare.proofs.Held.{opened_holds, still_none}
use Rattle.tup_promise.specs.Unopened.{IsReadable}
use Rattle.tup_promise.proofs.Stored.{some_bytes}
use Rattle.tup_top.specs.Order.{Wanted}
use Rattle.tup_top.specs.Promise.{ForInit, Lasts, NothingDone}
use Rattle.tup_top.specs.Status.{IfBegan}
use Rattle.tup_top.specs.declared.order.Order.TheVariants.{Init, Upd, Todo, Verify, Demo}
use Rattle.tup_top.specs.declared.status.Status.{Status}
use Rattle.tup_top.specs.declared.status.Status.TheVariants.{Done, Command, IllegalRead, IllegalWrite, Unwritten, TooManyReads, Usage, NotInit, AlreadyInit, BadStore, Parse, CircularDirs, CircularCommands, NoSuchGroup, UserFile, SiteFault, RunFault, SinkFault, TellFault, Limit, Memory, Differs}
use Rattle.tup_history.specs.History.{AnswersDone}
use Rattle.tup_history.specs.Kept.{IsUnbegun, IsKept, Stage, Unbegun, Begun, Stands}
use Rattle.tup_history.specs.Run.{SaysDone, Leaves, Updates}
use Rattle.tup_history.specs.Stays.{BehindInit, Builds, BehindRun}
use Rattle.tup_history.specs.declared.turn.End.{End}
use Rattle.tup_history.proofs.Deeds.{by_steps, unbegun_on, kept_on}

-- without a store an opening leaves what was there
none_held : (v w : World) → v.store ≡ [] → HoldsOn v w → w ≡ v
none_held v w none on = let store : w.store ≡ v.store = still_none v w on none ∙ sym none in λ i. record { tree = on.tree i; store = store i }

-- a world that holds what another does is that one, or an opening of its store
as_opened : (v w : World) → HoldsOn v w → (w ≡ v) ⊎ OpenStep v w
as_opened v w on = by on.store
  where
    by : (w.store ≡ v.store) ⊎ HasSameEntries v.store w.store → (w ≡ v) ⊎ OpenStep v w
    by (inl same) = inl (λ i. record { tree = on.tree i; store = same i })
    by (inr (entries, before, after, end)) = inr (record { tree = on.tree; entries = entries; before = before; after = after; end = end })

-- without a store nothing is read
nothing_reads : (bytes : List ℕ) → bytes ≡ [] → IsReadable bytes → ⊥
nothing_reads bytes none (graph, left, ((commits, store, is), closes)) = not_empty commits (subst (λ (b : List ℕ). IsStore b commits) none store)

module _ (old new : MemSite) (next : Next) where
  -- an update without a store
  unbegun_keeps : ((IsReadable (store_in old) → ⊥) → GoesOn moment_of left_since old new OpenStep) → IsUnbegun old → IsUnbegun new
  unbegun_keeps closed kept =
      unbegun_on old new OpenStep (closed (nothing_reads (store_in old) kept.no_store)) (λ w step. none_held (world_in old) w kept.no_store (opened_holds (world_in old) w step)) kept

  -- a project begins
  made : IsUnbegun old → GoesOn moment_of left_since old new (BeginStep (world_in old)) → PinsStore (left_since new (moment_of new)) (world_in new) → store_in new ≡ header ++ 0 ∷ [] → IsKept next new
  made kept on pins first = begun_kept next (known_in new) (world_in new) (left_since new (moment_of new)) first durable
    where
      tree : (w : World) → left_since new (moment_of new) w → w.tree ≡ tree_in old
      tree = by_steps old new (BeginStep (world_in old)) (λ w. w.tree ≡ tree_in old) on (λ w left. ap (λ (u : World). u.tree) (kept.durable w left))
          (λ v w left step. ⊎_elim (λ (opened : OpenStep v w). opened.tree) (λ made. made.1) step ∙ ap (λ (u : World). u.tree) (kept.durable v left))

      durable : (w : World) → left_since new (moment_of new) w → w ≡ world_in new
      durable w left =
          let files : w.tree ≡ tree_in new = tree w left ∙ sym (tree (world_in new) (present_law new)) in
          let store : w.store ≡ store_in new = pins w left in
          λ i. record { tree = files i; store = store i }

  made_by : (status : Status) → SaysDone status → IsUnbegun old → GoesOn moment_of left_since old new (BeginStep (world_in old)) → IfBegan status (Begins (world_in old) (world_in new)) → IfBegan status (Lasts (left_since new (moment_of new)) (world_in new)) → IsKept next new
  made_by (Done read ran removed) done kept on begins lasts = made kept on lasts begins.1
  made_by SinkFault done kept on begins lasts = made kept on lasts begins.1
  made_by TellFault done kept on begins lasts = absurd begins
  made_by (Command rule status) done kept on begins lasts = absurd done
  made_by (IllegalRead rule text) done kept on begins lasts = absurd done
  made_by (IllegalWrite rule text) done kept on begins lasts = absurd done
  made_by (Unwritten rule path) done kept on begins lasts = absurd done
  made_by (TooManyReads rule) done kept on begins lasts = absurd done
  made_by (Usage place) done kept on begins lasts = absurd done
  made_by NotInit done kept on begins lasts = absurd done
  made_by AlreadyInit done kept on begins lasts = absurd done
  made_by (BadStore offset) done kept on begins lasts = absurd done
  made_by (Parse fault) done kept on begins lasts = absurd done
  made_by (CircularDirs cycle) done kept on begins lasts = absurd done
  made_by (CircularCommands cycle) done kept on begins lasts = absurd done
  made_by (NoSuchGroup group) done kept on begins lasts = absurd done
  made_by (UserFile path) done kept on begins lasts = absurd done
  made_by SiteFault done kept on begins lasts = absurd done
  made_by RunFault done kept on begins lasts = absurd done
  made_by (Limit what number) done kept on begins lasts = absurd done
  made_by Memory done kept on begins lasts = absurd done
  made_by (Differs path) done kept on begins lasts = absurd done

  -- where it has begun, a beginning opens its store
  has_store : IsKept next old → store_in old ≡ [] → ⊥
  has_store kept none = some_bytes (store_in old) kept.now.graph kept.now.reads none

  opened_so : (store_in old ≡ [] → ⊥) → (v w : World) → left_since old (moment_of old) v → BeginStep (world_in old) v w → (w ≡ v) ⊎ OpenStep v w
  opened_so there v w left step = ⊎_elim inr (λ made. absurd (there made.0)) step

  begin_stays : (new_world : World) → (new_world ≡ world_in old) ⊎ BeginStep (world_in old) (world_in old) new_world → TreeStays (world_in old) new_world
  begin_stays w (inl same) = ap (λ (v : World). v.tree) same
  begin_stays w (inr (inl opened)) = opened.tree
  begin_stays w (inr (inr made)) = made.1

  init_keeps : (end : End) (status : Status) → end.status ≡ Some status → Leaves (Ok Init) old new status → NothingDone (Ok Init) (world_in old) (world_in new) → IfBegan status (Begins (world_in old) (world_in new)) → (stage : Stage) → Stands next stage old →
      BehindInit end stage (λ later. Stands next later new)
  init_keeps end status is leaves nothing begins Unbegun kept = λ done. made_by status (subst AnswersDone is done) kept (leaves.quiet (λ no. no)) begins leaves.lasts
  init_keeps end status is leaves nothing begins Begun kept =
      kept_on old new next (BeginStep (world_in old)) (opened_so (has_store kept)) (leaves.quiet (λ no. no)) (begin_stays (world_in new) nothing) (leaves.known (λ no. no)) kept

  -- a comparison
  compare_keeps : (status : Status) → Leaves (Ok Verify) old new status → HoldsOn (world_in old) (world_in new) → (stage : Stage) → Stands next stage old → Stands next stage new
  compare_keeps status leaves holds Unbegun kept = unbegun_on old new HoldsOn (leaves.quiet (λ no. no)) (λ w step. none_held (world_in old) w kept.no_store step) kept
  compare_keeps status leaves holds Begun kept = kept_on old new next HoldsOn (λ v w left on. as_opened v w on) (leaves.quiet (λ no. no)) holds.tree (leaves.known (λ no. no)) kept

  -- a call that does nothing
  idle_keeps : GoesOn moment_of left_since old new (λ v w. ⊥) → world_in new ≡ world_in old → known_in new ≡ known_in old → (stage : Stage) → Stands next stage old → Stands next stage new
  idle_keeps on same known Unbegun kept = unbegun_on old new (λ v w. ⊥) on (λ w none. absurd none) kept
  idle_keeps on same known Begun kept = kept_on old new next (λ v w. ⊥) (λ v w left none. absurd none) on (ap (λ (v : World). v.tree) same) known kept

-- every run, by what its words ask for
pub run_keeps : (tells : Bool) (next : Next) (many : ℕ) (wanted : Wanted) (end : End) (status : Status) (ran : List RuleName) (old new : MemSite) → end.status ≡ Some status → Leaves wanted old new status → NothingDone wanted (world_in old) (world_in new) → ForInit wanted status (Begins (world_in old) (world_in new)) →
    (IsTrue tells → IsKept next old → Updates next many wanted old new status ran) → (stage : Stage) → Stands next stage old → BehindRun tells next wanted (world_in old) (world_in new) end stage (λ later. Stands next later new)
run_keeps tells next many (Ok (Upd program keep_going quiet verbose explain jobs log)) end status ran old new is leaves nothing begins updates Unbegun kept = unbegun_keeps old new next (leaves.closed tt) kept
run_keeps tells next many (Ok (Upd program keep_going quiet verbose explain jobs log)) end status ran old new is leaves nothing begins updates Begun kept = λ means.
    let by = updates means kept in
    (subst (Builds next (world_in old) (world_in new)) (sym is) by.files, by.kept tt)
run_keeps tells next many (Ok Todo) end status ran old new is leaves nothing begins updates Unbegun kept = unbegun_keeps old new next (leaves.closed tt) kept
run_keeps tells next many (Ok Todo) end status ran old new is leaves nothing begins updates Begun kept = λ means. (updates means kept).kept tt
run_keeps tells next many (Ok Init) end status ran old new is leaves nothing begins updates stage kept = init_keeps old new next end status is leaves nothing begins stage kept
run_keeps tells next many (Ok Verify) end status ran old new is leaves nothing begins updates stage kept = compare_keeps old new next status leaves nothing stage kept
run_keeps tells next many (Ok Demo) end status ran old new is leaves nothing begins updates stage kept = idle_keeps old new next (leaves.quiet (λ no. no)) nothing (leaves.known (λ no. no)) stage kept
run_keeps tells next many (Err place) end status ran old new is leaves nothing begins updates stage kept = idle_keeps old new next (leaves.quiet (λ no. no)) nothing (leaves.known (λ no. no)) stage kept
