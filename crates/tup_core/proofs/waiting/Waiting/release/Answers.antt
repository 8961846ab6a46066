use Rattle.std.proofs.Common.{◌≡◌, ◌<◌, ◌≤◌, List, [], ℕ, length, refl, sym, subst, arith}
use Rattle.std.specs.Prelude.{slice_get, unwrap_or}
use Rattle.std.specs.Vec.{with_items}
use Rattle.std.proofs.lemmas.List.{with_items_is}
use Rattle.tup_clean.specs.Queue.{count_of}
use Rattle.tup_core.specs.Waiting.{number, AreInner}
use Rattle.tup_core.proofs.WalkLaws.{list_at}
use Rattle.tup_core.proofs.WaitingLaws.{counts_as}
use Rattle.tup_core.proofs.waiting.Waiting.release.Goals as goal

pub take_all-requires-clause-within : goal.take_all-requires-clause-within
take_all-requires-clause-within c = λ k some.
    let old = c.args.self.now in
    let here = list_at old.waiters.items c.args.at c.index.result.now c.as_slice.result.now c.requires.here c.as_slice.ensures c.index.ensures in
    subst (λ (l : List (List ℕ)). k < length l) (sym c.deref.ensures.value) (c.requires.within c.args.at k (subst (λ (l : List ℕ). 0 < count_of k l) here some))

pub take_all-requires-clause-inner : goal.take_all-requires-clause-inner
take_all-requires-clause-inner c =
    subst (λ (l : List (List ℕ)). AreInner l c.deref-2.result.now) (sym c.deref.ensures.value) (subst (AreInner c.args.self.now.waiters.items) (sym c.deref-2.ensures.value) c.requires.inner)

pub take_all-requires-clause-held : goal.take_all-requires-clause-held
take_all-requires-clause-held c =
    let old = c.args.self.now in
    let here = list_at old.waiters.items c.args.at c.index.result.now c.as_slice.result.now c.requires.here c.as_slice.ensures c.index.ensures in (
      c.requires.held.0,
      counts_as old.waiters.items c.deref.result.now old.reached.items c.deref-2.result.now c.requires.held.0 (unwrap_or (slice_get old.waiters.items c.args.at) []) c.as_slice.result.now old.waits.items c.deref_mut.result.now
          c.deref.ensures.value c.deref-2.ensures.value here c.deref_mut.ensures.value c.requires.held.1,
    )

pub returns : goal.returns
returns c =
    let old = c.args.self.now in
    let new = c.take_all.new.waits in
    let here = list_at old.waiters.items c.args.at c.index.result.now c.as_slice.result.now c.requires.here c.as_slice.ensures c.index.ensures in
    let long : length new ≡ old.waits.len = omega arith in
    let is : (with_items old.waits new).items ≡ new = with_items_is old.waits new long in
    record {
      lists = refl;
      reached = refl;
      fewer = λ other.
          subst (λ (l : List ℕ). number l other ≤ number old.waits.items other) (sym is)
          (subst (λ (l : List ℕ). number new other ≤ number l other) c.deref_mut.ensures.value (c.take_all.ensures.fewer other));
      counted = λ pending held.
          counts_as c.deref.result.now old.waiters.items c.deref-2.result.now old.reached.items pending [] [] new (with_items old.waits new).items (sym c.deref.ensures.value) (sym c.deref-2.ensures.value) refl is
          (c.take_all.ensures.counted pending
          (counts_as old.waiters.items c.deref.result.now old.reached.items c.deref-2.result.now pending (unwrap_or (slice_get old.waiters.items c.args.at) []) c.as_slice.result.now old.waits.items c.deref_mut.result.now c.deref.ensures.value
          c.deref-2.ensures.value here c.deref_mut.ensures.value held));
    }
