use Rattle.std.proofs.Common.{◌≡◌, List, ℕ, Bool, length, sym, ap, ◌∙◌, subst}
use Rattle.tup_core.specs.Waiting.{AreWithin, AreAllWaiters, AreEntries, IsShort, total}
use Rattle.tup_core.proofs.WaitingLaws.{readers_within, waiters_within, waiters_short, waiting_start}
use Rattle.tup_core.proofs.waiting.Waiting.new.Goals as goal

pub entries-requires-clause-within : goal.entries-requires-clause-within
entries-requires-clause-within c = subst AreWithin (sym c.deref.ensures.value) (readers_within c.args.rules.now c.args.pending.now c.in_ok-listed.listed.items c.in_ok-listed.ensures.near)

pub entries-requires-clause-reached : goal.entries-requires-clause-reached
entries-requires-clause-reached c = c.requires.pending ∙ sym (ap length c.deref.ensures.value ∙ c.in_ok-listed.ensures.near.many)

pub all_waiters-requires-clause-within : goal.all_waiters-requires-clause-within
all_waiters-requires-clause-within c = subst AreWithin (sym c.deref-2.ensures.value) (readers_within c.args.rules.now c.args.pending.now c.in_ok-listed.listed.items c.in_ok-listed.ensures.near)

pub all_waiters-requires-clause-reached : goal.all_waiters-requires-clause-reached
all_waiters-requires-clause-reached c = c.requires.pending ∙ sym (ap length c.deref-2.ensures.value ∙ c.in_ok-listed.ensures.near.many)

pub all_waiters-requires-clause-entries : goal.all_waiters-requires-clause-entries
all_waiters-requires-clause-entries c = ap length c.deref-3.ensures.value ∙ c.in_ok-entries.ensures.many ∙ ap length (c.deref.ensures.value ∙ sym c.deref-2.ensures.value)

-- the lists over the readers and the entries themselves
all_there : (readers others lists : List (List ℕ)) (pending entries read : List Bool) → others ≡ readers → read ≡ entries → AreAllWaiters others pending read lists → AreAllWaiters readers pending entries lists
all_there readers others lists pending entries read same alike all =
    subst (λ (l : List (List ℕ)). AreAllWaiters l pending entries lists) same (subst (λ (l : List Bool). AreAllWaiters others pending l lists) alike all)

pub counted-requires-clause-within : goal.counted-requires-clause-within
counted-requires-clause-within c =
    let readers = c.in_ok-listed.listed.items in
    let entries = c.in_ok-entries.entries.items in
    let all = all_there readers c.deref-2.result.now c.in_ok-waiters.waiters.items c.args.pending.now entries c.deref-3.result.now c.deref-2.ensures.value c.deref-3.ensures.value c.in_ok-waiters.ensures in
    subst AreWithin (sym c.deref-4.ensures.value) (waiters_within c.args.rules.now readers c.in_ok-waiters.waiters.items c.args.pending.now entries c.in_ok-listed.ensures.near all)

pub counted-requires-clause-short : goal.counted-requires-clause-short
counted-requires-clause-short c =
    let readers = c.in_ok-listed.listed.items in
    let entries = c.in_ok-entries.entries.items in
    let all = all_there readers c.deref-2.result.now c.in_ok-waiters.waiters.items c.args.pending.now entries c.deref-3.result.now c.deref-2.ensures.value c.deref-3.ensures.value c.in_ok-waiters.ensures in
    subst IsShort (sym c.deref-4.ensures.value) (waiters_short readers c.in_ok-waiters.waiters.items c.args.pending.now entries all)

pub returns : goal.returns
returns c =
    let readers = c.in_ok-listed.listed.items in
    let entries = c.in_ok-entries.entries.items in
    let all = all_there readers c.deref-2.result.now c.in_ok-waiters.waiters.items c.args.pending.now entries c.deref-3.result.now c.deref-2.ensures.value c.deref-3.ensures.value c.in_ok-waiters.ensures in
    waiting_start c.args.rules.now readers c.args.pending.now entries (record { waiters = c.in_ok-waiters.waiters; waits = c.in_ok-waits.waits; reached = c.in_ok-reached.reached })
    c.requires.pending c.in_ok-listed.ensures
    (subst (λ (l : List (List ℕ)). AreEntries l c.args.pending.now entries) c.deref.ensures.value c.in_ok-entries.ensures)
    all c.in_ok-reached.ensures
    (λ at. c.in_ok-waits.ensures at ∙ ap (λ (l : List (List ℕ)). total l at) c.deref-4.ensures.value)
