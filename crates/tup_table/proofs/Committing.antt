-- Where a table stands after a commit.
use Rattle.std.proofs.Common.{◌≡◌, ℕ, ◌+◌, List, [], ◌∷◌, ◌++◌, length, inl, ⊎_elim, refl, sym, ap, subst, ◌∙◌, length-append, arith}
use Rattle.tup_site.specs.Crash.{GoesOn}
use Rattle.tup_site.specs.World.{World, TreeStays}
use Rattle.tup_table.specs.Appending.{appending}
use Rattle.tup_table.specs.Entries.{Standing, committed, entries_of}
use Rattle.tup_table.specs.Images.{Keeps, CommitStep, IsNext}
use Rattle.tup_table.specs.Store.{header, blocks, CommitFits}
use Rattle.tup_table.specs.Table.{entries_in, Rests, StandsFor, after_writing}
use Rattle.tup_table.specs.declared.change.Change.{Change}
use Rattle.tup_table.specs.declared.table.Table.{Table}
use Rattle.tup_table.proofs.Appends.{rests_store, opened_front}
use Rattle.tup_table.proofs.Going.{IsEarlier}
use Rattle.tup_table.proofs.Rested.{kept}
use Rattle.tup_table.proofs.Stores.{entries_push}

length-more : (commits : List (List Change)) (changes : List Change) → length (header ++ blocks (commits ++ changes ∷ [])) ≡ length (header ++ blocks commits) + length (appending changes)
length-more commits changes =
    let long = ap length (opened_front header commits changes []) in
    omega (arith, long, length-append (header ++ blocks commits) (1 ∷ (appending changes ++ [])), length-append (appending changes) [], length-append (header ++ blocks (commits ++ changes ∷ [])) (0 ∷ []))

module _ {S : Type 0} (world : S → World) (moment : S → ℕ) (left_since : S → ℕ → World → Type 0) (table : Table) (changes : List Change) (old : S) (stands : StandsFor world moment left_since table old) (fits : CommitFits changes) where
  pub next : (bytes : List ℕ) → bytes ≡ appending changes → IsNext stands.commits changes table.gate bytes
  next bytes is = record { fits = fits; place = stands.gate; spelling = is }

  entries_after : committed table.gate table.entries changes ≡ entries_of (stands.commits ++ changes ∷ [])
  entries_after = (λ i. committed (stands.gate i) (stands.entries i) changes) ∙ sym (entries_push stands.commits changes)

  pub stands_after : (new : S) → Rests world moment left_since (stands.commits ++ changes ∷ []) new → StandsFor world moment left_since (after_writing table changes) new
  stands_after new rests = record {
    commits = stands.commits ++ changes ∷ [];
    rests = rests;
    entries = entries_after;
    gate = omega (arith, stands.gate, length-more stands.commits changes);
  }

  pub crash_after : (new : S) → GoesOn moment left_since old new (CommitStep (entries_of stands.commits) (entries_of (stands.commits ++ changes ∷ []))) → GoesOn moment left_since old new (CommitStep (entries_in table) (entries_in (after_writing table changes)))
  crash_after new on =
      subst (λ (before : Standing). GoesOn moment left_since old new (CommitStep before (committed table.gate table.entries changes))) (sym stands.entries)
      (subst (λ (after : Standing). GoesOn moment left_since old new (CommitStep (entries_of stands.commits) after)) (sym entries_after) on)

-- ---- what the store has at the end of a commit, whatever that answers
module _ {S : Type 0} (world : S → World) (moment : S → ℕ) (left_since : S → ℕ → World → Type 0) (table : Table) (later : Standing) (old : S) (stands : StandsFor world moment left_since table old) where
  stored : Keeps (entries_in table) (world old).store
  stored = kept (entries_in table) (world old).store (stands.commits, rests_store stands.commits (world old).store stands.rests.bytes, stands.entries)

  -- nothing was written
  pub nothing_done : CommitStep (entries_in table) later (world old) (world old)
  nothing_done = record { tree = refl; store = inl stored }

  -- what is there is among what a crash may leave
  pub step_now : (new : S) → TreeStays (world old) (world new) → IsEarlier moment left_since new → left_since new (moment new) (world new) → GoesOn moment left_since old new (CommitStep (entries_in table) later)
      → CommitStep (entries_in table) later (world old) (world new)
  step_now new tree earlier present on = record {
    tree = tree;
    store =
        ⊎_elim (λ before. inl (subst (Keeps (entries_in table)) (sym (stands.rests.durable (world new) before)) stored)) (λ from. from.2.store)
        (on.since (moment old) (world new) (omega arith) (earlier (moment old) (moment new) (world new) on.later present));
  }
