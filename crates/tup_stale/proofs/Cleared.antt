-- What a clearing leaves, by what its parts answer.
use Rattle.std.proofs.Common.{◌≡◌, ℕ, Bool, true, false, ◌&&◌, ◌⊎◌, List, [], map, filter, IsTrue, Result, Ok, Err, ⊎_elim, refl, sym, ap, subst, ◌∙◌}
use Rattle.std.specs.FinMap as finite
use Rattle.std.specs.Result.{IfOk, OnOk}
use Rattle.std.proofs.lemmas.List.Elements.{All-nil}
use Rattle.std.proofs.lemmas.List.{nil_from_length}
use Rattle.tup_path.specs.Order.{by_bytes}
use Rattle.tup_path.specs.Gives.{GivesUnless}
use Rattle.tup_path.specs.Name.{Names}
use Rattle.tup_site.specs.World.{World}
use Rattle.tup_table.specs.Table.{entries_in, is_fresh as is_fresh_table}
use Rattle.tup_table.specs.declared.change.Change.{Change}
use Rattle.tup_graph.specs.Changes.{changes_it}
use Rattle.tup_graph.specs.Edits.{IsEditWritable}
use Rattle.tup_graph.specs.Transactions.{doom_edits, with_doomed, forget_edits, with_forgotten}
use Rattle.tup_graph.specs.declared.fault.GraphFault.{GraphFault}
use Rattle.tup_graph.specs.declared.fault.GraphFault.TheVariants.{Full as GraphFull, Memory as GraphMemory}
use Rattle.tup_stored_graph.specs.Held.{Held, is_fresh}
use Rattle.tup_stored_graph.specs.Transaction.{to_write, with_changes, after, IsFull, Leaves as TransactionLeaves}
use Rattle.tup_stored_graph.proofs.Fresh.{after_is_fresh}
use Rattle.tup_stale.specs.declared.fault.StaleFault.{StaleFault}
use Rattle.tup_stale.specs.declared.fault.StaleFault.TheVariants.{UserFile, Site, TooLarge, Full, Memory}
use Rattle.tup_stale.specs.Cleared.{doomed, forgotten, AtFirst, Removing, Committing, AtLast, Leaves, AllAreMade}
use Rattle.tup_stale.specs.Files.{without, SameBeside}
use Rattle.tup_stale.specs.Unmade.{unmade}
use Rattle.tup_stale.proofs.Forgotten.{doomed_then_forgotten, all_are_made}
use Rattle.tup_stale.proofs.Removals.{beside_same, beside_without, beside_part}

-- ---- a graph whose paths were doomed stands for its store, and so does one that forgot them
pub doomed_is_fresh : (old new : Held) (paths : List Names) → IsTrue (is_fresh old) → new ≡ doomed old paths → IsTrue (is_fresh new)
doomed_is_fresh old new paths fresh is =
    subst (λ (h : Held). IsTrue (is_fresh h)) (sym is) (after_is_fresh old (doom_edits old.nodes paths) (with_doomed old.nodes paths) fresh)

pub forgotten_is_fresh : (old new : Held) (paths : List Names) → IsTrue (is_fresh old) → new ≡ forgotten old paths → IsTrue (is_fresh new)
forgotten_is_fresh old new paths fresh is =
    subst (λ (h : Held). IsTrue (is_fresh h)) (sym is)
    (after_is_fresh (doomed old paths) (forget_edits (with_doomed old.nodes paths) paths) (with_forgotten old.nodes paths) (after_is_fresh old (doom_edits old.nodes paths) (with_doomed old.nodes paths) fresh))

-- a transaction that was done isn't one for which there is no room
pub has_room : {X : Type 0} (result : Result (Unit {0}) GraphFault) (done : Unit {0}) → result ≡ Ok done → (X → GivesUnless result GraphMemory (Err GraphFull)) → X → ⊥
has_room result done is full no_room = ⊎_elim (λ memory. absurd (cc)) (λ same. absurd (cc)) (full no_room)

module _ (tells : Bool) (paths files : List Names) (old new : Held) (v w : World) (mid : Held) (is : mid ≡ doomed old paths) (tree : IsTrue tells → w.tree ≡ without v.tree files) where
  pub forget_done : {S : Type 0} (s t : S) (done : Unit {0}) → TransactionLeaves (forget_edits mid.nodes paths) (with_forgotten mid.nodes paths) mid new s t (Ok done)
      → (IsFull old (doom_edits old.nodes paths) → ⊥) → (IsFull mid (forget_edits mid.nodes paths) → ⊥) → AtLast tells paths files old new v w
  forget_done s t done left room more = (
    left.0
        ∙ ap (λ (h : Held). after h (forget_edits h.nodes paths) (with_forgotten h.nodes paths)) is
        ∙ ap (after (doomed old paths) (forget_edits (with_doomed old.nodes paths) paths)) (doomed_then_forgotten old.nodes paths),
    tree,
    room,
    λ full. more (subst (λ (h : Held). IsFull h (forget_edits h.nodes paths)) (sym is) full),
  )

-- nothing but the files changes, whatever is left
module _ (paths files : List Names) (old new : Held) (v w : World) where
  at_first : w.tree ≡ v.tree → SameBeside files v.tree w.tree
  at_first is = beside_same files v.tree w.tree is

  all_gone : w.tree ≡ without v.tree files → SameBeside files v.tree w.tree
  all_gone is = subst (SameBeside files v.tree) (sym is) (beside_without files v.tree)

  module _ (tells : Bool) (told : IsTrue tells) where
    untouched : AtFirst tells paths files old new v w → SameBeside files v.tree w.tree
    untouched left = at_first (ap (λ (u : World). u.tree) (left.1 told))

    stopped : AtFirst tells paths files old new v w ⊎ Removing tells paths files old new v w ⊎ Committing tells paths files old new v w → SameBeside files v.tree w.tree
    stopped left =
        ⊎_elim untouched
        (λ later. ⊎_elim (λ removing. beside_part files v.tree w.tree (removing.1 told)) (λ committing. ⊎_elim (λ doom. at_first (doom.1 told)) (λ forget. all_gone (forget.1 told)) committing) later) left

    pub leaves_beside : {T : Type 0} (result : Result T StaleFault) → Leaves tells paths files old new v w result → SameBeside files v.tree w.tree
    leaves_beside (Ok value) left = all_gone (left.1 told)
    leaves_beside (Err (UserFile path written found)) left = untouched left
    leaves_beside (Err (TooLarge bytes)) left = untouched left
    leaves_beside (Err Full) left = ⊎_elim (λ doom. untouched doom.1) (λ forget. all_gone (forget.1.1 told)) left
    leaves_beside (Err Site) left = stopped left
    leaves_beside (Err Memory) left = stopped left

-- ---- where there is nothing to clear
no_change : (h : Held) → to_write h [] ≡ []
no_change h =
    let none : finite.entries (finite.empty {X = Change} {R = by_bytes}) ≡ [] = nil_from_length (finite.entries finite.empty) (sym (finite.len-entries finite.empty) ∙ finite.len-empty by_bytes Change) in
    ap (λ (last : List (List ℕ × Change)). filter (changes_it (entries_in h.table)) (map (λ (e : List ℕ × Change). e.1) last)) none

no_room_needed : (h : Held) → IsFull h [] → ⊥
no_room_needed h full = ⊎_elim (λ unspelled. unspelled (All-nil IsEditWritable)) (λ over. over.0 (no_change h)) full

first : (a b : Bool) → IsTrue (a && b) → a ≡ true
first true b is = refl
first false b is = absurd (cc)

module _ (old : Held) (fresh : IsTrue (is_fresh old)) where
  after_nothing : after old [] old.nodes ≡ old
  after_nothing = λ i. record {
    table = ap (with_changes old.table) (no_change old) i;
    nodes = old.nodes;
    whole = sym (first old.whole (is_fresh_table old.table) fresh) i;
  }

  nothing_forgotten : forgotten old [] ≡ old
  nothing_forgotten = ap (λ (h : Held). after h [] old.nodes) after_nothing ∙ after_nothing

  pub nothing_to_clear : (tells : Bool) (v : World) → AtLast tells [] [] old old v v
  nothing_to_clear tells v = (sym nothing_forgotten, λ told. refl, no_room_needed old, no_room_needed (doomed old []))

-- ---- every owned path is made then
pub all_made_after : (old new : Held) → new ≡ forgotten old (unmade old.nodes) → AllAreMade new.nodes
all_made_after old new is = subst (λ (h : Held). AllAreMade h.nodes) (sym is) (all_are_made old.nodes)

pub made_if_done : {T : Type 0} (tells : Bool) (files : List Names) (old new : Held) (v w : World) (result : Result T StaleFault)
    → Leaves tells (unmade old.nodes) files old new v w result → IfOk result (λ value. AllAreMade new.nodes)
made_if_done tells files old new v w (Ok value) left = all_made_after old new left.0
made_if_done tells files old new v w (Err fault) left = tt

-- and the graph is fresh
pub fresh_if_done : {T : Type 0} (tells : Bool) (paths files : List Names) (old new : Held) (v w : World) (result : Result T StaleFault) → IsTrue (is_fresh old)
    → Leaves tells paths files old new v w result → OnOk result (IsTrue (is_fresh new))
fresh_if_done tells paths files old new v w (Ok value) fresh left = forgotten_is_fresh old new paths fresh left.0
fresh_if_done tells paths files old new v w (Err fault) fresh left = tt
