-- More places marked.
use Rattle.std.proofs.Common.{◌≡◌, ℕ, ◌+◌, ◌<◌, List, ◌∷◌, Bool, true, false, cond, IsTrue, Result, Ok, Err, OnOk, OnErr, All, String, Global, string_bytes, take, length, get_or, refl, subst, sym, ◌∙◌}
use Rattle.std.specs.BTreeSet.{BTreeSet, contains_text, Updates, IsUnchanged}
use Rattle.std.specs.String.{string_cmp}
use Rattle.std.specs.Str.{bytes_eq}
use Rattle.std.proofs.lemmas.List.Elements.{All-cons, All-more, All-weaker}
use Rattle.std.proofs.lemmas.Map.Text.{btree_set_updates_text}
use Rattle.tup_disk.specs.Marked.{IsMarked, AllMarked}

cond_either : (one other : Bool) → other ≡ true → cond one true other ≡ true
cond_either true other is = refl
cond_either false other is = is

-- what was marked before a text was put in is marked after it, and also where there was no memory for that
pub marked_still : {T E : Type 0} (text : String Global) (old new : BTreeSet (String Global)) (result : Result T E)
    → OnOk result (Updates string_cmp old new text true) → OnErr result (IsUnchanged old new)
    → (place : List ℕ) → IsMarked old place → IsMarked new place
marked_still text old new (Ok value) updates unchanged place was =
    btree_set_updates_text (string_bytes text) old new true updates place ∙ cond_either (bytes_eq (string_bytes text) place) (contains_text old place) was
marked_still text old new (Err fault) updates unchanged place was =
    subst (λ (keys : List (String Global)). IsTrue (contains_text (record { keys = keys }) place)) (sym unchanged) was

-- a set that keeps what it had and has one text more has those of one text more
pub more_marked : (old new : BTreeSet (String Global)) (texts : List (String Global)) (at : ℕ) (text : String Global)
    → at < length texts → text ≡ get_or texts at text
    → ((place : List ℕ) → IsMarked old place → IsMarked new place)
    → All (λ t. IsMarked old (string_bytes t)) (take at texts) → IsMarked new (string_bytes text)
    → All (λ t. IsMarked new (string_bytes t)) (take (at + 1) texts)
more_marked old new texts at text room is keeps before here =
    All-more (λ t. IsMarked new (string_bytes t)) texts at text room
    (All-weaker (λ t. IsMarked old (string_bytes t)) (λ t. IsMarked new (string_bytes t)) (λ t. keeps (string_bytes t)) (take at texts) before)
    (subst (λ t. IsMarked new (string_bytes t)) is here)

-- the top, marked behind the folders above a path
pub all_marked : {T E : Type 0} (old new : BTreeSet (String Global)) (root top : List ℕ) (above folders : List (List ℕ)) (result : Result T E)
    → top ≡ root → folders ≡ above → AllMarked old folders
    → ((place : List ℕ) → IsMarked old place → IsMarked new place)
    → OnOk result (IsMarked new top) → OnOk result (AllMarked new (root ∷ above))
all_marked old new root top above folders (Ok value) is are before keeps here =
    All-cons (IsMarked new) root above (subst (IsMarked new) is here)
    (All-weaker (IsMarked old) (IsMarked new) keeps above (subst (All (IsMarked old)) are before))
all_marked old new root top above folders (Err fault) is are before keeps here = tt
