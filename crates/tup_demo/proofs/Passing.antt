-- A call of a site that is calm, and is put no content of another's stamp, doesn't fail, and leaves it calm.
use Rattle.std.proofs.Common.{◌≡◌, ◌⊎◌, inl, inr, ℕ, ◌+◌, ◌≤◌, List, ◌++◌, length, take, drop, Bool, true, false, ◌||◌, IsTrue, Result, Ok, Err, OnOk, OnErr, sym, ap, ◌∙◌, refl, arith, length-append, length-take, length-drop}
use Rattle.std.specs.List.{list_any}
use Rattle.std.specs.Prelude.{nat_eq, bytes_eq}
use Rattle.std.proofs.lemmas.Bool.Decides.{same_from_decides}
use Rattle.std.proofs.lemmas.Slice.Eq.{bytes_eq-Decides}
use Rattle.tup_path.specs.Name.{Content}
use Rattle.tup_site.specs.Cause.{CountsFaults}
use Rattle.tup_site.specs.Known.{knows, MayJoin}
use Rattle.tup_site.specs.Laws.{is_known_law}
use Rattle.tup_site.specs.Store.{Holds}
use Rattle.tup_site.specs.Memory.{left_of, known_in, fails_next, is_used_up, one_less, one_more, calls_of, IsCounted, store_in}
use Rattle.tup_site.specs.declared.fault.SiteFailed.{SiteFailed}
use Rattle.tup_site.specs.declared.fault.SiteFailed.TheVariants.{Fault}
use Rattle.tup_site.specs.declared.memory.MemSite.{MemSite}
use Rattle.tup_demo.specs.Calm.{HasSmallStore, IsCalm}

-- the call that comes next doesn't fail
passes_next : (site : MemSite) → IsCalm site → IsTrue (fails_next site) → ⊥
passes_next site calm fails =
    let none : fails_next site ≡ false = ap (λ (l : List ℕ). list_any (λ n. nat_eq n (one_more (calls_of site))) l || is_used_up (left_of site)) calm.fails ∙ ap is_used_up calm.left in
    let no : true ≡ false = sym fails ∙ none in cc

-- a call has left it calm
pub stays_calm : {T : Type 0} (old new : MemSite) (fails : Type 0) (result : Result T SiteFailed) → IsCalm old → IsCounted old new fails result → IsCalm new
stays_calm old new fails result calm counted = record { fails = counted.fails ∙ calm.fails; left = counted.left ∙ ap one_less calm.left }

-- an answer that is no failure counts none
steady : {T : Type 0} (result : Result T SiteFailed) → (result ≡ Err Fault → ⊥) → CountsFaults 0 0 result
steady result passes = record { later = omega arith; fault = λ e. absurd (passes e); steady = λ apart. refl }

-- a call that only fails where it is listed doesn't fail
pub never_fails : {T : Type 0} (old new : MemSite) (result : Result T SiteFailed) → IsCalm old → IsCounted old new (IsTrue (fails_next old)) result → CountsFaults 0 0 result
never_fails old new result calm counted = steady result (λ e. passes_next old calm (counted.fault e))

-- nor does a put of a content that is known
pub joins_itself : (site : MemSite) (content : Content) → IsTrue (knows (known_in site) content) → MayJoin (known_in site) content
joins_itself site content known other there same = is_known_law site other content there known same

pub put_never_fails : {T : Type 0} (old new : MemSite) (content : Content) (result : Result T SiteFailed) → IsCalm old → IsTrue (knows (known_in old) content) → IsCounted old new (IsTrue (fails_next old) ⊎ (¬ MayJoin (known_in old) content)) result → CountsFaults 0 0 result
put_never_fails old new content result calm known counted = steady result (λ e. no (counted.fault e))
  where
    no : IsTrue (fails_next old) ⊎ (¬ MayJoin (known_in old) content) → ⊥
    no (inl fails) = passes_next old calm fails
    no (inr other) = other (joins_itself old content known)

-- a content that a list was found to have is among its contents
swap : (x y : Content) → bytes_eq x y ≡ bytes_eq y x
swap x y = same_from_decides (bytes_eq x y) (bytes_eq y x) (bytes_eq-Decides x y) (flipped (bytes_eq-Decides y x).0, λ e. (bytes_eq-Decides y x).1 (sym e))
  where
    flipped : (bytes_eq y x ≡ true → y ≡ x) → bytes_eq y x ≡ true → x ≡ y
    flipped same h = sym (same h)

pub is_among : (listed contents : List Content) (content : Content) → listed ≡ contents → list_any (λ other. bytes_eq other content) listed ≡ true → IsTrue (knows contents content)
is_among listed contents content are found =
    sym (ap (λ (l : List Content). list_any (λ other. bytes_eq other content) l) are ∙ (λ i. list_any (λ other. swap other content i) contents)) ∙ found

-- a store that was cut is no longer
pub cut_small : {T : Type 0} (old new : MemSite) (len : ℕ) (result : Result T SiteFailed) → HasSmallStore old → OnOk result (store_in new ≡ take len (store_in old)) → OnErr result (store_in new ≡ store_in old) → HasSmallStore new
cut_small old new len (Ok done) small cut unchanged =
    let is = ap length cut in
    omega (arith, small, is, length-take len (store_in old))
cut_small old new len (Err failed) small cut unchanged = let is = ap length unchanged in omega (arith, small, is)

-- nor is one into which bytes were written, where these end within it or within the room
pub written_small : {T : Type 0} (old new : MemSite) (at : ℕ) (bytes : List ℕ) (result : Result T SiteFailed) → HasSmallStore old → at ≤ length (store_in old) → at + length bytes ≤ 65536
    → OnOk result (Holds (store_in old) at bytes (store_in new)) → OnErr result (store_in new ≡ store_in old) → HasSmallStore new
written_small old new at bytes (Ok done) small within fits written unchanged =
    let is = ap length written in
    let store = store_in old in
    omega (arith, small, within, fits, is, length-append (take at store) (bytes ++ drop (at + length bytes) store), length-append bytes (drop (at + length bytes) store), length-take at store, length-drop (at + length bytes) store)
written_small old new at bytes (Err failed) small within fits written unchanged = let is = ap length unchanged in omega (arith, small, is)
