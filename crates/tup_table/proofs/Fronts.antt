-- Changes and commits are apart, and where none of them stands.
use Rattle.std.proofs.Common.{◌≡◌, ◌≢◌, ℕ, ◌+◌, List, [], ◌∷◌, ◌++◌, length, sym, ap, ◌∙◌, append_assoc, append-nil, length-append, arith, ◌⊎◌, inl, inr}
use Rattle.byteorder.specs.Endian.{big_bytes}
use Rattle.byteorder.specs.Numbers.{length-bytes_high_first}
use Rattle.tup_table.specs.Front.{Front, NoFront}
use Rattle.tup_table.specs.Store.{sized, IsSized, change_spelling, ChangeFits, payload, ChangesFit, commit, CommitFits, IsEnd, IsBroken}
use Rattle.tup_table.specs.declared.change.Change.{Change}
use Rattle.tup_table.specs.declared.change.Change.TheVariants.{Put, Delete}
use Rattle.tup_table.specs.declared.fault.TableFault.{TableFault}
use Rattle.tup_table.specs.declared.fault.TableFault.TheVariants.{BadStore, Memory}
use Rattle.tup_table.proofs.Apart.{sized_one, heads, tails, IsApart, many_one}

-- ---- changes
put_one : (k v l w x y : List ℕ) → ChangeFits (Put k v) → ChangeFits (Put l w) → (sized 2 k ++ sized 4 v) ++ x ≡ (sized 2 l ++ sized 4 w) ++ y → (Put k v ≡ Put l w) × (x ≡ y)
put_one k v l w x y fc fd e =
    let split : sized 2 k ++ (sized 4 v ++ x) ≡ sized 2 l ++ (sized 4 w ++ y) = sym (append_assoc (sized 2 k) (sized 4 v) x) ∙ e ∙ append_assoc (sized 2 l) (sized 4 w) y in
    let one = sized_one 2 k l (sized 4 v ++ x) (sized 4 w ++ y) fc.0 fd.0 split in
    let two = sized_one 4 v w x y fc.1 fd.1 one.1 in
    (λ i. Put (one.0 i) (two.0 i), two.1)

delete_one : (k l x y : List ℕ) → IsSized 2 k → IsSized 2 l → sized 2 k ++ x ≡ sized 2 l ++ y → (Delete k ≡ Delete l) × (x ≡ y)
delete_one k l x y fk fl e = let one = sized_one 2 k l x y fk fl e in (λ i. Delete (one.0 i), one.1)

pub changes_apart : IsApart ChangeFits change_spelling
changes_apart (Put k v) (Put l w) x y fc fd e = put_one k v l w x y fc fd (tails 1 1 ((sized 2 k ++ sized 4 v) ++ x) ((sized 2 l ++ sized 4 w) ++ y) e)
changes_apart (Put k v) (Delete l) x y fc fd e = absurd (let no : 1 ≡ 2 = heads 1 2 ((sized 2 k ++ sized 4 v) ++ x) (sized 2 l ++ y) e in omega arith)
changes_apart (Delete k) (Put l w) x y fc fd e = absurd (let no : 2 ≡ 1 = heads 2 1 (sized 2 k ++ x) ((sized 2 l ++ sized 4 w) ++ y) e in omega arith)
changes_apart (Delete k) (Delete l) x y fc fd e = delete_one k l x y fc fd (tails 2 2 (sized 2 k ++ x) (sized 2 l ++ y) e)

-- where no change stands
pub none_there : NoFront ChangeFits change_spelling []
none_there (Put k v) rest fits e = absurd (cc)
none_there (Delete k) rest fits e = absurd (cc)

put_split : (k v bytes rest : List ℕ) → 1 ∷ bytes ≡ change_spelling (Put k v) ++ rest → bytes ≡ sized 2 k ++ (sized 4 v ++ rest)
put_split k v bytes rest e = tails 1 1 bytes ((sized 2 k ++ sized 4 v) ++ rest) e ∙ append_assoc (sized 2 k) (sized 4 v) rest

pub no_put_value : (bytes key behind : List ℕ) → Front (IsSized 2) (sized 2) bytes key behind → NoFront (IsSized 4) (sized 4) behind → NoFront ChangeFits change_spelling (1 ∷ bytes)
no_put_value bytes key behind front none (Put k v) rest fits e =
    let same = sized_one 2 key k behind (sized 4 v ++ rest) front.0 fits.0 (sym front.1 ∙ put_split k v bytes rest e) in
    none v rest fits.1 same.1
no_put_value bytes key behind front none (Delete k) rest fits e = absurd (let no : 1 ≡ 2 = heads 1 2 bytes (sized 2 k ++ rest) e in omega arith)

-- ---- the changes of a commit
pub payload_one : (cs ds : List Change) → ChangesFit cs → ChangesFit ds → payload cs ≡ payload ds → cs ≡ ds
payload_one cs ds fc fd e =
    (many_one change_spelling ChangeFits changes_apart cs ds [] [] fc fd none_there none_there (ap (λ (t : List ℕ). t ++ []) e)).0

pub payload_not : (cs ds : List Change) (rest : List ℕ) → ChangesFit cs → ChangesFit ds → rest ≢ [] → NoFront ChangeFits change_spelling rest → payload cs ++ rest ≢ payload ds
payload_not cs ds rest fc fd some none e =
    some (many_one change_spelling ChangeFits changes_apart cs ds rest [] fc fd none none_there (e ∙ sym (append-nil (payload ds)))).1

-- ---- commits
pub commits_apart : IsApart CommitFits commit
commits_apart c d x y fc fd e =
    let one = sized_one 4 (payload c) (payload d) x y fc.1 fd.1 e in
    (payload_one c d fc.0 fd.0 one.0, one.1)

no_changes_there : (bytes inner rest : List ℕ) → Front (IsSized 4) (sized 4) bytes inner rest → ((changes : List Change) → ChangesFit changes → inner ≢ payload changes) → NoFront CommitFits commit bytes
no_changes_there bytes inner rest front none c more fits e =
    none c fits.0 (sized_one 4 inner (payload c) rest more front.0 fits.1 (sym front.1 ∙ e)).0

-- why a commit isn't taken in
pub commit_refused : (gate : ℕ) (bytes inner rest : List ℕ) (fault : TableFault) → Front (IsSized 4) (sized 4) bytes inner rest
    → (fault ≡ Memory) ⊎ ((fault ≡ BadStore gate) × ((changes : List Change) → ChangesFit changes → inner ≢ payload changes)) → (fault ≡ Memory) ⊎ ((fault ≡ BadStore gate) × NoFront CommitFits commit bytes)
commit_refused gate bytes inner rest fault front (inl memory) = inl memory
commit_refused gate bytes inner rest fault front (inr bad) = inr (bad.0, no_changes_there bytes inner rest front bad.1)

-- ---- commits behind their gates
abbrev pub block : List Change → List ℕ
block changes = 1 ∷ commit changes

pub blocks_apart : IsApart CommitFits block
blocks_apart c d x y fc fd e = commits_apart c d x y fc fd (tails 1 1 (commit c ++ x) (commit d ++ y) e)

commit_some : (changes : List Change) (rest : List ℕ) → [] ≢ commit changes ++ rest
commit_some changes rest e =
    let none : 0 ≡ length (commit changes) + length rest = ap length e ∙ length-append (commit changes) rest in
    let some : length (commit changes) ≡ length (big_bytes 4 (length (payload changes))) + length (payload changes) = length-append (big_bytes 4 (length (payload changes))) (payload changes) in
    omega (arith, length-bytes_high_first 4 (length (payload changes)))

pub end_no_block : (bytes : List ℕ) → IsEnd bytes → NoFront CommitFits block bytes
end_no_block [] end c rest fits e = absurd (cc)
end_no_block (gate ∷ bytes) (inl other) c rest fits e = other (heads gate 1 bytes (commit c ++ rest) e)
end_no_block (gate ∷ bytes) (inr none) c rest fits e = commit_some c rest (sym none ∙ tails gate 1 bytes (commit c ++ rest) e)

pub broken_no_block : (bytes : List ℕ) → IsBroken bytes → NoFront CommitFits block bytes
broken_no_block [] broken c rest fits e = absurd broken
broken_no_block (gate ∷ bytes) broken c rest fits e = broken.2 c rest fits (tails gate 1 bytes (commit c ++ rest) e)

pub end_not_broken : (bytes : List ℕ) → IsEnd bytes → IsBroken bytes → ⊥
end_not_broken [] end broken = broken
end_not_broken (gate ∷ bytes) (inl other) broken = other broken.0
end_not_broken (gate ∷ bytes) (inr none) broken = broken.1 none
