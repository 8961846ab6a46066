-- How many bytes changes take, and how they are written.
use Rattle.std.proofs.Common.{◌≡◌, ◌≢◌, ℕ, ◌+◌, ◌<◌, ◌≤◌, ◌^◌, List, [], ◌∷◌, ◌++◌, length, All, refl, sym, ap, subst, ◌∙◌, append_assoc, length-append, arith, inl}
use Rattle.std.specs.List.{AllByRecursion}
use Rattle.std.proofs.lemmas.List.Concat.{flat_map-cons}
use Rattle.std.proofs.lemmas.List.Elements.{All-head, All-tail, All-from_recursion}
use Rattle.byteorder.specs.Endian.{big_bytes}
use Rattle.byteorder.specs.Numbers.{length-bytes_high_first}
use Rattle.tup_table.specs.Appending.{HasShortKey, appending}
use Rattle.tup_table.specs.Spelling.{sized, change_spelling, ChangeFits, payload, ChangesFit, commit, blocks, CommitFits}
use Rattle.tup_table.specs.Store.{IsHead, switch_of, IsArea, IsStore}
use Rattle.tup_table.specs.Table.{IsAtRest}
use Rattle.tup_table.specs.declared.change.Change.{Change}
use Rattle.tup_table.specs.declared.change.Change.TheVariants.{Put, Delete}
use Rattle.tup_table.proofs.Apart.{all_more, last_out}
use Rattle.tup_table.proofs.Fronts.{block}

length-sized : (n : ℕ) (bytes : List ℕ) → length (sized n bytes) ≡ n + length bytes
length-sized n bytes = length-append (big_bytes n (length bytes)) bytes ∙ ap (λ (k : ℕ). k + length bytes) (length-bytes_high_first n (length bytes))

pub length-put : (k v : List ℕ) → length (change_spelling (Put k v)) ≡ 7 + length k + length v
length-put k v = omega (arith, length-append (sized 2 k) (sized 4 v), length-sized 2 k, length-sized 4 v)

pub length-payload : (c : Change) (cs : List Change) → length (payload (c ∷ cs)) ≡ length (change_spelling c) + length (payload cs)
length-payload c cs = ap length (flat_map-cons change_spelling c cs) ∙ length-append (change_spelling c) (payload cs)

pub length-appending : (cs : List Change) → length (appending cs) ≡ 5 + length (payload cs)
length-appending cs = omega (arith, length-append (commit cs) (0 ∷ []), length-sized 4 (payload cs))

-- ---- what has short keys and isn't too long has a spelling
change_fits : (c : Change) → HasShortKey c → length (change_spelling c) < 256 ^ 4 → ChangeFits c
change_fits (Put k v) short lt = (omega arith, omega (arith, length-put k v))
change_fits (Delete k) short lt = omega arith

pub changes_fit : (cs : List Change) → All HasShortKey cs → length (payload cs) < 256 ^ 4 → ChangesFit cs
changes_fit [] short lt = tt
changes_fit (c ∷ cs) short lt = (
  change_fits c (All-head HasShortKey c cs short) (omega (arith, length-payload c cs)),
  changes_fit cs (All-tail HasShortKey c cs short) (omega (arith, length-payload c cs)),
)

-- what has a spelling has a short key
pub fits_short : (c : Change) → ChangeFits c → HasShortKey c
fits_short (Put k v) fits = let key = fits.0 in omega (arith, key)
fits_short (Delete k) fits = omega (arith, fits)

-- ---- the bytes of a commit
module _ (cs : List Change) (short : All HasShortKey cs) (gate len : ℕ) (says : len ≡ length (payload cs)) (room : gate + (6 + len) ≤ 2147483648) where
  all_fit : ChangesFit cs
  all_fit = changes_fit cs short (omega arith)

  pub each_fits : All ChangeFits cs
  each_fits = All-from_recursion ChangeFits cs all_fit

  pub appended_is : (a b c d result : List ℕ) → a ≡ [] → b ≡ a ++ big_bytes 4 len → c ≡ b ++ payload cs → d ≡ c ++ 0 ∷ [] → result ≡ d → CommitFits cs × (result ≡ appending cs) × (gate + (1 + length result) ≤ 2147483648)
  appended_is a b c d result none number changes last e =
      let front : b ≡ big_bytes 4 (length (payload cs)) = number ∙ ap (λ (t : List ℕ). t ++ big_bytes 4 len) none ∙ ap (big_bytes 4) says in
      let whole : result ≡ appending cs = e ∙ last ∙ ap (λ (t : List ℕ). t ++ 0 ∷ []) (changes ∙ ap (λ (t : List ℕ). t ++ payload cs) front) in
      let long : length result ≡ 5 + length (payload cs) = ap length whole ∙ length-appending cs in
      ((all_fit, omega arith), whole, omega arith)

-- ---- what is written is read
pub opened_front : (head : List ℕ) (commits : List (List Change)) (changes : List Change) (rest : List ℕ)
    → head ++ blocks commits ++ 1 ∷ (appending changes ++ rest) ≡ head ++ blocks (commits ++ changes ∷ []) ++ 0 ∷ rest
opened_front head commits changes rest =
    let behind : appending changes ++ rest ≡ commit changes ++ 0 ∷ rest = append_assoc (commit changes) (0 ∷ []) rest in
    let front : blocks (commits ++ changes ∷ []) ++ 0 ∷ rest ≡ blocks commits ++ 1 ∷ (appending changes ++ rest) =
    last_out block commits changes (0 ∷ rest) ∙ ap (λ (t : List ℕ). blocks commits ++ 1 ∷ t) (sym behind) in
    append_assoc head (blocks commits) (1 ∷ (appending changes ++ rest)) ∙ ap (λ (t : List ℕ). head ++ t) (sym front)
    ∙ sym (append_assoc head (blocks (commits ++ changes ∷ [])) (0 ∷ rest))

module _ (head : List ℕ) (is_head : IsHead head) (unswitched : switch_of head ≢ 1) where
  low_store : (low : List ℕ) (commits : List (List Change)) → IsArea low commits → IsStore (head ++ low) commits
  low_store low commits area = inl (record { head = head; low = low; parts = record { is_head = is_head; whole = refl }; closed = unswitched; area = area })

  pub closed_store : (commits : List (List Change)) (gate : ℕ) (rest : List ℕ) → AllByRecursion CommitFits commits → gate ≢ 1 → IsStore (head ++ blocks commits ++ gate ∷ rest) commits
  closed_store commits gate rest fits other =
      subst (λ (bytes : List ℕ). IsStore bytes commits) (sym (append_assoc head (blocks commits) (gate ∷ rest)))
      (low_store (blocks commits ++ gate ∷ rest) commits (gate ∷ rest, record { fits = fits; whole = refl }, inl other))

  pub opened_store : (commits : List (List Change)) (changes : List Change) (rest : List ℕ) → AllByRecursion CommitFits commits → CommitFits changes
      → IsStore (head ++ blocks commits ++ 1 ∷ (appending changes ++ rest)) (commits ++ changes ∷ [])
  opened_store commits changes rest fits one =
      subst (λ (bytes : List ℕ). IsStore bytes (commits ++ changes ∷ [])) (sym (opened_front head commits changes rest))
      (closed_store (commits ++ changes ∷ []) 0 rest (all_more CommitFits commits changes fits one) (λ e. omega (arith, e)))

-- a store at rest is a store
pub rests_store : (commits : List (List Change)) (bytes : List ℕ) → IsAtRest commits bytes → IsStore bytes commits
rests_store commits bytes rests =
    subst (λ (b : List ℕ). IsStore b commits) (sym rests.whole) (closed_store rests.head rests.is_head rests.unswitched commits rests.gate rests.rest rests.fits rests.closed)
