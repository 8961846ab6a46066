-- names and values in a map whose keys are texts, and look-ups after a name was set
use Rattle.std.proofs.Common.{◌≡◌, ℕ, Bool, true, false, List, [], ◌∷◌, Some, None, ◌++◌, unwrap_or, Result, Ok, Err, OnOk, OnErr, String, string_bytes, bytes_eq, if◌then◌else◌, refl, sym, ap, ◌∙◌}
use Rattle.std.specs.Map.{lookup, set_value}
use Rattle.std.specs.String.{string_eq}
use Rattle.std.proofs.lemmas.Map.Steps.{set_value_same}
use Rattle.std.proofs.lemmas.Slice.Eq.{bytes_eq-Decides}
use Rattle.indexmap.specs.IndexMap.{insert_entry}
use Rattle.tup_vars.specs.Table.{Entries, look, put, value_of, named}

pub look-named : {Y : Type 0} (name : List ℕ) (all : List (String Y × List ℕ)) → lookup (λ key. bytes_eq name (string_bytes key)) all ≡ look (named all) name
look-named name [] = refl
look-named name (entry ∷ more) = ap (λ rest. if bytes_eq name (string_bytes entry.0) then Some entry.1 else rest) (look-named name more)

pub put-named : {Y : Type 0} (key : String Y) (value : List ℕ) (all : List (String Y × List ℕ)) → named (insert_entry string_eq all key value) ≡ put (named all) (string_bytes key) value
put-named key value [] = refl
put-named key value (entry ∷ more) = by_test (put-named key value more) (string_eq key entry.0)
  where
    by_test : named (insert_entry string_eq more key value) ≡ put (named more) (string_bytes key) value → (b : Bool) → named (if b then (entry.0, value) ∷ more else entry ∷ insert_entry string_eq more key value)
        ≡ (if b then (string_bytes entry.0, value) ∷ named more else (string_bytes entry.0, entry.1) ∷ put (named more) (string_bytes key) value)
    by_test rest true = refl
    by_test rest false = ap (λ rest. (string_bytes entry.0, entry.1) ∷ rest) rest

-- a map whose keys are texts, in which the value of a name was written over
module _ {Y : Type 0} (name : List ℕ) where
  written-named : (all : List (String Y × List ℕ)) (old new : List ℕ) → lookup (λ key. bytes_eq name (string_bytes key)) all ≡ Some old → named (set_value (λ key. bytes_eq name (string_bytes key)) all new) ≡ put (named all) name new
  written-named [] old new there = absurd (cc)
  written-named (entry ∷ more) old new there = by_test (bytes_eq name (string_bytes entry.0)) there (written-named more old new)
    where
      by_test : (b : Bool) → (if b then Some entry.1 else lookup (λ key. bytes_eq name (string_bytes key)) more) ≡ Some old
          → (lookup (λ key. bytes_eq name (string_bytes key)) more ≡ Some old → named (set_value (λ key. bytes_eq name (string_bytes key)) more new) ≡ put (named more) name new)
          → named (if b then (entry.0, new) ∷ more else entry ∷ set_value (λ key. bytes_eq name (string_bytes key)) more new) ≡ (if b then (string_bytes entry.0, new) ∷ named more else (string_bytes entry.0, entry.1) ∷ put (named more) name new)
      by_test true there rest = refl
      by_test false there rest = ap (λ rest. (string_bytes entry.0, entry.1) ∷ rest) (rest there)

  -- where the value has grown by a text, or stays as it was
  module _ (all after : List (String Y × List ℕ)) (table : Entries) (value more new : List ℕ) (seen : named all ≡ table) (there : Some value ≡ lookup (λ key. bytes_eq name (string_bytes key)) all) (is : after ≡ set_value (λ key. bytes_eq name (string_bytes key)) all new) where
    pub grown-named : {T E : Type 0} (r : Result T E) → OnOk r (new ≡ value ++ more) → OnOk r (named after ≡ put table name (value_of table name ++ more))
    grown-named (Ok _) grown =
        let found : Some value ≡ look table name = there ∙ look-named name all ∙ ap (λ t. look t name) seen in
        ap named is ∙ written-named all value new (sym there) ∙ ap (λ t. put t name new) seen ∙ ap (put table name) (grown ∙ ap (λ o. unwrap_or o [] ++ more) found)
    grown-named (Err _) grown = tt

    pub same-named : {T E : Type 0} (r : Result T E) → OnErr r (new ≡ value) → OnErr r (named after ≡ table)
    same-named (Ok _) same = tt
    same-named (Err _) same = ap named (is ∙ set_value_same (λ key. bytes_eq name (string_bytes key)) all new (sym there ∙ ap (λ v. Some v) (sym same))) ∙ seen

-- a name without a value begins one
pub begun-named : {T E : Type 0} (r : Result T E) (name value more : List ℕ) (before table new : Entries) → before ≡ table → None ≡ look table name → value ≡ more → OnOk r (new ≡ put before name value) → OnOk r (new ≡ put table name (value_of table name ++ more))
begun-named (Ok _) name value more before table new same none is begun =
    begun ∙ ap (λ t. put t name value) same ∙ ap (put table name) (is ∙ ap (λ o. unwrap_or o [] ++ more) none)
begun-named (Err _) name value more before table new same none is begun = tt

-- the name that was set has its value, and each other one the value that it had
pub look-put : (all : Entries) (name value other : List ℕ) → look (put all name value) other ≡ (if bytes_eq other name then Some value else look all other)
look-put [] name value other = refl
look-put ((key, old) ∷ more) name value other = by_test (look-put more name value other) (bytes_eq name key) refl
  where
    by_test : look (put more name value) other ≡ (if bytes_eq other name then Some value else look more other) → (b : Bool) → bytes_eq name key ≡ b → look (if b then (key, value) ∷ more else (key, old) ∷ put more name value) other
        ≡ (if bytes_eq other name then Some value else if bytes_eq other key then Some old else look more other)
    by_test rest true e =
        let same : name ≡ key = (bytes_eq-Decides name key).0 e in
        by_other (bytes_eq other key) (ap (bytes_eq other) same)
      where
        by_other : (b : Bool) → bytes_eq other name ≡ b → (if b then Some value else look more other) ≡ (if bytes_eq other name then Some value else if b then Some old else look more other)
        by_other true e = ap (λ t. if t then Some value else Some old) (sym e)
        by_other false e = ap (λ t. if t then Some value else look more other) (sym e)
    by_test rest false e = ap (λ rest. if bytes_eq other key then Some old else rest) rest ∙ by_both (bytes_eq other key) (bytes_eq other name) refl refl
      where
        by_both : (k n : Bool) → bytes_eq other key ≡ k → bytes_eq other name ≡ n → (if k then Some old else if n then Some value else look more other) ≡ (if n then Some value else if k then Some old else look more other)
        by_both true true there here = absurd (let one : name ≡ key = sym ((bytes_eq-Decides other name).0 here) ∙ (bytes_eq-Decides other key).0 there in let yes : bytes_eq name key ≡ true = (bytes_eq-Decides name key).1 one in cc)
        by_both true false there here = refl
        by_both false true there here = refl
        by_both false false there here = refl
