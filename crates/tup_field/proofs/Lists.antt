-- How the members of a list are written and read, one after another.
use Rattle.std.proofs.Common.{◌≡◌, ℕ, suc, ◌+◌, ◌-◌, ◌<◌, List, [], ◌∷◌, ◌++◌, length, drop, get_or, Ok, Err, ◌⊎◌, inl, inr, refl, ap, sym, subst, ◌∙◌, append_assoc, append-nil, arith}
use Rattle.std.specs.List.{flat_map, AllByRecursion}
use Rattle.std.proofs.lemmas.List.{drop_more}
use Rattle.std.proofs.lemmas.List.Concat.{flat_map-cons}
use Rattle.tup_field.specs.declared.fault.RecordFault.{RecordFault}
use Rattle.tup_field.specs.declared.fault.RecordFault.TheVariants.{Memory}
use Rattle.tup_field.specs.Format.{Read, Format, ◌>>=◌}
use Rattle.tup_field.specs.Parts.{many_at}

-- ---- writing: the members from a place on are left
pub record IsLeft {A : Type 0} (f : Format A) (xs : List A) (i : ℕ) (old now : List ℕ) : Type 0 where
  pub bytes : now ++ flat_map f.spelling (drop i xs) ≡ old ++ flat_map f.spelling xs
  pub all : AllByRecursion f.Fits (drop i xs) → AllByRecursion f.Fits xs
  pub left : AllByRecursion f.Writable xs → AllByRecursion f.Writable (drop i xs)

module _ {A : Type 0} (f : Format A) (xs : List A) (old : List ℕ) where
  pub left_more : (i : ℕ) (x : A) (now new : List ℕ) → i < length xs → x ≡ get_or xs i x → f.Fits x → new ≡ now ++ f.spelling x → IsLeft f xs i old now → IsLeft f xs (i + 1) old new
  left_more i x now new lt at fits e so_far =
      let cut : drop i xs ≡ x ∷ drop (i + 1) xs = drop_more xs i x lt ∙ ap (λ (y : A). y ∷ drop (i + 1) xs) (sym at) in
      record {
        bytes = ap (λ (t : List ℕ). t ++ flat_map f.spelling (drop (i + 1) xs)) e ∙ append_assoc now (f.spelling x) (flat_map f.spelling (drop (i + 1) xs))
            ∙ ap (λ (t : List ℕ). now ++ t) (sym (flat_map-cons f.spelling x (drop (i + 1) xs)) ∙ sym (ap (flat_map f.spelling) cut)) ∙ so_far.bytes;
        all = λ more. so_far.all (subst (AllByRecursion f.Fits) (sym cut) (fits, more));
        left = λ each. (let here : AllByRecursion f.Writable (x ∷ drop (i + 1) xs) = subst (AllByRecursion f.Writable) cut (so_far.left each) in here.1);
      }

-- ---- reading: what was read before, and what is still read
abbrev pub with_front : {A : Type 0} → List A → Read (List A) → Read (List A)
with_front front read = read >>= λ x. Ok (front ++ x.0, x.1)

module _ {A : Type 0} (read : List ℕ → Read A) where
  regroup : (front : List A) (x : A) (more : Read (List A)) → with_front front (more >>= λ y. Ok (x ∷ y.0, y.1)) ≡ with_front (front ++ x ∷ []) more
  regroup front x (Ok y) = ap (λ (xs : List A). Ok (xs, y.1)) (sym (append_assoc front (x ∷ []) y.0))
  regroup front x (Err fault) = refl

  pub reads_more : (front : List A) (count i : ℕ) (bytes : List ℕ) (x : A) (rest : List ℕ) (total : Read (List A)) → i < count → read bytes ≡ Ok (x, rest)
      → with_front front (many_at read (count - i) bytes) ≡ total → with_front (front ++ x ∷ []) (many_at read (count - (i + 1)) rest) ≡ total
  reads_more front count i bytes x rest total lt e so_far =
      let k : count - i ≡ suc (count - (i + 1)) = omega arith in
      let one : with_front front (many_at read (count - i) bytes) ≡ with_front (front ++ x ∷ []) (many_at read (count - (i + 1)) rest) = rw (k, e) (regroup front x (many_at read (count - (i + 1)) rest)) in
      sym one ∙ so_far

  -- the next member isn't read
  pub reads_fail : (front : List A) (count i : ℕ) (bytes : List ℕ) (fault : RecordFault) (total : Read (List A)) → i < count → (fault ≡ Memory) ⊎ (read bytes ≡ Err fault)
      → with_front front (many_at read (count - i) bytes) ≡ total → (fault ≡ Memory) ⊎ (total ≡ Err fault)
  reads_fail front count i bytes fault total lt (inl memory) so_far = inl memory
  reads_fail front count i bytes fault total lt (inr e) so_far =
      let k : count - i ≡ suc (count - (i + 1)) = omega arith in
      let one : with_front front (many_at read (count - i) bytes) ≡ Err fault = rw (k, e) refl in
      inr (sym so_far ∙ one)

  -- no member is left
  pub reads_end : (front : List A) (left : ℕ) (bytes : List ℕ) (total : Read (List A)) → left ≡ 0 → with_front front (many_at read left bytes) ≡ total → total ≡ Ok (front, bytes)
  reads_end front left bytes total none so_far =
      let one : with_front front (many_at read left bytes) ≡ Ok (front, bytes) = rw none (ap (λ (xs : List A). Ok (xs, bytes)) (append-nil front)) in
      sym so_far ∙ one
