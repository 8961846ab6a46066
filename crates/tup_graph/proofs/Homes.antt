-- Homes of folders: a folder has one home at most, which is itself or that of the folder above it.
use Rattle.std.specs.Prelude.{◌≡◌, ◌⊎◌, List, ℕ, [], ◌∷◌, ◌++◌}
use Rattle.std.proofs.Common.{refl, sym, ap, ap₂, subst, ◌∙◌, inl, inr, append_assoc}
use Rattle.std.proofs.lemmas.List.{append-nil, append_cancel_left}
use Rattle.tup_path.specs.Name.{Names}
use Rattle.tup_path.specs.Tree.{IsBelow}
use Rattle.tup_graph.specs.Answers.{Sources, IsAtOrAbove, IsHome, IsSource, tupfile}

-- ---- folders at or above a path

none_in_front : (front rest : Names) → [] ≡ front ++ rest → front ≡ []
none_in_front [] rest e = refl
none_in_front (name ∷ front) rest e = absurd (cc)

-- of two folders at or above one path, one is at or above the other
pub on_one_way : (a b rest more : Names) → a ++ rest ≡ b ++ more → (a ≡ b) ⊎ (IsBelow a b ⊎ IsBelow b a)
on_one_way [] [] rest more e = inl refl
on_one_way [] (name ∷ b) rest more e = inr (inl (name ∷ b, λ none. cc, refl))
on_one_way (name ∷ a) [] rest more e = inr (inr (name ∷ a, λ none. cc, refl))
on_one_way (x ∷ a) (y ∷ b) rest more e =
    let first : x ≡ y = cc in
    let others : a ++ rest ≡ b ++ more = cc in
    below_one first (on_one_way a b rest more others)
  where
    below_one : x ≡ y → (a ≡ b) ⊎ (IsBelow a b ⊎ IsBelow b a) → (x ∷ a ≡ y ∷ b) ⊎ (IsBelow (x ∷ a) (y ∷ b) ⊎ IsBelow (y ∷ b) (x ∷ a))
    below_one first (inl same) = inl (ap₂ (λ (n : List ℕ) (p : Names). n ∷ p) first same)
    below_one first (inr (inl (way, some, is))) = inr (inl (way, some, ap₂ (λ (n : List ℕ) (p : Names). n ∷ p) (sym first) is))
    below_one first (inr (inr (way, some, is))) = inr (inr (way, some, ap₂ (λ (n : List ℕ) (p : Names). n ∷ p) first is))

-- a folder at or above a path is the path, or it is at or above the folder of the path
pub last_or_above : (folder more dir : Names) (name : List ℕ) → dir ++ name ∷ [] ≡ folder ++ more → (folder ≡ dir ++ name ∷ []) ⊎ IsAtOrAbove folder dir
last_or_above [] more dir name e = inr (dir, refl)
last_or_above (x ∷ folder) more [] name e =
    let first : x ≡ name = cc in
    let others : [] ≡ folder ++ more = cc in
    inl (ap₂ (λ (n : List ℕ) (p : Names). n ∷ p) first (none_in_front folder more others))
last_or_above (x ∷ folder) more (y ∷ dir) name e =
    let first : x ≡ y = cc in
    let others : dir ++ name ∷ [] ≡ folder ++ more = cc in
    below_one first (last_or_above folder more dir name others)
  where
    below_one : x ≡ y → (folder ≡ dir ++ name ∷ []) ⊎ IsAtOrAbove folder dir → (x ∷ folder ≡ (y ∷ dir) ++ name ∷ []) ⊎ IsAtOrAbove (x ∷ folder) (y ∷ dir)
    below_one first (inl same) = inl (ap₂ (λ (n : List ℕ) (p : Names). n ∷ p) first same)
    below_one first (inr (rest, is)) = inr (rest, ap₂ (λ (n : List ℕ) (p : Names). n ∷ p) (sym first) is)

-- what is at or above a folder is at or above what stands in it
pub above_further : (folder dir : Names) (name : List ℕ) → IsAtOrAbove folder dir → IsAtOrAbove folder (dir ++ name ∷ [])
above_further folder dir name (rest, is) = (rest ++ name ∷ [], ap (λ (l : Names). l ++ name ∷ []) is ∙ append_assoc folder rest (name ∷ []))

-- ---- homes

module _ (sources : Sources) where
  pub one_home : (dir a b : Names) → IsHome sources dir a → IsHome sources dir b → a ≡ b
  one_home dir a b x y = nearer (on_one_way a b x.above.0 y.above.0 (sym x.above.1 ∙ y.above.1))
    where
      nearer : (a ≡ b) ⊎ (IsBelow a b ⊎ IsBelow b a) → a ≡ b
      nearer (inl same) = same
      nearer (inr (inl below)) = absurd (x.nearest b below y.above y.has_tupfile)
      nearer (inr (inr below)) = absurd (y.nearest a below x.above x.has_tupfile)

  -- a folder that has a Tupfile is its own home
  pub own_home : (dir : Names) → IsSource sources (tupfile dir) → IsHome sources dir dir
  own_home dir there = record {
    above = ([], sym (append-nil dir));
    has_tupfile = there;
    nearest = λ folder (rest, some, is) (more, at) tup.
        some (none_in_front rest more (append_cancel_left dir [] (rest ++ more) (append-nil dir ∙ at ∙ ap (λ (l : Names). l ++ more) is ∙ append_assoc dir rest more)));
  }

  pub home_is_own : (dir home : Names) → IsSource sources (tupfile dir) → IsHome sources dir home → home ≡ dir
  home_is_own dir home there is = one_home dir home dir is (own_home dir there)

  -- the top has no other home
  pub no_home_above : (home : Names) → (IsSource sources (tupfile []) → ⊥) → IsHome sources [] home → ⊥
  no_home_above home none is = none (subst (λ (h : Names). IsSource sources (tupfile h)) (none_in_front home is.above.0 is.above.1) is.has_tupfile)

  -- a folder that has no Tupfile has the home of the folder in which it stands
  module _ (dir : Names) (name : List ℕ) (none : IsSource sources (tupfile (dir ++ name ∷ [])) → ⊥) where
    pub home_of_above : (home : Names) → IsHome sources dir home → IsHome sources (dir ++ name ∷ []) home
    home_of_above home is = record { above = above_further home dir name is.above; has_tupfile = is.has_tupfile; nearest = nearest }
      where
        nearest : (folder : Names) → IsBelow home folder → IsAtOrAbove folder (dir ++ name ∷ []) → IsSource sources (tupfile folder) → ⊥
        nearest folder below (more, at) there = elim (last_or_above folder more dir name at) [
          | inl same ↦ none (subst (λ (f : Names). IsSource sources (tupfile f)) same there)
          | inr above ↦ is.nearest folder below above there
        ]

    pub above_of_home : (home : Names) → IsHome sources (dir ++ name ∷ []) home → IsHome sources dir home
    above_of_home home is = record {
      above = elim (last_or_above home is.above.0 dir name is.above.1) [
        | inl same ↦ absurd (none (subst (λ (h : Names). IsSource sources (tupfile h)) same is.has_tupfile))
        | inr above ↦ above
      ];
      has_tupfile = is.has_tupfile;
      nearest = λ folder below above there. is.nearest folder below (above_further folder dir name above) there;
    }
