-- The home of a folder is the one folder at or above it that has a Tupfile while none further down does.
use Rattle.std.proofs.Common.{◌≡◌, ◌⊎◌, inl, inr, ℕ, ◌+◌, Bool, true, false, cond, List, [], ◌∷◌, ◌++◌, length, Option, Some, None, refl, sym, ap, ◌∙◌, subst, append_assoc, append-nil, arith, length-append}
use Rattle.std.proofs.lemmas.List.{nil_from_length, same_from_push}
use Rattle.tup_path.specs.Name.{Names}
use Rattle.tup_path.specs.Tree.{Tree, IsBelow}
use Rattle.tup_readings.specs.Sources.{has_tupfile, own_or, last_home, home}
use Rattle.tup_readings.proofs.Below.{last_item}

-- ---- paths by their last name

-- what is so of the top, and goes down by one name, is so of each folder
by_last : (P : Names → Type 0) → P [] → ((dir : Names) (name : List ℕ) → P dir → P (dir ++ name ∷ [])) → (dir : Names) → P dir
by_last P top down dir = from [] dir top
  where
    from : (front rest : Names) → P front → P (front ++ rest)
    from front [] is = subst P (sym (append-nil front)) is
    from front (name ∷ rest) is = subst P (append_assoc front (name ∷ []) rest) (from (front ++ name ∷ []) rest (down front name is))

-- a folder is another one or above it
abbrev pub IsAtOrAbove : Names → Names → Type 0
IsAtOrAbove folder dir = (rest : Names) × (dir ≡ folder ++ rest)

above_top : (folder : Names) → IsAtOrAbove folder [] → folder ≡ []
above_top [] is = refl
above_top (name ∷ folder) (rest, is) = cc

pub at_itself : (dir : Names) → IsAtOrAbove dir dir
at_itself dir = ([], sym (append-nil dir))

pub further_down : (folder dir : Names) (name : List ℕ) → IsAtOrAbove folder dir → IsAtOrAbove folder (dir ++ name ∷ [])
further_down folder dir name (rest, is) = (rest ++ name ∷ [], ap (λ (d : Names). d ++ name ∷ []) is ∙ append_assoc folder rest (name ∷ []))

-- a folder at or above a path is that path, or at or above its folder
pub at_or_above_named : (folder dir : Names) (name : List ℕ) → IsAtOrAbove folder (dir ++ name ∷ []) → (folder ≡ dir ++ name ∷ []) ⊎ IsAtOrAbove folder dir
at_or_above_named folder dir name (rest, is) = by (last_item rest)
  where
    by : (rest ≡ []) ⊎ ((front : Names) × (last : List ℕ) × (rest ≡ front ++ last ∷ [])) → (folder ≡ dir ++ name ∷ []) ⊎ IsAtOrAbove folder dir
    by (inl none) = inl (sym (is ∙ ap (λ (r : Names). folder ++ r) none ∙ append-nil folder))
    by (inr (front, last, ends)) =
        let whole : dir ++ name ∷ [] ≡ (folder ++ front) ++ last ∷ [] = is ∙ ap (λ (r : Names). folder ++ r) ends ∙ sym (append_assoc folder front (last ∷ [])) in
        inr (front, (same_from_push dir (folder ++ front) name last whole).0)

-- no folder is above itself
pub none_above_itself : (folder dir : Names) → IsBelow folder dir → IsAtOrAbove dir folder → ⊥
none_above_itself folder dir (more, some, is) (rest, back) =
    let long : length dir ≡ length folder + length more = ap length is ∙ length-append folder more in
    let short : length folder ≡ length dir + length rest = ap length back ∙ length-append dir rest in
    some (nil_from_length more (omega (arith, long, short)))

module _ (sources : Tree) where
  -- ---- one name more

  last_more : (other : Option Names) (dir names : Names) (name : List ℕ) → last_home sources other dir (names ++ name ∷ []) ≡ own_or sources (last_home sources other dir names) ((dir ++ names) ++ name ∷ [])
  last_more other dir [] name = ap (λ (d : Names). own_or sources (own_or sources other dir) (d ++ name ∷ [])) (sym (append-nil dir))
  last_more other dir (first ∷ names) name =
      last_more (own_or sources other dir) (dir ++ first ∷ []) names name
      ∙ ap (λ (d : Names). own_or sources (last_home sources (own_or sources other dir) (dir ++ first ∷ []) names) (d ++ name ∷ [])) (append_assoc dir (first ∷ []) names)

  -- a folder's home is itself, or that of the folder above it
  pub home_named : (dir : Names) (name : List ℕ) → home sources (dir ++ name ∷ []) ≡ own_or sources (home sources dir) (dir ++ name ∷ [])
  home_named dir name = last_more None [] dir name

  own : (other : Option Names) (dir : Names) → has_tupfile sources dir ≡ true → own_or sources other dir ≡ Some dir
  own other dir has = ap (λ b. cond b (Some dir) other) has

  not_own : (other : Option Names) (dir : Names) → has_tupfile sources dir ≡ false → own_or sources other dir ≡ other
  not_own other dir none = ap (λ b. cond b (Some dir) other) none

  -- a folder that has a Tupfile is its own home
  pub home_own : (dir : Names) → has_tupfile sources dir ≡ true → home sources dir ≡ Some dir
  home_own = by_last (λ dir. has_tupfile sources dir ≡ true → home sources dir ≡ Some dir) (own None []) (λ dir name before has. home_named dir name ∙ own (home sources dir) (dir ++ name ∷ []) has)

  -- another one has the home of the folder above it
  pub home_above : (dir : Names) (name : List ℕ) → has_tupfile sources (dir ++ name ∷ []) ≡ false → home sources (dir ++ name ∷ []) ≡ home sources dir
  home_above dir name none = home_named dir name ∙ not_own (home sources dir) (dir ++ name ∷ []) none

  -- ---- what a home is

  -- it is at or above the folder and has a Tupfile, and no folder further down to that one has
  pub record IsHome (dir folder : Names) : Type 0 where
    pub above : IsAtOrAbove folder dir
    pub has : has_tupfile sources folder ≡ true
    pub nearest : (other : Names) → IsBelow folder other → IsAtOrAbove other dir → has_tupfile sources other ≡ false

  its_own : (dir : Names) → has_tupfile sources dir ≡ true → IsHome dir dir
  its_own dir has = record { above = at_itself dir; has = has; nearest = λ other below above. absurd (none_above_itself dir other below above) }

  of_above : (dir folder : Names) (name : List ℕ) → has_tupfile sources (dir ++ name ∷ []) ≡ false → IsHome dir folder → IsHome (dir ++ name ∷ []) folder
  of_above dir folder name none is = record {
    above = further_down folder dir name is.above;
    has = is.has;
    nearest = λ other below above. elim (at_or_above_named other dir name above) [
      | inl same ↦ ap (has_tupfile sources) same ∙ none
      | inr further ↦ is.nearest other below further
    ];
  }

  pub home_is : (dir folder : Names) → home sources dir ≡ Some folder → IsHome dir folder
  home_is = by_last (λ dir. (folder : Names) → home sources dir ≡ Some folder → IsHome dir folder) top down
    where
      top : (folder : Names) → home sources [] ≡ Some folder → IsHome [] folder
      top folder e = by (has_tupfile sources []) refl e
        where
          by : (b : Bool) → has_tupfile sources [] ≡ b → cond b (Some []) None ≡ Some folder → IsHome [] folder
          by true has e = let same : [] ≡ folder = cc in subst (IsHome []) same (its_own [] has)
          by false none e = cc

      down : (dir : Names) (name : List ℕ) → ((folder : Names) → home sources dir ≡ Some folder → IsHome dir folder) → (folder : Names) → home sources (dir ++ name ∷ []) ≡ Some folder → IsHome (dir ++ name ∷ []) folder
      down dir name before folder e = by (has_tupfile sources (dir ++ name ∷ [])) refl
        where
          by : (b : Bool) → has_tupfile sources (dir ++ name ∷ []) ≡ b → IsHome (dir ++ name ∷ []) folder
          by true has =
              let here : Some (dir ++ name ∷ []) ≡ Some folder = sym (home_own (dir ++ name ∷ []) has) ∙ e in
              let same : dir ++ name ∷ [] ≡ folder = cc in
              subst (IsHome (dir ++ name ∷ [])) same (its_own (dir ++ name ∷ []) has)
          by false none = of_above dir folder name none (before folder (sym (home_above dir name none) ∙ e))

  pub is_home : (dir folder : Names) → IsHome dir folder → home sources dir ≡ Some folder
  is_home = by_last (λ dir. (folder : Names) → IsHome dir folder → home sources dir ≡ Some folder) top down
    where
      top : (folder : Names) → IsHome [] folder → home sources [] ≡ Some folder
      top folder is =
          let here : folder ≡ [] = above_top folder is.above in
          home_own [] (ap (has_tupfile sources) (sym here) ∙ is.has) ∙ ap (λ d. Some d) (sym here)

      down : (dir : Names) (name : List ℕ) → ((folder : Names) → IsHome dir folder → home sources dir ≡ Some folder) → (folder : Names) → IsHome (dir ++ name ∷ []) folder → home sources (dir ++ name ∷ []) ≡ Some folder
      down dir name before folder is = by (at_or_above_named folder dir name is.above)
        where
          below : IsAtOrAbove folder dir → IsBelow folder (dir ++ name ∷ [])
          below (rest, e) = (
            rest ++ name ∷ [],
            λ empty. let long : length (rest ++ name ∷ []) ≡ 0 = ap length empty in absurd (omega (arith, long, length-append rest (name ∷ []))),
            ap (λ (d : Names). d ++ name ∷ []) e ∙ append_assoc folder rest (name ∷ []),
          )

          by : (folder ≡ dir ++ name ∷ []) ⊎ IsAtOrAbove folder dir → home sources (dir ++ name ∷ []) ≡ Some folder
          by (inl here) = home_own (dir ++ name ∷ []) (ap (has_tupfile sources) (sym here) ∙ is.has) ∙ ap (λ d. Some d) (sym here)
          by (inr above) =
              home_above dir name (is.nearest (dir ++ name ∷ []) (below above) (at_itself (dir ++ name ∷ [])))
              ∙ before folder (record { above = above; has = is.has; nearest = λ other lower upper. is.nearest other lower (further_down other dir name upper) })

  -- a folder without a home has no Tupfile at or above it
  pub no_home : (dir : Names) → home sources dir ≡ None → (other : Names) → IsAtOrAbove other dir → has_tupfile sources other ≡ false
  no_home = by_last (λ dir. home sources dir ≡ None → (other : Names) → IsAtOrAbove other dir → has_tupfile sources other ≡ false) top down
    where
      top : home sources [] ≡ None → (other : Names) → IsAtOrAbove other [] → has_tupfile sources other ≡ false
      top e other above = ap (has_tupfile sources) (above_top other above) ∙ off (has_tupfile sources []) [] e
        where
          off : (b : Bool) (folder : Names) → cond b (Some folder) None ≡ None → b ≡ false
          off true folder e = cc
          off false folder e = refl

      down : (dir : Names) (name : List ℕ) → (home sources dir ≡ None → (other : Names) → IsAtOrAbove other dir → has_tupfile sources other ≡ false)
          → home sources (dir ++ name ∷ []) ≡ None → (other : Names) → IsAtOrAbove other (dir ++ name ∷ []) → has_tupfile sources other ≡ false
      down dir name before e other above = by (has_tupfile sources (dir ++ name ∷ [])) refl
        where
          by : (b : Bool) → has_tupfile sources (dir ++ name ∷ []) ≡ b → has_tupfile sources other ≡ false
          by true has = let wrong : Some (dir ++ name ∷ []) ≡ None = sym (home_own (dir ++ name ∷ []) has) ∙ e in cc
          by false none = elim (at_or_above_named other dir name above) [
            | inl same ↦ ap (has_tupfile sources) same ∙ none
            | inr further ↦ before (sym (home_above dir name none) ∙ e) other further
          ]

-- ---- two trees

-- homes are the same where the same folders have a Tupfile
pub homes_alike : (one other : Tree) → ((dir : Names) → has_tupfile one dir ≡ has_tupfile other dir) → (dir : Names) → home one dir ≡ home other dir
homes_alike one other same dir = from None [] dir
  where
    from : (before : Option Names) (dir names : Names) → last_home one before dir names ≡ last_home other before dir names
    from before dir [] = ap (λ b. cond b (Some dir) before) (same dir)
    from before dir (name ∷ names) =
        ap (λ b. last_home one (cond b (Some dir) before) (dir ++ name ∷ []) names) (same dir) ∙ from (own_or other before dir) (dir ++ name ∷ []) names
