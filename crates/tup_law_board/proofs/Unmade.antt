-- Owned paths that no rule makes any more, and those of them at which files stand.
use Rattle.std.proofs.Common.{◌≡◌, ℕ, zero, suc, Bool, true, false, cond, ◌||◌, ◌&&◌, List, [], ◌∷◌, map, filter, is_none, Option, None, Some, Contains, refl, sym, ap, ◌∙◌, arith}
use Rattle.std.specs.FinMap as finite
use Rattle.tup_path.specs.Name.{Names}
use Rattle.tup_path.specs.Order.{same_path, by_names-total, by_names-antisymmetric}
use Rattle.tup_path.proofs.Same.{same_path-decides}
use Rattle.tup_rule.specs.Rule.{among}
use Rattle.tup_graph.specs.declared.owned.Owned.{Owned}
use Rattle.tup_graph.specs.Graph.{GraphState}
use Rattle.tup_readers.proofs.Entries.{found_entry}
use Rattle.tup_stale.specs.Unmade.{lacks_maker, unmade}

and_false : (b : Bool) → (b && false) ≡ false
and_false true = refl
and_false false = refl

-- ---- a path is among those that pass a test just where it is among all, and passes
module _ (test : Names → Bool) where
  pub among_filtered : (paths : List Names) (q : Names) → among q (filter test paths) ≡ (among q paths && test q)
  among_filtered [] q = refl
  among_filtered (path ∷ paths) q = by (test path) refl (same_path q path) refl (among_filtered paths q)
    where
      rest : List Names
      rest = filter test paths

      listed : (passes : Bool) → test path ≡ passes → among q (filter test (path ∷ paths)) ≡ among q (cond passes (path ∷ rest) rest)
      listed passes e = ap (λ (b : Bool). among q (cond b (path ∷ rest) rest)) e

      all : (same : Bool) → same_path q path ≡ same → (among q (path ∷ paths) && test q) ≡ ((same || among q paths) && test q)
      all same e = ap (λ (b : Bool). (b || among q paths) && test q) e

      -- the path itself
      tested : same_path q path ≡ true → test q ≡ test path
      tested same = ap test ((same_path-decides q path).0 same)

      by : (passes : Bool) → test path ≡ passes → (same : Bool) → same_path q path ≡ same → among q rest ≡ (among q paths && test q) → among q (filter test (path ∷ paths)) ≡ (among q (path ∷ paths) && test q)
      by true e true same more = listed true e ∙ ap (λ (b : Bool). b || among q rest) same ∙ sym (all true same ∙ tested same ∙ e)
      by true e false same more = listed true e ∙ ap (λ (b : Bool). b || among q rest) same ∙ more ∙ sym (all false same)
      by false e true same more = listed false e ∙ more ∙ ap (λ (b : Bool). among q paths && b) (tested same ∙ e) ∙ and_false (among q paths) ∙ sym (all true same ∙ tested same ∙ e)
      by false e false same more = listed false e ∙ more ∙ sym (all false same)

-- ---- what is listed without a maker is owned so

-- the paths of entries without a maker
abbrev unmade_of : List (Names × Owned) → List Names
unmade_of entries = map (λ (entry : Names × Owned). entry.0) (filter lacks_maker entries)

none_is : (maker : Option ℕ) → is_none maker ≡ true → maker ≡ None
none_is None e = refl
none_is (Some number) e = absurd (let wrong : false ≡ true = e in cc)

module _ (q : Names) where
  abbrev IsUnmadeIn : List (Names × Owned) → Type 0
  IsUnmadeIn entries = (o : Owned) × Contains entries (q, o) × (o.maker ≡ None)

  listed_in : (entries : List (Names × Owned)) → among q (unmade_of entries) ≡ true → IsUnmadeIn entries
  listed_in [] is = absurd (let wrong : false ≡ true = is in cc)
  listed_in (entry ∷ entries) is = by (lacks_maker entry) refl (same_path q entry.0) refl (listed_in entries)
    where
      rest : List Names
      rest = unmade_of entries

      later : IsUnmadeIn entries → IsUnmadeIn (entry ∷ entries)
      later more = (let less = more.1.1 in (more.0, (suc more.1.0, omega (arith, less), more.1.2), more.2))

      listed : (b : Bool) → lacks_maker entry ≡ b → among q (cond b (entry.0 ∷ rest) rest) ≡ true
      listed true e = sym (rw e refl) ∙ is
      listed false e = sym (rw e refl) ∙ is

      by : (b : Bool) → lacks_maker entry ≡ b → (same : Bool) → same_path q entry.0 ≡ same → (among q rest ≡ true → IsUnmadeIn entries) → IsUnmadeIn (entry ∷ entries)
      by true e true same behind = (
        entry.1,
        (zero, omega arith, λ i. (sym ((same_path-decides q entry.0).0 same) i, entry.1)),
        none_is entry.1.maker e,
      )
      by true e false same behind = later (behind (sym (ap (λ (b : Bool). b || among q rest) same) ∙ listed true e))
      by false e same_or_not same behind = later (behind (listed false e))

pub unmade_at : (g : GraphState) (q : Names) → among q (unmade g) ≡ true → (o : Owned) × (finite.get g.owned q ≡ Some o) × (o.maker ≡ None)
unmade_at g q is =
    let found = listed_in q (finite.entries g.owned) is in
    (found.0, found_entry by_names-total by_names-antisymmetric g.owned q found.0 found.1, found.2)
