-- Answers to what a reading asked.
use Rattle.std.specs.Prelude.{◌≡◌, ◌≢◌, ℕ, Bool, List, [], ◌∷◌, ◌++◌, Decides}
use Rattle.std.proofs.Common.{refl, sym, subst, ◌∙◌, inl, inr}
use Rattle.tup_path.specs.Name.{Names}
use Rattle.tup_rule.specs.declared.question.Kind.{Kind}
use Rattle.tup_rule.specs.declared.question.Kind.TheVariants.{Nothing, File, Dir}
use Rattle.tup_graph.specs.Answers.{Sources, Readings, IsHome, IsKind, IsMadeElsewhere, IsOutputOf}
use Rattle.tup_graph.proofs.Homes.{one_home}
use Rattle.tup_scan_diff.specs.Made.{HasOutput}
use Rattle.tup_scan_diff.proofs.Paths.{one_folder}

-- ---- an output of another folder's reading

module _ (sources : Sources) (readings : Readings) (reader path : Names) where
  pub nothing_elsewhere : path ≡ [] → IsMadeElsewhere sources readings reader path → ⊥
  nothing_elsewhere top (dir, name, is, told) = not_top dir name (sym is ∙ top)
    where
      not_top : (dir : Names) (name : List ℕ) → dir ++ name ∷ [] ≡ [] → ⊥
      not_top [] name e = cc
      not_top (first ∷ dir) name e = cc

  -- nor where the home of its folder isn't another folder
  pub none_elsewhere : (dir : Names) (name : List ℕ) → path ≡ dir ++ name ∷ [] → ((home : Names) → IsHome sources dir home → home ≢ reader → ⊥) → IsMadeElsewhere sources readings reader path → ⊥
  none_elsewhere dir name here none (other, one, is, (home, at, apart, out)) = none home (subst (λ (d : Names). IsHome sources d home) (one_folder other dir one name (sym is ∙ here)) at) apart

  pub not_elsewhere : (dir : Names) (name : List ℕ) → path ≡ dir ++ name ∷ [] → (home : Names) → IsHome sources dir home → home ≡ reader → IsMadeElsewhere sources readings reader path → ⊥
  not_elsewhere dir name here home at same = none_elsewhere dir name here (λ other other_at apart. apart (one_home sources dir other home other_at at ∙ same))

  -- where it is one
  module _ (dir : Names) (name : List ℕ) (home : Names) (here : path ≡ dir ++ name ∷ []) (at : IsHome sources dir home) (apart : home ≢ reader) where
    is_output : HasOutput readings home path → IsOutputOf sources readings home path
    is_output (reading, kept, drafted) = record { reading = reading; kept = kept; has_tupfile = at.has_tupfile; drafted = drafted }

    has_output : IsMadeElsewhere sources readings reader path → HasOutput readings home path
    has_output (other, one, is, (its_home, its_at, its_apart, out)) =
        let folder : other ≡ dir = one_folder other dir one name (sym is ∙ here) in
        let same : its_home ≡ home = one_home sources dir its_home home (subst (λ (d : Names). IsHome sources d its_home) folder its_at) at in
        subst (λ (h : Names). HasOutput readings h path) same (out.reading, out.kept, out.drafted)

    pub elsewhere_decides : (b : Bool) → Decides b (HasOutput readings home path) → Decides b (IsMadeElsewhere sources readings reader path)
    elsewhere_decides b decides = (λ e. (dir, name, here, (home, at, apart, is_output (decides.0 e))), λ made. decides.1 (has_output made))

  -- ---- what stands at a path is one thing
  pub one_kind : (a b : Kind) → IsKind sources readings reader path a → IsKind sources readings reader path b → a ≡ b
  one_kind File File x y = refl
  one_kind Dir Dir x y = refl
  one_kind Nothing Nothing x y = refl
  one_kind File Dir (inl s) y = absurd (y.0 s)
  one_kind File Dir (inr m) y = absurd (m.0 y.1)
  one_kind Dir File x (inl s) = absurd (x.0 s)
  one_kind Dir File x (inr m) = absurd (m.0 x.1)
  one_kind File Nothing (inl s) y = absurd (y.0 s)
  one_kind File Nothing (inr m) y = absurd (y.2 m.1)
  one_kind Nothing File x (inl s) = absurd (x.0 s)
  one_kind Nothing File x (inr m) = absurd (x.2 m.1)
  one_kind Dir Nothing x y = absurd (y.1 x.1)
  one_kind Nothing Dir x y = absurd (x.1 y.1)

  pub kind_decides : (found kind : Kind) (b : Bool) → Decides b (found ≡ kind) → IsKind sources readings reader path found → Decides b (IsKind sources readings reader path kind)
  kind_decides found kind b same is = (λ e. subst (IsKind sources readings reader path) (same.0 e) is, λ other. same.1 (one_kind found kind is other))
