-- The home of a folder, looked for from the folder upward.
use Rattle.std.specs.Prelude.{◌≡◌, ◌≢◌, List, ℕ, true, false, [], ◌∷◌, ◌++◌, Option, None, Some}
use Rattle.std.proofs.Common.{sym, subst, ◌∙◌}
use Rattle.std.specs.BTreeSet.{BTreeSet, contains}
use Rattle.std.proofs.lemmas.Bool.{true≢false}
use Rattle.tup_path.specs.Name.{Names}
use Rattle.tup_path.specs.Order.{by_names}
use Rattle.tup_graph.specs.Answers.{Sources, IsHome, IsSource, tupfile}
use Rattle.tup_graph.proofs.Homes.{above_of_home, home_of_above, no_home_above, one_home, own_home}
use Rattle.tup_scan_diff.specs.Homes.{AreWithTupfile, IsHomeOf, IsOtherHome}

module _ (sources : Sources) (dirs : BTreeSet Names) (are : AreWithTupfile sources dirs) (dir : Names) where
  -- a folder that has a Tupfile
  pub home_here : contains by_names dirs dir ≡ true → IsHome sources dir dir
  home_here there = own_home sources dir ((are dir).0 there)

  -- one that has none
  module _ (lacks : contains by_names dirs dir ≡ false) where
    no_tupfile : IsSource sources (tupfile dir) → ⊥
    no_tupfile there = true≢false (sym ((are dir).1 there) ∙ lacks)

    pub top_without : dir ≡ [] → (home : Names) → IsHome sources dir home → ⊥
    top_without top home is =
        no_home_above sources home (subst (λ (d : Names). IsSource sources (tupfile d) → ⊥) top no_tupfile) (subst (λ (d : Names). IsHome sources d home) top is)

    module _ (above : Names) (name : List ℕ) (parts : dir ≡ above ++ name ∷ []) where
      none_there : IsSource sources (tupfile (above ++ name ∷ [])) → ⊥
      none_there = subst (λ (d : Names). IsSource sources (tupfile d) → ⊥) parts no_tupfile

      pub home_found : (found : Option Names) → IsHomeOf sources above found → IsHomeOf sources dir found
      home_found (Some home) is = subst (λ (d : Names). IsHome sources d home) (sym parts) (home_of_above sources above name none_there home is)
      home_found None never = λ home is. never home (above_of_home sources above name none_there home (subst (λ (d : Names). IsHome sources d home) parts is))

-- the home is the folder that is read
pub own_is_no_other : (sources : Sources) (reader dir home : Names) → IsHome sources dir home → home ≡ reader → IsOtherHome sources reader dir None
own_is_no_other sources reader dir home at same = λ other other_at apart. apart (one_home sources dir other home other_at at ∙ same)
