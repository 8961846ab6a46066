-- The contents of sources that were asked for.
use Rattle.std.proofs.Common.{◌≡◌, Bool, true, false, cond, not, ◌&&◌, List, Some, None, is_some, IsSome, refl, sym, ap, ◌∙◌}
use Rattle.std.specs.BTreeSet.{contains}
use Rattle.std.specs.FinMap as finite
use Rattle.std.specs.List.{list_any}
use Rattle.std.specs.Ordering.{eq_by_cmp}
use Rattle.std.proofs.lemmas.Bool.{true≢false}
use Rattle.tup_path.specs.Name.{Names, Content}
use Rattle.tup_path.specs.Order.{by_names, by_names-total, same_path, same_path-by_names}
use Rattle.tup_path.specs.Tree.{Tree}
use Rattle.tup_path.proofs.Same.{same_path-decides}
use Rattle.tup_rule.specs.Rule.{among}
use Rattle.tup_refresh.specs.declared.fetched.Fetched.{Fetched}
use Rattle.tup_refresh.specs.Part.{AreFetched}

-- the set of some paths has just these
pub members : (path : Names) (paths : List Names) → list_any (eq_by_cmp by_names path) paths ≡ among path paths
members path paths = ap (λ (test : Names → Bool). list_any test paths) (λ i other. sym (same_path-by_names path other) i)

-- one that is missing no more, whose content is known
module _ (sources : Tree) (old new : Fetched) (path : Names) (is : AreFetched sources old) (on : contains by_names old.missing path ≡ true)
    (rest : (other : Names) → contains by_names new.missing other ≡ (contains by_names old.missing other && not (same_path other path))) where
  still : (other : Names) → contains by_names new.missing other ≡ true → IsSome (finite.get sources other)
  still other there = is.missing other (front (contains by_names old.missing other) (not (same_path other path)) (sym (rest other) ∙ there))
    where
      front : (a b : Bool) → (a && b) ≡ true → a ≡ true
      front true b e = refl
      front false b e = e

  known_before : (other : Names) → contains by_names new.missing other ≡ false → same_path other path ≡ false → finite.get old.contents other ≡ finite.get sources other
  known_before other off apart = is.known other (alone (contains by_names old.missing other) (ap (λ b. contains by_names old.missing other && not b) (sym apart) ∙ sym (rest other) ∙ off))
    where
      alone : (a : Bool) → (a && true) ≡ false → a ≡ false
      alone true e = e
      alone false e = refl

  pub one_fetched : (content : Content) → Some content ≡ finite.get sources path → new.contents ≡ finite.insert old.contents path content → AreFetched sources new
  one_fetched content here now = record {
    known = λ other off.
        ap (λ m. finite.get m other) now ∙ finite.get-insert by_names-total old.contents path content other ∙ ap (λ b. cond b (Some content) (finite.get old.contents other)) (sym (same_path-by_names other path))
        ∙ by other off (same_path other path) refl;
    missing = still;
  }
    where
      by : (other : Names) → contains by_names new.missing other ≡ false → (b : Bool) → same_path other path ≡ b → cond b (Some content) (finite.get old.contents other) ≡ finite.get sources other
      by other off true same = here ∙ ap (finite.get sources) (sym ((same_path-decides other path).0 same))
      by other off false apart = known_before other off apart

  -- a source has a content
  pub none_missing : None ≡ finite.get sources path → AreFetched sources new
  none_missing none =
      let wrong : false ≡ true = ap is_some none ∙ is.missing path on in
      absurd (true≢false (sym wrong))
