-- Files in a list, beside the stamps with which all files were seen.
use Rattle.std.specs.Prelude.{◌≡◌, ℕ, List, [], Some}
use Rattle.std.specs.Borrow.{Bor}
use Rattle.std.proofs.Common.{sym, subst, ap, ◌∙◌, map}
use Rattle.std.specs.FinMap as finite
use Rattle.std.specs.List.{slice_get}
use Rattle.std.specs.Map.Iter.{deref_pair}
use Rattle.std.specs.Prelude.{Contains, option_map}
use Rattle.std.proofs.lemmas.Option.{get_or_from_slice_get, slice_get-map, slice_get_within}
use Rattle.tup_path.specs.Name.{Names}
use Rattle.tup_path.specs.Order.{by_names-antisymmetric, by_names-total}
use Rattle.tup_stamp.specs.declared.Stamp.{Stamp}
use Rattle.tup_readers.specs.Seen.{AreSeen}
use Rattle.tup_readers.specs.Suspects.{Stamps}
use Rattle.tup_readers.proofs.Entries.{found_entry}
use Rattle.tup_readers.proofs.Keeping.{none_some}

-- what has a place in a list is in it
there : {X : Type 0} (xs : List X) (i : ℕ) (x : X) → slice_get xs i ≡ Some x → Contains xs x
there xs i x e = (i, slice_get_within xs i x e, get_or_from_slice_get xs i x x e)

-- all files in a list
pub all_seen : (seen : Stamps) (files : List (Bor Names × Bor Stamp)) → map deref_pair files ≡ finite.entries seen → AreSeen seen files
all_seen seen files all place file e =
    found_entry by_names-total by_names-antisymmetric seen file.0.now file.1.now
    (subst (λ (l : List (Names × Stamp)). Contains l (deref_pair file)) all
    (there (map deref_pair files) place (deref_pair file) (slice_get-map deref_pair files place ∙ ap (option_map deref_pair) e)))

-- none of them
pub none_seen : (seen : Stamps) (files : List (Bor Names × Bor Stamp)) → files ≡ [] → AreSeen seen files
none_seen seen files none place file e = absurd (none_some file (ap (λ (l : List (Bor Names × Bor Stamp)). slice_get l place) (sym none) ∙ e))
