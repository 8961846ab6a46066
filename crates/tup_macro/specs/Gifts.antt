-- Paths that were given to bins and groups. From the manual: rules give their outputs to a bin or a group, others take its members.
-- Own: members stand in the order of paths, each once.
use Rattle.std.specs.Prelude.{◌≡◌, ◌++◌, ◌∷◌, [], ◌&&◌, ◌||◌, Bool, false, List, Option, is_some, bytes_eq}
use Rattle.std.specs.BTreeSet.{insert_key}
use Rattle.std.specs.Map.{lookup, set_value}
use Rattle.std.specs.Option.{option_map_or}
use Rattle.tup_path.specs.Name.{Names}
use Rattle.tup_path.specs.Order.{by_names, same_path}
use Rattle.tup_rule.specs.Rule.{among}
use Rattle.tup_rule.specs.declared.draft.GroupRef.{GroupRef}

-- keys, each with the paths that were given to it, in the order of first gifts
abbrev pub GiftsTo : Type 0 → Type 0
GiftsTo K = List (K × List Names)

-- whether two groups are the same: a group is known by its folder and its name
abbrev pub same_group : GroupRef → GroupRef → Bool
same_group one other = same_path one.dir other.dir && bytes_eq one.name other.name

module _ {K : Type 0} (same : K → K → Bool) where
  -- the paths that were given to a key, or none where nothing was
  abbrev pub members_of : GiftsTo K → K → Option (List Names)
  members_of gifts key = lookup (same key) gifts

  -- whether a path was given to a key
  abbrev pub was_given : GiftsTo K → K → Names → Bool
  was_given gifts key path = option_map_or (among path) (members_of gifts key) false

  -- the gifts with one more: the path comes to its place among the members of the key, and a new key comes last
  abbrev pub with_gift : GiftsTo K → K → Names → GiftsTo K
  with_gift gifts key path =
      option_map_or (λ members. set_value (same key) gifts (insert_key by_names members path)) (members_of gifts key) (gifts ++ (key, path ∷ []) ∷ [])

  -- what was given before and what is given now differ by one path alone, and by the key of this path
  pub record IsOneMore (before now : GiftsTo K) (key : K) (path : Names) : Type 0 where
    pub paths : (other : K) (one : Names) → was_given now other one ≡ ((same key other && same_path one path) || was_given before other one)
    pub keys : (other : K) → is_some (members_of now other) ≡ (same key other || is_some (members_of before other))
