-- The known contents by their stamps, as a map that finds them. Own.
use Rattle.std.specs.Prelude.{◌≡◌, Bool, true, List, Option, None, Some, IsTrue, bytes_eq}
use Rattle.std.proofs.Props.{props}
use Rattle.std.specs.declared.cmp.Ordering.{Ordering}
use Rattle.std.specs.declared.cmp.Ordering.TheVariants.{Equal}
use Rattle.std.specs.Ordering.{nat_cmp, Ordering-set}
use Rattle.std.specs.Cmp.Lexicographic.{slice_cmp}
use Rattle.std.specs.Coded.{Coded-set, coded_ℕ, coded_bool, coded_list, coded_option}
use Rattle.std.specs.BTreeMap.{is_at}
use Rattle.std.specs.Map.{lookup}
use Rattle.tup_path.specs.Name.{Content}
use Rattle.tup_stamp.specs.Stamp.{stamp}
use Rattle.tup_stamp.specs.declared.Stamp.{Stamp}
use Rattle.tup_site.specs.Known.{knows}

-- which of two stamps comes first
abbrev pub by_stamp : Stamp → Stamp → Ordering
by_stamp a b = slice_cmp nat_cmp a.0 b.0

-- what stands under a stamp
abbrev pub under : List (Stamp × Content) → Stamp → Option Content
under entries key = lookup (is_at (by_stamp key)) entries

-- whether a content may be added where this is found under its stamp
abbrev pub may_take : Option Content → Content → Bool
may_take None content = true
may_take (Some other) content = bytes_eq other content

-- under their stamps stand just these contents
pub record IsHeld (entries : List (Stamp × Content)) (contents : List Content) : Type 0 where
  pub held : (content : Content) → IsTrue (knows contents content) → under entries (stamp content) ≡ Some content
  pub only : (key : Stamp) (content : Content) → under entries key ≡ Some content → IsTrue (knows contents content)
  pub tied : (key : Stamp) (content : Content) → under entries key ≡ Some content → by_stamp key (stamp content) ≡ Equal

pub IsHeld-prop : (entries : List (Stamp × Content)) (contents : List Content) → IsProp (IsHeld entries contents)
IsHeld-prop entries contents =
    let content = Coded-set (coded_option (coded_list coded_ℕ)) in
    let bool = Coded-set coded_bool in
    hlevel (props, content, bool, Ordering-set)
