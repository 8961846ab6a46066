-- The laws of a site, shown of the one in memory.
use Rattle.std.specs.Prelude.{◌≡◌, ℕ, ◌≤◌, List, IsTrue, length, refl}
use Rattle.std.proofs.Common.{inl, inr, sym, ap, subst, ◌∙◌, arith}
use Rattle.std.proofs.lemmas.List.{take_all}
use Rattle.std.specs.FinMap as finite
use Rattle.tup_path.specs.Name.{Content}
use Rattle.tup_path.specs.Tree.{Tree, IsTree}
use Rattle.tup_site.specs.World.{World}
use Rattle.tup_site.specs.Limits.{AreLimits, greatest, least}
use Rattle.tup_site.specs.Known.{knows, IsKnown, KnowsTree, IsHere, Joins}
use Rattle.tup_site.specs.State.{State, IsImage}
use Rattle.tup_site.specs.History.{at_first, after_all, LeftSince}
use Rattle.tup_site.specs.Sound.{IsSound}
use Rattle.tup_site.specs.Memory.{world_in, first_of, changes_of, state_of, known_in, moment_of, left_since}
use Rattle.tup_site.specs.declared.change.Change.{Change}
use Rattle.tup_site.specs.declared.memory.MemSite.{MemSite}

joins_now : (s : State) → IsSound s → Joins s.known s.world.tree
joins_now s is a b ha hb e = is.known a b (known a ha) (known b hb) e
  where
    known : (c : Content) → IsHere s.known s.world.tree c → IsTrue (knows s.known c)
    known c (inl k) = k
    known c (inr file) = is.knows file.0 c file.1

-- the present is an image
pub present_image : (s : State) → IsSound s → IsImage s s.world
present_image s is = record {
  tree = is.tree;
  joins = joins_now s is;
  settled = λ path none. refl;
  no_shorter = is.no_shorter;
  no_longer = is.no_longer;
  synced = λ place d below none. refl;
}

-- an image of the last moment is one since each earlier moment, and the images since the last moment are its own
pub left_now : (first : State) (changes : List Change) (t : ℕ) (w : World) → t ≤ length changes → IsImage (after_all first changes) w → LeftSince first changes t w
left_now first changes t w le image = record {
  moment = length changes;
  since = le;
  past = omega arith;
  image = subst (λ (l : List Change). IsImage (after_all first l) w) (sym (take_all (length changes) changes (omega arith))) image;
}

pub image_now : (first : State) (changes : List Change) (w : World) → LeftSince first changes (length changes) w → IsImage (after_all first changes) w
image_now first changes w left = subst (λ (l : List Change). IsImage (after_all first l) w) (take_all left.moment changes left.since) left.image

-- its limits are limits that a site may have, and so are those of a real disk
pub least_law : AreLimits least
least_law = record { least_files = omega arith; most_files = omega arith; least_bytes = omega arith; most_bytes = omega arith }

pub greatest_law : AreLimits greatest
greatest_law = record { least_files = omega arith; most_files = omega arith; least_bytes = omega arith; most_bytes = omega arith }

-- what the site shows is what its list makes
pub world_now : (site : MemSite) → world_in site ≡ (state_of site).world
world_now site = λ i. record { tree = site.is_now.tree i; store = site.is_now.store i }

pub is_known_law : (site : MemSite) → IsKnown (known_in site)
is_known_law site = site.is_now.sound.known

pub knows_tree_law : (site : MemSite) → KnowsTree (known_in site) (world_in site).tree
knows_tree_law site path content found = site.is_now.sound.knows path content (sym (ap (λ (t : Tree). finite.get t path) site.is_now.tree) ∙ found)

pub present_law : (site : MemSite) → left_since site (moment_of site) (world_in site)
present_law site =
    left_now (at_first (first_of site)) (changes_of site) (moment_of site) (world_in site) (omega arith)
    (subst (IsImage (state_of site)) (sym (world_now site)) (present_image (state_of site) site.is_now.sound))

pub earlier_law : (site : MemSite) (t u : ℕ) (w : World) → t ≤ u → left_since site u w → left_since site t w
earlier_law site t u w le left = record { moment = left.moment; since = omega (arith, le, left.since); past = left.past; image = left.image }

pub leaves_tree_law : (site : MemSite) (t : ℕ) (w : World) → left_since site t w → IsTree w.tree
leaves_tree_law site t w left = left.image.tree

pub leaves_known_law : (site : MemSite) (w : World) → left_since site (moment_of site) w → Joins (known_in site) w.tree
leaves_known_law site w left = let image = image_now (at_first (first_of site)) (changes_of site) w left in image.joins
