-- When an update is done, and when what it would do is listed: if nothing stands in the way (own).
use Rattle.std.specs.Prelude.{◌≡◌, ◌≤◌, ◌<◌, ⊤, ℕ, true, List, length}
use Rattle.std.specs.FinMap as finite
use Rattle.tup_site.specs.Cause.{most_bytes}
use Rattle.tup_site.specs.World.{World}
use Rattle.tup_site.specs.declared.site.Site.{Ghosts as Site}
use Rattle.tup_rule.specs.declared.rule.Rule.{Rule}
use Rattle.tup_runner.specs.Next.{Next}
use Rattle.tup_clean.specs.Clean.{clean, succeeds}
use Rattle.tup_ledger.specs.Sources.{sources_of}
use Rattle.tup_promise.specs.Blamed.{HasFileOf}
use Rattle.tup_promise.specs.Kept.{AsksFor, OfGraph}
use Rattle.tup_promise.specs.Users.{HasUsersFile}
use Rattle.tup_phases.specs.Room.{LacksRoom}
use Rattle.tup_top.specs.Order.{Wanted, IsTodo, IsUpdate}
use Rattle.tup_top.specs.Promise.{Counts, IsDoneOrMemory, NothingFailed}
use Rattle.tup_top.specs.declared.status.Status.{Status}
use Rattle.tup_top.specs.declared.status.Status.TheVariants.{Done, Limit, Memory}
use Rattle.tup_top.specs.declared.status.What.TheVariants.{StoreSize}

-- Nothing stands in the way of reading the sources of a world.
pub record CanBeRead (old : World) : Type 0 where
  -- the sources ask for rules: the Tupfiles have no fault, and name no more than they may
  pub asks : (rules : List Rule) × AsksFor old rules
  -- there are no more files than there may be, and none is too large
  pub few : length (finite.keys old.tree) ≤ 65536
  pub small : (bytes : ℕ) → most_bytes < bytes → HasFileOf bytes old.tree → ⊥

-- Nothing stands in the way of finding out what an update would do, which leads from one world to another.
pub record CanBeListed (old new : World) : Type 0 where
  pub read : CanBeRead old
  -- the store as it is left has room for what is to be committed next
  pub room : LacksRoom new → ⊥

-- Nothing stands in the way of an update by runners whose commands mean this, which went on from one site and left another.
pub record CanBeDone {S : Type 0} (site : Site S) (next : Next) (old new : S) : Type 0 where
  pub read : CanBeRead (site.world old)
  -- each rule that the sources ask for is good in the clean build
  pub builds : (rules : List Rule) → AsksFor (site.world old) rules → OfGraph (site.world old) (λ g. succeeds (clean next rules (sources_of g (site.world old).tree)) ≡ true)
  -- at no owned path that no rule makes is another file than the one that was written there
  pub unhindered : HasUsersFile (site.world old) → ⊥
  -- no file is too large that is left
  pub small : (bytes : ℕ) → most_bytes < bytes → HasFileOf bytes (site.world new).tree → ⊥

-- An answer that says that all was done, that there was no memory, or that there was no room in the store. The cause of that is told
-- beside it.
abbrev pub IsDoneOrNoRoom : Status → Type 0
IsDoneOrNoRoom (Done read ran removed) = ⊤
IsDoneOrNoRoom (Limit what number) = what ≡ StoreSize
IsDoneOrNoRoom Memory = ⊤
IsDoneOrNoRoom other = ⊥

-- An update is done that nothing stands in the way of, where nothing failed, no reporter either, unless memory or room in the store was
-- wanting.
abbrev pub Succeeds : {S : Type 0} → Wanted → Site S → Next → S → S → Counts → Counts → Type 0 → Status → Type 0
Succeeds wanted site next old new before now all_told status = IsUpdate wanted → CanBeDone site next old new → NothingFailed before now → all_told → IsDoneOrNoRoom status

-- So is what it would do found out.
abbrev pub Lists : Wanted → World → World → Counts → Counts → Type 0 → Status → Type 0
Lists wanted old new before now all_told status = IsTodo wanted → CanBeListed old new → NothingFailed before now → all_told → IsDoneOrMemory status
