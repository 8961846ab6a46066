-- What is found of a site, and why it couldn't be read.
use Rattle.std.specs.Prelude.{◌≡◌, ◌≢◌, ◌<◌, ◌≤◌, ⊤, ℕ, true, length, List, None, Some, IsSome, Option, Result, Err}
use Rattle.std.specs.FinMap as finite
use Rattle.tup_path.specs.Count.{Rose}
use Rattle.tup_path.specs.Name.{Names, Content}
use Rattle.tup_path.specs.Tree.{Tree}
use Rattle.tup_site.specs.World.{World}
use Rattle.tup_site.specs.Cause.{IsTooLarge, most_bytes}
use Rattle.tup_site.specs.declared.fault.SiteFailed.{SiteFailed}
use Rattle.tup_site.specs.declared.fault.SiteFailed.TheVariants.{Fault, TooLarge, Memory}
use Rattle.tup_rule.specs.Rule.{among}
use Rattle.tup_promise.specs.Blamed.{HasFileOf}
use Rattle.tup_promise.specs.Cause.{PassesLimit}
use Rattle.tup_promise.specs.declared.fault.SourcesFault.TheVariants.{TooManyFiles}
use Rattle.tup_compare.specs.Holding.{Holding, Lists, Shows, holding}
use Rattle.tup_compare.specs.Sources.{IsRefused, Refuses, sources}
use Rattle.tup_compare.specs.declared.found.Found.{Found}
use Rattle.tup_compare.specs.declared.unread.Unread.{Unread}
use Rattle.tup_compare.specs.declared.unread.Unread.TheVariants.{Sources as NoRules, Outside}

-- what is found in a world: what the store lists, and the sources, which with these are no more files than may be
pub record IsFound (w : World) (found : Found) : Type 0 where
  pub owned : Lists w.store found.owned
  pub few : length (finite.keys w.tree) ≤ 65536
  pub sources : found.sources ≡ finite.entries (sources (holding w found.owned))

-- there are so many files, too many
abbrev pub IsTooMany : ℕ → Unread → Type 0
IsTooMany count unread = (unread ≡ NoRules (TooManyFiles count)) × (65536 < count)

-- the sources ask for no rules, or there was no memory
abbrev pub IsRefusal : Holding → Unread → Type 0
IsRefusal held (NoRules fault) = Refuses held fault
IsRefusal held (Outside failed) = failed ≡ Memory

-- some source has so many bytes
abbrev pub HasSourceOf : ℕ → World → Type 0
HasSourceOf n w = (held : Holding) × Shows w held × HasFileOf n (sources held)

-- why a project couldn't be read: the sources ask for no rules, or one of them is too large
abbrev pub IsUnread : World → Unread → Type 0
IsUnread w (NoRules fault) = IsRefused w fault
IsUnread w (Outside (TooLarge n)) = HasSourceOf n w
IsUnread w (Outside Fault) = ⊤
IsUnread w (Outside Memory) = ⊤

-- a limit is told only where it is passed
abbrev pub KnowsLimits : Unread → Type 0
KnowsLimits (NoRules fault) = PassesLimit fault
KnowsLimits (Outside failed) = ⊤

-- why there are no rules, whatever is told of the sources: a limit only where it is passed, and no failure of the site
abbrev pub IsOfRules : Unread → Type 0
IsOfRules (NoRules fault) = PassesLimit fault
IsOfRules (Outside failed) = failed ≡ Memory

-- files with the one more that was found at a path, if there is one
abbrev pub AddsFile : Names → Option Content → Tree → Tree → Type 0
AddsFile path None old new = new ≡ old
AddsFile path (Some content) old new = new ≡ finite.insert old path content

-- a tree's files are what they are in another
abbrev pub AgreesOnItsFiles : Tree → Tree → Type 0
AgreesOnItsFiles part whole = (path : Names) → IsSome (finite.get part path) → finite.get part path ≡ finite.get whole path

-- what is too large is the file at one of these paths, of the length that the answer names
abbrev pub NamesOneOf : {T : Type 0} → List Names → Tree → Result T SiteFailed → Type 0
NamesOneOf paths tree result = (n : ℕ) → result ≡ Err (TooLarge n) → (path : Names) × (among path paths ≡ true) × IsTooLarge tree path n

-- what is too large is a file of this tree, of the length that the answer names
abbrev pub NamesALargeFile : {T : Type 0} → Tree → Result T SiteFailed → Type 0
NamesALargeFile tree result = (n : ℕ) → result ≡ Err (TooLarge n) → HasFileOf n tree

-- where a refusal of the site is handed on so: the count rises with each fault and at no other answer, and a file is
-- too large only above the limit
pub record HandsOn {T E : Type 0} (handed : SiteFailed → E) (before now : ℕ) (result : Result T E) : Type 0 where
  pub fault : result ≡ Err (handed Fault) → Rose before now
  pub steady : result ≢ Err (handed Fault) → now ≡ before
  pub too_large : (n : ℕ) → result ≡ Err (handed (TooLarge n)) → most_bytes < n
