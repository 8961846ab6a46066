-- What the opening of the store comes to, and what is written of it.
use Rattle.std.specs.Prelude.{◌≡◌, ◌⊎◌, ⊤, ℕ, List, [], Option, Some}
use Rattle.tup_site.specs.World.{World}
use Rattle.tup_site.specs.declared.fault.SiteFailed.TheVariants.{Fault, Memory}
use Rattle.tup_table.specs.Images.{IsEndWritten}
use Rattle.tup_promise.specs.declared.stop.Stop.{Stop}
use Rattle.tup_promise.specs.declared.stop.Stop.TheVariants.{NoStore, BadStore, Outside}
use Rattle.tup_promise.specs.Unopened.{IsDamaged, IsJustOpened}

-- nothing but these stops an opening
abbrev pub StopsOpening : Stop → Type 0
StopsOpening NoStore = ⊤
StopsOpening (BadStore offset) = ⊤
StopsOpening (Outside Fault) = ⊤
StopsOpening (Outside Memory) = ⊤
StopsOpening stop = ⊥

-- no want or damage of the store stops it
abbrev pub NoDamage : Stop → Type 0
NoDamage NoStore = ⊥
NoDamage (BadStore offset) = ⊥
NoDamage stop = ⊤

-- why the store couldn't be opened: there is none, or it is damaged, where it is told so
abbrev pub IsUnopened : World → Stop → Type 0
IsUnopened old NoStore = old.store ≡ []
IsUnopened old (BadStore offset) = IsDamaged old.store offset
IsUnopened old stop = ⊤

-- a store that is just opened, and no more; where the outside stops that, it is what a crash of an opening may leave
abbrev pub JustOpens : List ℕ → List ℕ → Option Stop → Type 0
JustOpens before after (Some (Outside failed)) = (after ≡ before) ⊎ IsEndWritten before after
JustOpens before after stopped = IsJustOpened before after
