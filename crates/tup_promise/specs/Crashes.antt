-- What an update leaves whenever a crash comes (own).
use Rattle.std.specs.Prelude.{◌≡◌, ◌⊎◌, ℕ, ◌≤◌, true, List}
use Rattle.tup_path.specs.Name.{Names}
use Rattle.tup_site.specs.World.{World}
use Rattle.tup_site.specs.declared.site.Site.{Ghosts as Site}
use Rattle.tup_rule.specs.Rule.{is_generated}
use Rattle.tup_rule.specs.declared.rule.Rule.{Rule}
use Rattle.tup_runner.specs.Next.{Next}
use Rattle.tup_graph.specs.Graph.{is_owned}
use Rattle.tup_graph.specs.Kept.{IsKeptSite}
use Rattle.tup_ledger.specs.Sources.{sources_of}
use Rattle.tup_law_site.specs.Over.{LeftNow}
use Rattle.tup_law_phases.specs.Language.{tupfiles}
use Rattle.tup_promise.specs.Kept.{AsksFor, OfGraph}

-- The moment of a site doesn't fall, and whatever a crash since the beginning of an update may leave has the sources of the
-- beginning. So has the site as it is, which a crash may leave too.
pub record SourcesStay {S : Type 0} (site : Site S) (old new : S) : Type 0 where
  pub later : site.moment old ≤ site.moment new
  pub each : (w : World) → site.left_since new (site.moment old) w
      → OfGraph (site.world old) (λ g. OfGraph w (λ h. sources_of h w.tree ≡ sources_of g (site.world old).tree))

-- a path is owned in a site, or in what a crash now may leave of it
abbrev pub IsOwnedIn : {S : Type 0} → Site S → S → Names → Type 0
IsOwnedIn site at path = (w : World) × LeftNow site at w × OfGraph w (λ g. is_owned g path ≡ true)

-- a path is an output of a rule that the sources of a world ask for
abbrev pub IsAskedOutput : World → Names → Type 0
IsAskedOutput w path = (rules : List Rule) × AsksFor w rules × (is_generated rules path ≡ true)

-- what a crash since a moment may leave owns no more than what was owned when an update began, and the outputs of the rules
-- that the sources asked for then
abbrev pub OwnsNoMore : {S : Type 0} → Site S → S → ℕ → S → Type 0
OwnsNoMore {S} site begun since at =
    (w : World) → site.left_since at since w → OfGraph w (λ g. (path : Names) → is_owned g path ≡ true → IsOwnedIn site begun path ⊎ IsAskedOutput (site.world begun) path)

-- what an update leaves, whenever since its beginning a crash came: it is kept and has the sources of the beginning; an owned path
-- that isn't unsure holds what it held then, or what is written of it; and no path comes to be owned but an output of a rule that
-- the sources ask for. The moment of the site doesn't fall, so the site as it is is among that.
pub record SourcesAndCrashes {S : Type 0} (site : Site S) (next : Next) (old new : S) : Type 0 where
  pub later : site.moment old ≤ site.moment new
  pub kept : IsKeptSite next tupfiles (site.known new) (site.world old) (site.left_since new (site.moment old))
  pub owned : OwnsNoMore site old (site.moment old) new
