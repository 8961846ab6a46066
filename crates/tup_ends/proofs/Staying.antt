-- The sources of a site stay while an update goes on.
use Rattle.std.proofs.Common.{◌≡◌, ◌⊎◌, inl, inr, ℕ, ◌≤◌, List, IsTrue, arith}
use Rattle.tup_path.specs.Name.{Content}
use Rattle.tup_site.specs.World.{World}
use Rattle.tup_site.specs.declared.site.Site.{Ghosts as Site}
use Rattle.tup_runner.specs.Next.{Next}
use Rattle.tup_runner.specs.declared.runner.Runner.{Ghosts as Runner}
use Rattle.tup_graph.specs.Kept.{IsKeptSite}
use Rattle.tup_ledger.specs.Sources.{sources_of}
use Rattle.tup_board.specs.Board.{BoardState}
use Rattle.tup_board.specs.Sound.{Before, IsImage, IsSound}
use Rattle.tup_law_site.proofs.Stores.{in_bytes}
use Rattle.tup_law_board.proofs.Lasting.{image_stays}
use Rattle.tup_law_phases.specs.Language.{tupfiles}
use Rattle.tup_promise.specs.Crashes.{SourcesStay}
use Rattle.tup_promise.specs.Kept.{OfGraph}
use Rattle.tup_promise.specs.Prepared.{IsPrepared}
use Rattle.tup_ends.proofs.Done.{same_sources}

-- each world that may be left of a kept site has the sources of the one that was there first
abbrev HasSourcesOf : World → World → Type 0
HasSourcesOf first w = OfGraph first (λ g. OfGraph w (λ h. sources_of h w.tree ≡ sources_of g first.tree))

left_of_kept : (next : Next) (known : List Content) (first : World) (Left : World → Type 0) → IsKeptSite next tupfiles known first Left → (w : World) → Left w → HasSourcesOf first w
left_of_kept next known first Left kept w left =
    let there = kept.later w left in
    (kept.now.graph, kept.now.reads, (there.graph, there.reads, same_sources w first there.graph kept.now.graph (λ path. kept.sources w there.graph left there.reads path)))

pub sources_kept : {S : Type 0} (site : Site S) (next : Next) (known : List Content) (old new : S) → site.moment old ≤ site.moment new
    → IsKeptSite next tupfiles known (site.world old) (site.left_since new (site.moment old)) → SourcesStay site old new
sources_kept site next known old new later kept = record { later = later; each = left_of_kept next known (site.world old) (site.left_since new (site.moment old)) kept }

module _ {S R : Type 0} (site : Site S) (runner : Runner R) (next : Next) (b : BoardState S) (old : S) (tells : IsTrue site.tells) (sound : IsSound site runner b)
    (prepared : IsPrepared site next (site.world old) (site.moment old) b.opening.graph b.opening.site)
    (earlier : (t u : ℕ) (w : World) → t ≤ u → site.left_since b.opening.site u w → site.left_since b.opening.site t w) (present : Before site b (site.world b.opening.site)) where
  image_has : (w : World) → IsImage site b w → HasSourcesOf (site.world old) w
  image_has w (v, before, g, image) =
      let stored = in_bytes g w.store image.store in
      let stays = image_stays site runner b sound tells next tupfiles (site.known b.opening.site) (site.world old) (site.moment old) prepared.over earlier present v w before g image g stored in
      (prepared.over.kept.now.graph, prepared.over.kept.now.reads, (g, stored, same_sources w (site.world old) g prepared.over.kept.now.graph stays.sources))

  since_has : (w : World) → site.left_since b.site (site.moment old) w → HasSourcesOf (site.world old) w
  since_has w left = by (sound.since tells (site.moment old) w prepared.over.began left)
    where
      by : site.left_since b.opening.site (site.moment old) w ⊎ IsImage site b w → HasSourcesOf (site.world old) w
      by (inl before) = left_of_kept next (site.known b.opening.site) (site.world old) (site.left_since b.opening.site (site.moment old)) prepared.over.kept w before
      by (inr image) = image_has w image

  pub board_stays : SourcesStay site old b.site
  board_stays = record { later = (let began = prepared.over.began in let later = sound.later tells in omega (arith, began, later)); each = since_has }
