-- The log of an update for which there was no memory before it began is true: it says nothing.
use Rattle.std.proofs.Common.{Some, inl, refl}
use Rattle.tup_site.specs.World.{World}
use Rattle.tup_site.specs.declared.fault.SiteFailed.TheVariants.{Memory as NoMemory}
use Rattle.tup_site.specs.declared.site.Site.{Ghosts as Site}
use Rattle.tup_runner.specs.Next.{Next}
use Rattle.tup_runner.specs.declared.runner.Runner.{Ghosts as Runner}
use Rattle.tup_promise.specs.declared.stop.Stop.TheVariants.{Outside}
use Rattle.tup_promise.proofs.BadEnds.{none_bad}
use Rattle.tup_promise.proofs.GoodEnds.{none_good}
use Rattle.tup_top.specs.Truth.{IsTrueLog, IsTrueOver}
use Rattle.tup_top.proofs.Causes.{nothing_logged}

pub nothing_true : {S R : Type 0} (site : Site S) (runner : Runner R) (old : S) (new : World) → IsTrueLog site runner old new nothing_logged (Some (Outside NoMemory))
nothing_true site runner old new = record {
  bads = λ _. none_bad runner.next (site.world old) nothing_logged refl;
  first = λ _. tt;
  left = λ _. none_good runner.next (site.world old) new nothing_logged refl refl;
  did = λ tells some. inl (refl, refl);
}

-- so is that of a demo's
pub nothing_over : (next : Next) (old new : World) → IsTrueOver next old new nothing_logged (Some (Outside NoMemory))
nothing_over next old new = record {
  bads = none_bad next old nothing_logged refl;
  first = tt;
  left = none_good next old new nothing_logged refl refl;
  did = inl (refl, refl);
}
