-- What an update read and removed before the first rule was run.
use Rattle.std.proofs.Common.{◌≡◌, inr, Option, None, Some, sym, ap, subst}
use Rattle.std.specs.Option.{IfSome}
use Rattle.tup_site.specs.World.{World}
use Rattle.tup_promise.specs.Did.{DidBoth, ReadAndRemoved, ReadsWhatIsDue, RemovesWhatIsUnmade}
use Rattle.tup_promise.specs.declared.log.Log.{Log}
use Rattle.tup_promise.specs.declared.stop.Stop.{Stop}
use Rattle.tup_promise.specs.declared.stop.Stop.TheVariants.{NoStore, BadStore, Sources, UserFile, Bad, Run, Full, Outside}
use Rattle.tup_update.specs.Done.{OnlyRuns}
use Rattle.tup_update.specs.Run.{StopsRunning}

-- a log that stays tells of no more
pub same_done : (old new : Log) → new ≡ old → OnlyRuns old new
same_done old new same = record { read = ap (λ (log : Log). log.read) same; removed = ap (λ (log : Log). log.removed) same }

-- an update that came to its rules read and removed what it had to, whatever it came to then
module _ (w : World) (old new : Log) (did : DidBoth w old) (only : OnlyRuns old new) where
  did_still : DidBoth w new
  did_still = (subst (ReadsWhatIsDue w) (sym only.read) did.0, subst (RemovesWhatIsUnmade w) (sym only.removed) did.1)

  pub running_did : (stopped : Option Stop) → IfSome stopped StopsRunning → ReadAndRemoved w new stopped
  running_did None stops = did_still
  running_did (Some NoStore) stops = absurd stops
  running_did (Some (BadStore offset)) stops = absurd stops
  running_did (Some (Sources fault)) stops = absurd stops
  running_did (Some (UserFile path written found)) stops = absurd stops
  running_did (Some (Bad name verdict)) stops = did_still
  running_did (Some Run) stops = did_still
  running_did (Some Full) stops = inr (inr did_still)
  running_did (Some (Outside failed)) stops = inr (inr did_still)
