-- What stops each phase: by the count of the site's faults, and that it is none of what stops another.
use Rattle.std.proofs.Common.{◌≡◌, ℕ, List, Option, Some, Result, Err, sym, subst, ◌∙◌}
use Rattle.tup_path.specs.Name.{Names}
use Rattle.tup_rule.specs.declared.question.Reading.{Reading}
use Rattle.tup_site.specs.Cause.{CountsFaults as SiteCounts, NeverTooLarge}
use Rattle.tup_site.specs.declared.fault.SiteFailed.{SiteFailed}
use Rattle.tup_site.specs.declared.fault.SiteFailed.TheVariants as failed
use Rattle.tup_link.specs.declared.fault.LinkFault.{LinkFault}
use Rattle.tup_link.specs.Faults.{HasCause}
use Rattle.tup_project.specs.Fault.{of_linking}
use Rattle.tup_project.specs.declared.fault.ProjectFault.{ProjectFault}
use Rattle.tup_project.specs.declared.fault.ProjectFault.TheVariants as project
use Rattle.tup_graph.specs.declared.edit.Edit.{Edit}
use Rattle.tup_graph.specs.declared.fault.GraphFault.{GraphFault}
use Rattle.tup_graph.specs.declared.fault.GraphFault.TheVariants as graph
use Rattle.tup_stored_graph.specs.Cause.{CountsFaults as GraphCounts}
use Rattle.tup_stored_graph.specs.Held.{Held}
use Rattle.tup_scan.specs.Cause.{CountsFaults as ScanCounts, IsAbove}
use Rattle.tup_scan.specs.declared.fault.ScanFault.{ScanFault}
use Rattle.tup_scan.specs.declared.fault.ScanFault.TheVariants as scan
use Rattle.tup_commit.specs.Noted.{Notes}
use Rattle.tup_refresh.specs.Cause.{CountsFaults as RefreshCounts, OnlyLarge as RefreshLarge}
use Rattle.tup_refresh.specs.declared.fault.RefreshFault.{RefreshFault}
use Rattle.tup_refresh.specs.declared.fault.RefreshFault.TheVariants as refresh
use Rattle.tup_stale.specs.Cause.{CountsFaults as StaleCounts, OnlyLarge as StaleLarge}
use Rattle.tup_stale.specs.declared.fault.StaleFault.{StaleFault}
use Rattle.tup_stale.specs.declared.fault.StaleFault.TheVariants as stale
use Rattle.tup_promise.specs.Cause.{HasCountedCause}
use Rattle.tup_promise.specs.Stopped.{stop_of_graph, stop_of_scan, stop_of_refresh, stop_of_project, stop_of_stale}
use Rattle.tup_promise.specs.declared.stop.Stop.{Stop}
use Rattle.tup_promise.specs.declared.stop.Stop.TheVariants as stop
use Rattle.tup_promise.proofs.Limits.{linking_stops}
use Rattle.tup_promise.specs.declared.log.Log.{Log}
use Rattle.tup_phases.specs.Prepared.{RunsNone, StopsBefore, StopsOpened, StopsReading, StopsSurvey}

-- ---- by the count
module _ {T : Type 0} (before now : ℕ) where
  pub site_counted : (result : Result T SiteFailed) (fault : SiteFailed) → result ≡ Err fault → SiteCounts before now result → NeverTooLarge result → HasCountedCause before now (Some (stop.Outside fault))
  site_counted result failed.Fault is counts never = counts.fault is
  site_counted result (failed.TooLarge n) is counts never = absurd (never n is)
  site_counted result failed.Memory is counts never = counts.steady (λ e. cc (is, e))

  pub scan_counted : (result : Result T ScanFault) (fault : ScanFault) → result ≡ Err fault → ScanCounts before now result → IsAbove result → HasCountedCause before now (Some (stop_of_scan fault))
  scan_counted result scan.Site is counts above = counts.fault is
  scan_counted result (scan.TooLarge n) is counts above = (counts.steady (λ e. cc (is, e)), above.bytes n is)
  scan_counted result (scan.TooManyFiles n) is counts above = (counts.steady (λ e. cc (is, e)), above.files n is)
  scan_counted result scan.Memory is counts above = counts.steady (λ e. cc (is, e))

  pub graph_counted : (result : Result T GraphFault) (fault : GraphFault) → result ≡ Err fault → GraphCounts before now result → HasCountedCause before now (Some (stop_of_graph fault))
  graph_counted result graph.NotThere is counts = counts.steady (λ e. cc (is, e))
  graph_counted result (graph.BadStore offset) is counts = counts.steady (λ e. cc (is, e))
  graph_counted result graph.Site is counts = counts.fault is
  graph_counted result graph.Full is counts = counts.steady (λ e. cc (is, e))
  graph_counted result graph.Memory is counts = counts.steady (λ e. cc (is, e))

  pub refresh_counted : (result : Result T RefreshFault) (fault : RefreshFault) → result ≡ Err fault → RefreshCounts before now result → RefreshLarge result → HasCountedCause before now (Some (stop_of_refresh fault))
  refresh_counted result (refresh.Parse fault) is counts large = (counts.steady (λ e. cc (is, e)), tt)
  refresh_counted result (refresh.Circular dirs) is counts large = (counts.steady (λ e. cc (is, e)), tt)
  refresh_counted result refresh.Site is counts large = counts.fault is
  refresh_counted result (refresh.TooLarge n) is counts large = (counts.steady (λ e. cc (is, e)), large n is)
  refresh_counted result refresh.Memory is counts large = counts.steady (λ e. cc (is, e))

  pub stale_counted : (result : Result T StaleFault) (fault : StaleFault) → result ≡ Err fault → StaleCounts before now result → StaleLarge result → HasCountedCause before now (Some (stop_of_stale fault))
  stale_counted result (stale.UserFile path written found) is counts large = counts.steady (λ e. cc (is, e))
  stale_counted result stale.Site is counts large = counts.fault is
  stale_counted result (stale.TooLarge n) is counts large = (counts.steady (λ e. cc (is, e)), large n is)
  stale_counted result stale.Full is counts large = counts.steady (λ e. cc (is, e))
  stale_counted result stale.Memory is counts large = counts.steady (λ e. cc (is, e))

-- a fault of linking, which calls nothing of the site
pub link_counted : (faults : ℕ) (readings : List (Names × Reading)) (fault : ProjectFault) → ((found : LinkFault) × HasCause readings found × (fault ≡ of_linking found))
    → HasCountedCause faults faults (Some (stop_of_project fault))
link_counted faults readings fault (found, cause, is) = subst (λ (f : ProjectFault). HasCountedCause faults faults (Some (stop_of_project f))) (sym is) (linking_stops faults readings found cause)

-- what is counted from a moment on is counted from an earlier one at which the count was the same
pub counted_before : (first before now : ℕ) (stopped : Option Stop) → before ≡ first → HasCountedCause before now stopped → HasCountedCause first now stopped
counted_before first before now stopped same cause = subst (λ (n : ℕ). HasCountedCause n now stopped) same cause

-- ---- by its kind
pub graph_before : (fault : GraphFault) → StopsSurvey (stop_of_graph fault)
graph_before graph.NotThere = tt
graph_before (graph.BadStore offset) = tt
graph_before graph.Site = tt
graph_before graph.Full = tt
graph_before graph.Memory = tt

pub scan_opened : (fault : ScanFault) → StopsReading (stop_of_scan fault)
scan_opened scan.Site = tt
scan_opened (scan.TooLarge n) = tt
scan_opened (scan.TooManyFiles n) = tt
scan_opened scan.Memory = tt

pub refresh_opened : (fault : RefreshFault) → StopsReading (stop_of_refresh fault)
refresh_opened (refresh.Parse fault) = tt
refresh_opened (refresh.Circular dirs) = tt
refresh_opened refresh.Site = tt
refresh_opened (refresh.TooLarge n) = tt
refresh_opened refresh.Memory = tt

pub link_opened : (fault : ProjectFault) → StopsReading (stop_of_project fault)
link_opened (project.Parse fault) = tt
link_opened (project.CircularDirs dirs) = tt
link_opened (project.NoSuchGroup group) = tt
link_opened (project.CircularCommands names) = tt
link_opened (project.TooMany what number) = tt
link_opened project.Memory = tt

pub stale_opened : (fault : StaleFault) → StopsOpened (stop_of_stale fault)
stale_opened (stale.UserFile path written found) = tt
stale_opened stale.Site = tt
stale_opened (stale.TooLarge n) = tt
stale_opened stale.Full = tt
stale_opened stale.Memory = tt

-- a commit is refused for nothing that only an opening is
pub note_opened : {S : Type 0} (Are : List Edit → Type 0) (old new : Held) (before now : S) (result : Result (Unit {0}) GraphFault) (fault : GraphFault) → result ≡ Err fault
    → Notes Are old new before now result → StopsReading (stop_of_graph fault)
note_opened Are old new before now result fault is notes = by fault (subst (Notes Are old new before now) is notes)
  where
    by : (why : GraphFault) → Notes Are old new before now (Err why) → StopsReading (stop_of_graph why)
    by graph.NotThere noted = absurd noted.leaves
    by (graph.BadStore offset) noted = absurd noted.leaves
    by graph.Site noted = tt
    by graph.Full noted = tt
    by graph.Memory noted = tt

-- what stops the reading of what an opened store is behind with
pub reading_opened : (by : Stop) → StopsReading by → StopsOpened by
reading_opened stop.NoStore is = absurd is
reading_opened (stop.BadStore offset) is = absurd is
reading_opened (stop.Sources fault) is = tt
reading_opened (stop.UserFile path written found) is = absurd is
reading_opened (stop.Bad name verdict) is = absurd is
reading_opened stop.Run is = absurd is
reading_opened stop.Full is = tt
reading_opened (stop.Outside failed) is = tt

pub reading_surveys : (by : Stop) → StopsReading by → StopsSurvey by
reading_surveys stop.NoStore is = absurd is
reading_surveys (stop.BadStore offset) is = absurd is
reading_surveys (stop.Sources fault) is = tt
reading_surveys (stop.UserFile path written found) is = absurd is
reading_surveys (stop.Bad name verdict) is = absurd is
reading_surveys stop.Run is = absurd is
reading_surveys stop.Full is = tt
reading_surveys (stop.Outside failed) is = tt

-- that stops an update before any rule is run
pub survey_before : (by : Stop) → StopsSurvey by → StopsBefore by
survey_before stop.NoStore is = tt
survey_before (stop.BadStore offset) is = tt
survey_before (stop.Sources fault) is = tt
survey_before (stop.UserFile path written found) is = absurd is
survey_before (stop.Bad name verdict) is = absurd is
survey_before stop.Run is = absurd is
survey_before stop.Full is = tt
survey_before (stop.Outside failed) is = tt

-- what stops an opened update stops it before any rule is run
pub opened_before : (by : Stop) → StopsOpened by → StopsBefore by
opened_before stop.NoStore is = absurd is
opened_before (stop.BadStore offset) is = absurd is
opened_before (stop.Sources fault) is = tt
opened_before (stop.UserFile path written found) is = tt
opened_before (stop.Bad name verdict) is = absurd is
opened_before stop.Run is = absurd is
opened_before stop.Full is = tt
opened_before (stop.Outside failed) is = tt

-- two parts of an update that run no rule
pub none_both : (old mid new : Log) → RunsNone old mid → RunsNone mid new → RunsNone old new
none_both old mid new one two = record { ran = two.ran ∙ one.ran; ended = two.ended ∙ one.ended; steps = two.steps ∙ one.steps }
