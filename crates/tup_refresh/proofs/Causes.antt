-- What a refusal of the site, or of reading the folders, comes to.
use Rattle.std.proofs.Common.{◌≡◌, Result, Err, ap, ◌∙◌}
use Rattle.tup_path.specs.Name.{Names}
use Rattle.tup_path.specs.Tree.{Tree}
use Rattle.tup_site.specs.Cause.{NamesLength as SiteNames}
use Rattle.tup_site.specs.declared.fault.SiteFailed.{SiteFailed}
use Rattle.tup_site.specs.declared.fault.SiteFailed.TheVariants as site
use Rattle.tup_vars.specs.Table.{Entries}
use Rattle.tup_readings.specs.Readings.{AreRead}
use Rattle.tup_readings.specs.declared.fault.FoldersFault.{FoldersFault}
use Rattle.tup_readings.specs.declared.fault.FoldersFault.TheVariants as folders
use Rattle.tup_refresh.specs.declared.fault.RefreshFault.{RefreshFault}
use Rattle.tup_refresh.specs.Cause.{NamesLength, IsFaultOf, of_folders, of_site}

-- a length that the site named is that of a file
pub named_on : {T U : Type 0} (tree : Tree) (path : Names) (failed : SiteFailed) (called : Result T SiteFailed) (told : RefreshFault) (result : Result U RefreshFault)
    → called ≡ Err failed → told ≡ of_site failed → result ≡ Err told → SiteNames tree path called → NamesLength tree result
named_on tree path site.Fault called told result was is same names = λ bytes e. absurd (cc (is, same, e))
named_on tree path (site.TooLarge m) called told result was is same names = λ bytes e. (path, names bytes (was ∙ ap (λ k. Err (site.TooLarge k)) (cc (is, same, e))))
named_on tree path site.Memory called told result was is same names = λ bytes e. absurd (cc (is, same, e))

-- a fault of the folders is told as it is
pub told_on : (sources : Tree) (settings : Entries) (fault : FoldersFault) → AreRead sources settings (Err fault) → IsFaultOf sources settings (of_folders fault)
told_on sources settings (folders.Parse fault) are = are
told_on sources settings (folders.Circular dirs) are = are
told_on sources settings folders.Memory are = tt

-- and of the site nothing is said
pub none_told : (sources : Tree) (settings : Entries) (failed : SiteFailed) → IsFaultOf sources settings (of_site failed)
none_told sources settings site.Fault = tt
none_told sources settings (site.TooLarge bytes) = tt
none_told sources settings site.Memory = tt
