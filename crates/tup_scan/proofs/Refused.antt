-- What a scan's refusal tells of the site's refusal that it hands on.
use Rattle.std.proofs.Common.{◌≡◌, Result, Err, ◌∙◌, ap}
use Rattle.tup_path.specs.Name.{Names}
use Rattle.tup_path.specs.Tree.{Tree}
use Rattle.tup_site.specs.Cause.{NamesLength}
use Rattle.tup_site.specs.declared.fault.SiteFailed.{SiteFailed}
use Rattle.tup_site.specs.declared.fault.SiteFailed.TheVariants.{Fault, TooLarge as SiteTooLarge, Memory as SiteMemory}
use Rattle.tup_scan.specs.Cause.{IsOf, fault_of}
use Rattle.tup_scan.specs.declared.fault.ScanFault.{ScanFault}

-- a length that the site named is that of a file
pub named_on : {T U : Type 0} (tree : Tree) (path : Names) (failed : SiteFailed) (called : Result T SiteFailed) (told : ScanFault) (result : Result U ScanFault)
    → called ≡ Err failed → told ≡ fault_of failed → result ≡ Err told → NamesLength tree path called → IsOf tree result
named_on tree path Fault called told result was is same names = record {
  files = λ n e. absurd (cc (is, same, e));
  bytes = λ n e. absurd (cc (is, same, e));
}
named_on tree path (SiteTooLarge m) called told result was is same names = record {
  files = λ n e. absurd (cc (is, same, e));
  bytes = λ n e. (path, names n (was ∙ ap (λ k. Err (SiteTooLarge k)) (cc (is, same, e))));
}
named_on tree path SiteMemory called told result was is same names = record {
  files = λ n e. absurd (cc (is, same, e));
  bytes = λ n e. absurd (cc (is, same, e));
}
