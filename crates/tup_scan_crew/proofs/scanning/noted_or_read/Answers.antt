use Rattle.std.proofs.Common.{◌≤◌, ◌∙◌, Some, ap, length, refl, subst, sym}
use Rattle.std.proofs.lemmas.Option.{same_Some}
use Rattle.std.specs.Prelude.{option_map}
use Rattle.tup_path.specs.Name.{Content}
use Rattle.tup_stamp.specs.Stamp.{stamp}
use Rattle.tup_site.specs.Cause.{most_bytes}
use Rattle.tup_scan_crew.proofs.scanning.noted_or_read.Goals as goal

pub returns-clause-read : goal.returns-clause-read
returns-clause-read g c = λ tells.
    let has = c.in_ok-stamp.ensures.noted tells c.in-Some.stamp c.in-Some.is in
    (refl, ap (option_map stamp) has.found ∙ ap Some has.stamped)

pub returns-clause-small : goal.returns-clause-small
returns-clause-small g c = λ tells content found.
    let has = c.in_ok-stamp.ensures.noted tells c.in-Some.stamp c.in-Some.is in
    subst (λ (k : Content). length k ≤ most_bytes) (same_Some _ _ (sym has.found ∙ found)) has.small
