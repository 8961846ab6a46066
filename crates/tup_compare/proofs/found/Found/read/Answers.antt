use Rattle.std.proofs.Common.{◌≡◌, true, Err, sym, ◌∙◌, ap, subst}
use Rattle.std.specs.BTreeSet.{contains}
use Rattle.std.specs.FinMap as finite
use Rattle.tup_path.specs.Name.{Names}
use Rattle.tup_path.specs.Order.{by_names}
use Rattle.tup_site.specs.Cause.{IsTooLarge}
use Rattle.tup_site.specs.World.{World}
use Rattle.tup_site.specs.declared.fault.SiteFailed.{SiteFailed}
use Rattle.tup_compare.specs.declared.unread.Unread.TheVariants.{Outside}
use Rattle.tup_rule.specs.Rule.{among}
use Rattle.tup_compare.specs.Sources.{files_beside}
use Rattle.tup_compare.proofs.Beside.{left_is}
use Rattle.tup_compare.specs.Found.{IsUnread}
use Rattle.tup_promise.proofs.Handed.{err_if}
use Rattle.tup_compare.proofs.Reading.{large_unread, sources_are, too_many_unread}
use Rattle.tup_site.specs.Crash.{NoStep}
use Rattle.tup_compare.proofs.Quiet.{then_quiet}
use Rattle.tup_compare.proofs.found.Found.read.Goals as goal

pub returns-clause-found : goal.returns-clause-found
returns-clause-found g c = λ tells.
    let old = g.S.Site.world c.args.site.now in
    let owned = c.args.owned in
    let beside = files_beside owned old.tree in
    let inside : (path : Names) → contains by_names c.in_ok-apart.apart path ≡ among path owned = λ path. c.in_ok-apart.ensures path ∙ ap (among path) c.as_slice.ensures in
    let files = c.as_slice-2.ensures ∙ c.in_ok-files.ensures.paths tells in
    let keys : finite.keys beside ≡ c.in_ok-beside.beside =
    sources_are owned _ c.in_ok-beside.beside (λ path. contains by_names c.in_ok-apart.apart path) old.tree inside files c.in_ok-beside.ensures in
    let content = c.in_ok-sources.ensures.files tells beside (keys ∙ sym c.as_slice-3.ensures)
    (λ path there. (left_is owned old.tree path there).1 ∙ ap (λ (w : World). finite.get w.tree path) (sym (c.in_ok-files.ensures.same tells))) in
    record {
      owned = c.requires tells;
      few = rw (sym files) (rw c.as_slice-2.ensures (c.in_ok-few.ensures.few tells));
      sources = content;
    }

pub returns-in_err-few-clause-cause : goal.returns-in_err-few-clause-cause
returns-in_err-few-clause-cause g c = λ tells.
    let old = g.S.Site.world c.args.site.now in
    let files = c.in_ok-files.ensures.paths tells in
    err_if c.from_residual-in_err-few.result c.in_err-few.field-0.0 (IsUnread old) c.from_residual-in_err-few.ensures.1
    (too_many_unread old c.args.owned c.in_ok-files.files c.in_err-few.field-0.0 (c.requires tells) files c.in_err-few.ensures.many)

pub returns-in_err-sources-clause-crash : goal.returns-in_err-sources-clause-crash
returns-in_err-sources-clause-crash g c = λ tells. then_quiet g.S.Site.moment g.S.Site.left_since c.args.site.now c.list.new.self c.contents.new.site NoStep (c.list.ensures.crash tells) (c.contents.ensures.crash tells)

pub returns-clause-crash : goal.returns-clause-crash
returns-clause-crash g c = λ tells. then_quiet g.S.Site.moment g.S.Site.left_since c.args.site.now c.list.new.self c.contents.new.site NoStep (c.list.ensures.crash tells) (c.contents.ensures.crash tells)

pub returns-in_err-sources-clause-cause : goal.returns-in_err-sources-clause-cause
returns-in_err-sources-clause-cause g c = λ tells.
    let old = g.S.Site.world c.args.site.now in
    let owned = c.args.owned in
    let inside : (path : Names) → contains by_names c.in_ok-apart.apart path ≡ among path owned = λ path. c.in_ok-apart.ensures path ∙ ap (among path) c.as_slice.ensures in
    let files = c.as_slice-2.ensures ∙ c.in_ok-files.ensures.paths tells in
    let keys : finite.keys (files_beside owned old.tree) ≡ c.in_ok-beside.beside =
    sources_are owned _ c.in_ok-beside.beside (λ path. contains by_names c.in_ok-apart.apart path) old.tree inside files c.in_ok-beside.ensures in
    let failed = c.in_err-sources.field-0.0 in
    err_if c.from_residual-in_err-sources.result (Outside failed) (IsUnread old) c.from_residual-in_err-sources.ensures.1
    (large_unread old owned c.as_slice-3.result.now failed (c.requires tells) (keys ∙ sym c.as_slice-3.ensures)
    (λ n e. subst (λ (w : World). (path : Names) × (among path c.as_slice-3.result.now ≡ true) × IsTooLarge w.tree path n) (c.contents.ensures.same tells ∙ c.in_ok-files.ensures.same tells) (c.contents.ensures.large tells n (c.in_err-sources.was ∙ ap (λ (f : SiteFailed). Err f) e))))
