use Rattle.std.proofs.Common.{sym, ap, ◌∙◌, rules}
use Rattle.std.specs.Bool.{passes}
use Rattle.std.specs.FinMap as finite
use Rattle.std.proofs.lemmas.Fn.{always_returns_same}
use Rattle.tup_path.specs.Name.{Names, Content}
use Rattle.tup_path.specs.Order.{by_names}
use Rattle.tup_readings.proofs.Search.{rising, found_at, not_found}
use Rattle.tup_readings.proofs.sources.Sources.content.Goals as goal

pub returns-in-Ok : goal.returns-in-Ok
returns-in-Ok c =
    let files = c.self.inside.files.now in
    let path = c.args.path.now in
    let up = c.self.invariant.0 in
    let tie = c.in-Ok.ensures.position (λ (file : Names × Content). by_names file.0 path) (always_returns_same _ _ _ (λ a r f called. (search rules, search rules))) c.index-self-place.result in
    sym (found_at files path c.in-Ok.place c.index-self-place.result up c.in-Ok.ensures.bound tie)
    ∙ sym (finite.get-from_sorted by_names files path (passes _ up)) ∙ ap (λ t. finite.get t path) c.self.view_is

pub returns-in-Err : goal.returns-in-Err
returns-in-Err c =
    let files = c.self.inside.files.now in
    let path = c.args.path.now in
    let up = c.self.invariant.0 in
    let parted = c.in-Err.ensures.position (λ (file : Names × Content). by_names file.0 path) (always_returns_same _ _ _ (λ a r f called. (search rules, search rules))) (rising path files up) in
    sym (not_found files path c.in-Err.field-0 parted)
    ∙ sym (finite.get-from_sorted by_names files path (passes _ up)) ∙ ap (λ t. finite.get t path) c.self.view_is
