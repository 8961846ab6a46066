use Rattle.std.proofs.Common.{refl}
use Rattle.tup_site.proofs.Places.{none_below_from_first, none_below_at_end}
use Rattle.tup_site.proofs.place.is_none_below.Goals as goal

pub returns-in-Some : goal.returns-in-Some
returns-in-Some c = none_below_from_first c.args.files.now c.args.path.now _ _ (c.in-Some.file.now, c.in-Some.field-0-1.now) _ (c.range.ensures.in_range tt) c.in-Some.ensures.steps c.is_below.ensures

pub returns-in-None : goal.returns-in-None
returns-in-None c = let none = none_below_at_end c.args.files.now c.args.path.now _ (c.range.ensures.in_range tt) c.in-None.ensures.steps.0 in (λ _. none, λ _. refl)
