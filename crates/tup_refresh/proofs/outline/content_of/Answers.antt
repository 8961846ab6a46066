use Rattle.std.proofs.Common.{Option, [], ap, sym, ◌∙◌}
use Rattle.std.specs.Prelude.{unwrap_or}
use Rattle.tup_path.specs.Name.{Content}
use Rattle.tup_refresh.proofs.outline.content_of.Goals as goal

pub returns-in_ok-clone-in-Some : goal.returns-in_ok-clone-in-Some
returns-in_ok-clone-in-Some c = c.in_ok-clone-in-Some.ensures.cases ∙ sym (ap (λ (o : Option Content). unwrap_or o []) c.in-Some.is)

pub returns-in-None : goal.returns-in-None
returns-in-None c = c.new-in-None.ensures ∙ c.new.ensures.items ∙ sym (ap (λ (o : Option Content). unwrap_or o []) c.in-None.is)
