use Rattle.std.proofs.Common.{Option, sym, ap, subst}
use Rattle.std.specs.Option.{option_copied}
use Rattle.tup_path.specs.Name.{Names}
use Rattle.tup_graph.specs.Owners.{IsBehind}
use Rattle.tup_graph.proofs.owners.is_behind.Goals as goal

pub returns-in-Some : goal.returns-in-Some
returns-in-Some c = λ is. subst (λ (before : Option Names). IsBehind before c.args.path.now) (sym (ap option_copied c.in-Some.is)) (c.is_less.ensures.0 is)

pub returns-in-None : goal.returns-in-None
returns-in-None c = λ is. subst (λ (before : Option Names). IsBehind before c.args.path.now) (sym (ap option_copied c.in-None.is)) tt
