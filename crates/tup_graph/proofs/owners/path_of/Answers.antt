use Rattle.std.proofs.Common.{sym, ap}
use Rattle.std.specs.Map.Iter.{deref_pair}
use Rattle.std.specs.Option.{option_map}
use Rattle.tup_graph.specs.Owners.{key_of}
use Rattle.tup_graph.proofs.owners.path_of.Goals as goal

pub returns-in-Some : goal.returns-in-Some
returns-in-Some c = sym (ap (λ entry. key_of (option_map deref_pair entry)) c.in-Some.is)

pub returns-in-None : goal.returns-in-None
returns-in-None c = sym (ap (λ entry. key_of (option_map deref_pair entry)) c.in-None.is)
