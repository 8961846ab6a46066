-- A log of no ends tells of no bad rule.
use Rattle.std.proofs.Common.{◌≡◌, List, [], sym, subst}
use Rattle.std.specs.Prelude.{All}
use Rattle.std.proofs.lemmas.List.Elements.{All-nil}
use Rattle.tup_site.specs.World.{World}
use Rattle.tup_runner.specs.Next.{Next}
use Rattle.tup_promise.specs.BadEnds.{BadEnds, IsTrueEnd}
use Rattle.tup_promise.specs.declared.log.EndedRule.{EndedRule}
use Rattle.tup_promise.specs.declared.log.Log.{Log}

pub none_bad : (next : Next) (w : World) (log : Log) → log.ended ≡ [] → BadEnds next w log
none_bad next w log none = subst (λ (ended : List EndedRule). All (IsTrueEnd next w log.ran) ended) (sym none) (All-nil (IsTrueEnd next w log.ran))
