-- A log of no ends, and of no rule that was begun, tells of no good rule.
use Rattle.std.proofs.Common.{◌≡◌, List, [], sym, subst}
use Rattle.std.specs.Prelude.{All}
use Rattle.std.proofs.lemmas.List.Elements.{All-nil}
use Rattle.tup_site.specs.World.{World}
use Rattle.tup_runner.specs.Next.{Next}
use Rattle.tup_promise.specs.GoodEnds.{GoodEnds, IsDoneIn, IsMadeEnd}
use Rattle.tup_promise.specs.declared.log.EndedRule.{EndedRule}
use Rattle.tup_promise.specs.declared.log.Log.{Log}

pub none_good : (next : Next) (old new : World) (log : Log) → log.ended ≡ [] → log.ran ≡ [] → GoodEnds next old new log
none_good next old new log none idle = record {
  made = subst (λ (ended : List EndedRule). All (IsMadeEnd next old new) ended) (sym none) (All-nil (IsMadeEnd next old new));
  none_again = subst (λ (ended : List EndedRule). All (IsDoneIn new) ended) (sym none) (All-nil (IsDoneIn new));
  no_more = λ some. absurd (some idle);
}
