use Rattle.std.proofs.Common.{◌≡◌, ◌+◌, [], ◌∷◌, sym, ◌∙◌}
use Rattle.bstr.specs.Find.{matches}
use Rattle.bstr.proofs.lemmas.MatchListLemmas.{matches-list, MatchList-head}
use Rattle.tup_lex.proofs.parts.arrows.Goals as goal

pub returns-clause-within : goal.returns-clause-within
returns-clause-within c =
    let text = c.args.text.now in
    let start : matches text (124 ∷ 62 ∷ []) 0 ≡ c.in_ok-first.first ∷ c.next.new.self = sym c.find_iter-found.ensures.value ∙ c.in_ok-first.ensures.steps in
    let first = MatchList-head text 2 0 c.in_ok-first.first _ c.next.new.self start (matches-list text (124 ∷ 62 ∷ []) 0) in
    let second = MatchList-head text 2 (c.in_ok-first.first + 2) c.in_ok-second.second c.next.new.self c.next-2.new.self c.in_ok-second.ensures.steps first.2 in
    (second.0, second.1)
