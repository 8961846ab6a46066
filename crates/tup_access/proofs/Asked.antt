-- What a command asked, as its runner means it and as a tree answers it, leads to its verdict.
use Rattle.std.proofs.Common.{◌≡◌, ℕ, ◌+◌, ◌≤◌, List, [], ◌∷◌, ◌++◌, length, refl, sym, ap, ◌∙◌, subst, arith, append_assoc, length-append}
use Rattle.std.proofs.lemmas.List.{append-nil}
use Rattle.tup_path.specs.Tree.{Tree}
use Rattle.tup_rule.specs.declared.rule.Rule.{Rule}
use Rattle.tup_runner.specs.Next.{Next, Asks}
use Rattle.tup_runner.specs.Honest.{AsksJust, AsksAfter, EndsAfter}
use Rattle.tup_runner.specs.declared.step.Answer.{Answer}
use Rattle.tup_runner.specs.declared.step.Ended.{Ended}
use Rattle.tup_runner.proofs.Asking.{just_next}
use Rattle.tup_access.specs.declared.verdict.Verdict.{Verdict}
use Rattle.tup_access.specs.declared.verdict.Access.TheVariants.{No}
use Rattle.tup_access.specs.Access.{access}
use Rattle.tup_access.specs.Answered.{AreAnswered, HasSeen}
use Rattle.tup_access.specs.Judge.{bad, judge}
use Rattle.tup_access.specs.Verdict.{answer, verdict, verdict_after}
use Rattle.tup_access.proofs.Permitted.{access-Yes}
use Rattle.tup_access.proofs.Steps.{verdict_after-none, verdict_after-End, verdict_after-No, verdict_after-Yes}

module _ (rules : List Rule) (rule : Rule) (tree : Tree) where
  -- asks behind asks
  pub answered_on : (before : ℕ) (some more : Asks) → AreAnswered rules rule tree before some → AreAnswered rules rule tree (before + length some) more → AreAnswered rules rule tree before (some ++ more)
  answered_on before [] more one two = subst (λ (n : ℕ). AreAnswered rules rule tree n more) (omega arith) two
  answered_on before (ask ∷ some) more one two = (one.0, answered_on (before + 1) some more one.1 (subst (λ (n : ℕ). AreAnswered rules rule tree n more) (omega arith) two))

  -- a command is never answered more than 65,535 times
  pub answered_few : (before : ℕ) (asks : Asks) → AreAnswered rules rule tree before asks → before ≤ 65535 → before + length asks ≤ 65535
  answered_few before [] are few = omega arith
  answered_few before (ask ∷ asks) are few =
      let early = (access-Yes rules rule before ask.0 are.0.path are.0.may).early in
      let rest = answered_few (before + 1) asks are.1 (omega (arith, early)) in
      omega (arith, rest)

  -- a view goes on answering
  pub seen_none : (before : ℕ) → HasSeen rules rule tree before [] before
  seen_none before = record { count = omega arith; answered = tt }

  pub seen_on : (before between after : ℕ) (some more : Asks) → HasSeen rules rule tree before some between → HasSeen rules rule tree between more after → HasSeen rules rule tree before (some ++ more) after
  seen_on before between after some more one two = record {
    count = simp length-append (omega (arith, one.count, two.count));
    answered = answered_on before some more one.answered (subst (λ (n : ℕ). AreAnswered rules rule tree n more) one.count two.answered);
  }

  module _ (next : Next) where
    -- a command that asked this much, and then asks this too, has its verdict still to come
    leads : (before asks : Asks) → AsksJust (next rule.dir rule.text) (before ++ asks) → AreAnswered rules rule tree (length before) asks →
        verdict_after next rules rule tree before ≡ verdict_after next rules rule tree (before ++ asks)
    leads before [] just are = ap (verdict_after next rules rule tree) (sym (append-nil before))
    leads before (ask ∷ asks) just are =
        let asks_it = just_next (next rule.dir rule.text) before asks ask just in
        let one = verdict_after-Yes next rules rule tree before ask.0 are.0.path asks_it are.0.may in
        let told : before ++ (ask.0, answer rule tree are.0.path) ∷ [] ≡ before ++ ask ∷ [] = ap (λ (a : Answer). before ++ (ask.0, a) ∷ []) (sym are.0.told) in
        let joined = append_assoc before (ask ∷ []) asks in
        let longer : length before + 1 ≡ length (before ++ ask ∷ []) = simp length-append refl in
        one
        ∙ ap (verdict_after next rules rule tree) told
        ∙ leads (before ++ ask ∷ []) asks (subst (AsksJust (next rule.dir rule.text)) (sym joined) just) (subst (λ (n : ℕ). AreAnswered rules rule tree n asks) longer are.1)
        ∙ ap (verdict_after next rules rule tree) joined

    -- a command that asked just this and then ended is judged
    pub verdict_ends : (asks : Asks) (ended : Ended) → EndsAfter (next rule.dir rule.text) asks ended → AreAnswered rules rule tree 0 asks → verdict next rules rule tree ≡ judge rule ended
    verdict_ends asks ended ends are =
        let few = answered_few 0 asks are (omega arith) in
        sym (verdict_after-none next rules rule tree) ∙ leads [] asks ends.before are ∙ verdict_after-End next rules rule tree asks ended (omega (arith, few)) ends.ends

    -- and one that then asks what it may not has that as its verdict
    pub verdict_denied : (asks : Asks) (last : List ℕ) (refusal : Verdict) → AsksAfter (next rule.dir rule.text) asks last → AreAnswered rules rule tree 0 asks →
        access rules rule (length asks) last ≡ No refusal → verdict next rules rule tree ≡ bad refusal
    verdict_denied asks last refusal denied are refused =
        let few = answered_few 0 asks are (omega arith) in
        sym (verdict_after-none next rules rule tree) ∙ leads [] asks denied.before are ∙ verdict_after-No next rules rule tree asks last refusal (omega (arith, few)) denied.asks_it refused
