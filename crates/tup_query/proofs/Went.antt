-- Calls of the reader, one behind another.
use Rattle.std.proofs.Common.{◌≡◌, ◌⊎◌, inl, inr, Bool, false, List, ◌++◌, is_some, Result, Ok, Err, refl, sym, ap, ◌∙◌, subst}
use Rattle.tup_rule.specs.declared.question.Question.{Question}
use Rattle.tup_lex.specs.declared.kind.ParseKind.{ParseKind}
use Rattle.tup_query.specs.declared.fault.ReadEnd.{ReadEnd}
use Rattle.tup_query.specs.declared.fault.ReadEnd.TheVariants.{Fault, Stopped, Memory}
use Rattle.tup_query.specs.declared.fault.ParseFault.{ParseFault}
use Rattle.tup_query.specs.Reads.{Reads, and_then, gives}
use Rattle.tup_query.specs.Log.{Log, Ran, questions_of}
use Rattle.tup_query.specs.Spot.{Spot, refused}
use Rattle.tup_query.specs.Went.{Asker, AskedAre, Asks, Comes, Went, Gives, IsRefusal, is_stopped}
use Rattle.tup_query.proofs.Runs.{ran_then, ran_refused, halts_then, halts_before}

comes_then : {A B : Type 0} (log mid : Log) (after : Asker) (reads : Reads ParseFault A) (next : A → Reads ParseFault B) (value : A) (end : Result B ReadEnd)
    → Ran log reads mid (Ok value) → Comes mid (next value) after end → Comes log (and_then reads next) after end
comes_then log mid after reads next value (Ok given) first second = ran_then log mid after.log reads next value (Ok given) first second
comes_then log mid after reads next value (Err (Fault fault)) first second = ran_then log mid after.log reads next value (Err fault) first second
comes_then log mid after reads next value (Err Stopped) first (question, at, halts) = (question, at, halts_then log mid after.log reads next value question first halts)
comes_then log mid after reads next value (Err Memory) first second = tt

comes_ended : {A B : Type 0} (log : Log) (after : Asker) (reads : Reads ParseFault A) (next : A → Reads ParseFault B) (end : ReadEnd)
    → Comes log reads after (Err end) → Comes log (and_then reads next) after (Err end)
comes_ended log after reads next (Fault fault) first = ran_refused log after.log reads next fault first
comes_ended log after reads next Stopped (question, at, halts) = (question, at, halts_before log after.log reads next question halts)
comes_ended log after reads next Memory first = tt

pub still : (A B : Type 0) (end : ReadEnd) → is_stopped {A = A} (Err end) ≡ is_stopped {A = B} (Err end)
still A B (Fault fault) = refl
still A B Stopped = refl
still A B Memory = refl

asks_then : {A B : Type 0} (earlier : List Question) (log mid : Log) (after : Asker) (reads : Reads ParseFault A) (next : A → Reads ParseFault B) (value : A) (end : Result B ReadEnd)
    → Ran log reads mid (Ok value) → Asks earlier mid (next value) after end → Asks earlier log (and_then reads next) after end
asks_then earlier log mid after reads next value (Ok given) first asks = asks
asks_then earlier log mid after reads next value (Err (Fault fault)) first asks = asks
asks_then earlier log mid after reads next value (Err Stopped) first (question, halts, asked) = (question, halts_then log mid after.log reads next value question first halts, asked)
asks_then earlier log mid after reads next value (Err Memory) first asks = tt

asks_ended : {A B : Type 0} (earlier : List Question) (log : Log) (after : Asker) (reads : Reads ParseFault A) (next : A → Reads ParseFault B) (end : ReadEnd)
    → Asks earlier log reads after (Err end) → Asks earlier log (and_then reads next) after (Err end)
asks_ended earlier log after reads next (Fault fault) asks = asks
asks_ended earlier log after reads next Stopped (question, halts, asked) = (question, halts_before log after.log reads next question halts, asked)
asks_ended earlier log after reads next Memory asks = tt

-- what follows a call that gave a value
pub went_then : {A B : Type 0} {tells : Bool} {before mid after : Asker} {reads : Reads ParseFault A} {value : A} {end : Result B ReadEnd} (next : A → Reads ParseFault B)
    → Went tells before reads mid (Ok value) → Went tells mid (next value) after end → Went tells before (and_then reads next) after end
went_then {before = before} {mid = mid} {after = after} {reads = reads} {value = value} {end = end} next first second = record {
  comes = comes_then before.log mid.log after reads next value end first.comes second.comes;
  stopped = second.stopped;
  same = λ tells. second.same tells ∙ first.same tells;
  says = λ tells says. second.says tells (first.says tells says);
  asks = λ earlier asked. asks_then earlier before.log mid.log after reads next value end first.comes (second.asks earlier (first.asks earlier asked));
}

-- what follows one that ended otherwise
pub went_err : {A B : Type 0} {tells : Bool} {before after : Asker} {reads : Reads ParseFault A} {end : ReadEnd} (next : A → Reads ParseFault B)
    → Went tells before reads after (Err end) → Went tells before (and_then reads next) after (Err end)
went_err {A} {B} {before = before} {after = after} {reads = reads} {end = end} next first = record {
  comes = comes_ended before.log after reads next end first.comes;
  stopped = first.stopped ∙ still A B end;
  same = first.same;
  says = first.says;
  asks = λ earlier asked. asks_ended earlier before.log after reads next end (first.asks earlier asked);
}

-- memory was wanting behind a call that gave a value, or at once
pub went_memory : {A B : Type 0} {tells : Bool} {before after : Asker} {reads : Reads ParseFault A} {value : A} (all : Reads ParseFault B)
    → Went tells before reads after (Ok value) → Went tells before all after (Err Memory)
went_memory all first = record { comes = tt; stopped = first.stopped; same = first.same; says = first.says; asks = λ earlier asked. tt }

pub went_nowhere : {B : Type 0} (tells : Bool) (before : Asker) (all : Reads ParseFault B) → is_some before.stopped ≡ false → Went tells before all before (Err Memory)
went_nowhere tells before all on = record { comes = tt; stopped = on; same = λ tells. refl; says = λ tells says. says; asks = λ earlier asked. tt }

-- a call that asks nothing
comes_given : {A : Type 0} (before : Asker) (reads : Reads ParseFault A) (end : Result A ReadEnd) → Gives reads end → Comes before.log reads before end
comes_given before reads (Ok value) is = subst (λ r. Ran before.log r before.log (Ok value)) (sym is) (refl, refl)
comes_given before reads (Err (Fault fault)) is = subst (λ r. Ran before.log r before.log (Err fault)) (sym is) (refl, refl)
comes_given before reads (Err Stopped) is = absurd is
comes_given before reads (Err Memory) is = tt

on_given : {A : Type 0} (reads : Reads ParseFault A) (end : Result A ReadEnd) → Gives reads end → is_stopped end ≡ false
on_given reads (Ok value) is = refl
on_given reads (Err (Fault fault)) is = refl
on_given reads (Err Stopped) is = absurd is
on_given reads (Err Memory) is = refl

asks_given : {A : Type 0} (before : Asker) (reads : Reads ParseFault A) (end : Result A ReadEnd) (earlier : List Question) → Gives reads end
    → AskedAre before.asked (earlier ++ questions_of before.log) → Asks earlier before.log reads before end
asks_given before reads (Ok value) earlier is asked = asked
asks_given before reads (Err (Fault fault)) earlier is asked = asked
asks_given before reads (Err Stopped) earlier is asked = absurd is
asks_given before reads (Err Memory) earlier is asked = tt

pub went_given : {A : Type 0} (tells : Bool) (before : Asker) (reads : Reads ParseFault A) (end : Result A ReadEnd) → is_some before.stopped ≡ false → Gives reads end → Went tells before reads before end
went_given tells before reads end on is = record {
  comes = comes_given before reads end is;
  stopped = on ∙ sym (on_given reads end is);
  same = λ tells. refl;
  says = λ tells says. says;
  asks = λ earlier asked. asks_given before reads end earlier is asked;
}

pub went_gives : {A : Type 0} (tells : Bool) (before : Asker) (value : A) → is_some before.stopped ≡ false → Went tells before (gives value) before (Ok value)
went_gives tells before value on = went_given tells before (gives value) (Ok value) on refl

-- refusals
pub gives_refusal : (A : Type 0) (at : Spot) (kind : ParseKind) (end : ReadEnd) → IsRefusal at kind end → Gives {A = A} (refused at kind) (Err end)
gives_refusal A at kind end (inl e) = subst (λ (r : ReadEnd). Gives {A = A} (refused at kind) (Err r)) (sym e) tt
gives_refusal A at kind end (inr e) = subst (λ (r : ReadEnd). Gives {A = A} (refused at kind) (Err r)) (sym e) refl

pub went_refuses : {A : Type 0} (tells : Bool) (before : Asker) (at : Spot) (kind : ParseKind) (end : ReadEnd) → is_some before.stopped ≡ false → IsRefusal at kind end → Went {A = A} tells before (refused at kind) before (Err end)
went_refuses {A} tells before at kind end on is = went_given tells before (refused at kind) (Err end) on (gives_refusal A at kind end is)

-- one that stands where a process ends with a fault, or memory is wanting
pub refusal_of : {A : Type 0} (reads : Reads ParseFault A) (at : Spot) (kind : ParseKind) (end : ReadEnd) → IsRefusal at kind end → (end ≡ Memory) ⊎ (reads ≡ refused at kind) → Gives reads (Err end)
refusal_of {A} reads at kind end is (inl memory) = subst (λ (r : ReadEnd). Gives {A = A} reads (Err r)) (sym memory) tt
refusal_of {A} reads at kind end is (inr e) = subst (λ (r : Reads ParseFault A). Gives r (Err end)) (sym e) (gives_refusal A at kind end is)

-- the same process under another name
pub went_along : {A : Type 0} {tells : Bool} {before after : Asker} {end : Result A ReadEnd} (one other : Reads ParseFault A) → one ≡ other → Went tells before other after end → Went tells before one after end
went_along {tells = tells} {before = before} {after = after} {end = end} one other same went = subst (λ r. Went tells before r after end) (sym same) went

-- what follows a call that asks nothing, in one that may ask
pub went_ok : {A B : Type 0} {tells : Bool} {before after : Asker} {value : A} {end : Result B ReadEnd} (reads : Reads ParseFault A) (next : A → Reads ParseFault B)
    → Gives reads (Ok value) → Went tells before (next value) after end → Went tells before (and_then reads next) after end
unfolding and_then
went_ok {tells = tells} {before = before} {after = after} {end = end} reads next is went = subst (λ r. Went tells before (and_then r next) after end) (sym is) went

pub went_bad : {A B : Type 0} (tells : Bool) (before : Asker) (reads : Reads ParseFault A) (next : A → Reads ParseFault B) (end : ReadEnd)
    → is_some before.stopped ≡ false → Gives reads (Err end) → Went tells before (and_then reads next) before (Err end)
went_bad tells before reads next end on is = went_err next (went_given tells before reads (Err end) on is)

-- ---- calls that ask nothing, one behind another
pub gives_then : {A B : Type 0} (reads : Reads ParseFault A) (next : A → Reads ParseFault B) (value : A) (end : Result B ReadEnd) → Gives reads (Ok value) → Gives (next value) end → Gives (and_then reads next) end
unfolding and_then
gives_then reads next value end first second = subst (λ r. Gives (and_then r next) end) (sym first) second

pub gives_err : {A B : Type 0} (reads : Reads ParseFault A) (next : A → Reads ParseFault B) (end : ReadEnd) → Gives reads (Err end) → Gives (and_then reads next) (Err end)
unfolding and_then
gives_err reads next (Fault fault) first = ap (λ r. and_then r next) first
gives_err reads next Stopped first = first
gives_err reads next Memory first = tt

-- the same process under another name
pub gives_along : {A : Type 0} (one other : Reads ParseFault A) (end : Result A ReadEnd) → one ≡ other → Gives other end → Gives one end
gives_along one other end same is = subst (λ r. Gives r end) (sym same) is
