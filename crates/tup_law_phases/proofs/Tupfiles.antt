-- The language of Tupfiles reads and links as it should.
use Rattle.std.proofs.Common.{◌≡◌, ◌≢◌, ◌⊎◌, inl, inr, ℕ, zero, suc, ◌+◌, ◌<◌, Bool, true, false, cond, ◌&&◌, List, [], ◌∷◌, length, map, Option, Some, None, is_none, slice_get, Decides, refl, sym, ap, ◌∙◌, subst, arith}
use Rattle.std.proofs.lemmas.Bool.{and_from, and_parts, both_ways, cases_order}
use Rattle.std.proofs.lemmas.Option.{none-some, same_Some, slice_get_within}
use Rattle.tup_rule.specs.Producer.{DeclaredProducer, MakesFor, ProducerOver}
use Rattle.tup_rule.specs.declared.rule.Rule.{Rule}
use Rattle.tup_rule.proofs.Laws.{maker-Some}
use Rattle.tup_access.specs.declared.verdict.Verdict.{Verdict}
use Rattle.tup_access.specs.declared.verdict.Verdict.TheVariants.{Good}
use Rattle.tup_clean.specs.AnyOrder.{AreProducersGood}
use Rattle.tup_clean.specs.Clean.{good_at, producers_good}
use Rattle.tup_clean.proofs.Deciding.{counted_all}
use Rattle.tup_clean.proofs.MayTake.{good_over}
use Rattle.tup_link.specs.Circle.{NoneWaitsForItself}
use Rattle.tup_link.specs.Faults.{early_fault}
use Rattle.tup_link.specs.Linked.{rules_of}
use Rattle.tup_link.specs.declared.fault.LinkFault.{LinkFault}
use Rattle.tup_project.specs.Project.{AreLinked}
use Rattle.tup_law_graph.specs.Linking.{LinksReadings}
use Rattle.tup_refresh.specs.Language.{ReadsTupfiles}
use Rattle.tup_law_phases.specs.Language.{all_but, linked_of, none_waits_from, tupfiles}

-- ---- all rules but one are good

not_there : (at : ℕ) (rules : List Rule) → good_at (all_but at rules) at ≡ false
not_there at [] = refl
not_there zero (rule ∷ rules) = refl
not_there (suc at) (rule ∷ rules) = not_there at rules

each_good : (rules : List Rule) (at : ℕ) → at < length rules → good_at (map (λ (other : Rule). Some Good) rules) at ≡ true
each_good [] at less = absurd (omega (arith, less))
each_good (rule ∷ rules) zero less = refl
each_good (rule ∷ rules) (suc at) less = each_good rules at (omega (arith, less))

good_elsewhere : (at : ℕ) (rules : List Rule) (other : ℕ) → other ≢ at → other < length rules → good_at (all_but at rules) other ≡ true
good_elsewhere at [] other apart less = absurd (omega (arith, less))
good_elsewhere zero (rule ∷ rules) zero apart less = absurd (apart refl)
good_elsewhere zero (rule ∷ rules) (suc other) apart less = each_good rules other (omega (arith, less))
good_elsewhere (suc at) (rule ∷ rules) zero apart less = refl
good_elsewhere (suc at) (rule ∷ rules) (suc other) apart less = good_elsewhere at rules other (λ same. apart (ap suc same)) (omega (arith, less))

-- ---- no rule waits for itself

made_within : (rules : List Rule) (rule : Rule) (at : ℕ) → MakesFor rules rule at → at < length rules
made_within rules rule at (path, declared, makes) = let found = maker-Some rules path at makes in slice_get_within rules at found.rule found.here

producer_within : (between : ℕ) (rules : List Rule) (rule : Rule) (at : ℕ) → ProducerOver between rules rule at → at < length rules
producer_within zero rules rule at makes = made_within rules rule at makes
producer_within (suc between) rules rule at (next, other, makes, here, over) = producer_within between rules other at over

counted : (rules : List Rule) (verdicts : List (Option Verdict)) (rule : Rule) → Decides (producers_good (length rules) rules verdicts rule) (AreProducersGood rules verdicts rule)
counted rules verdicts rule = (counted_all rules verdicts rule, good_over rules verdicts (length rules) rule)

one_waits_not : (all : List Rule) (at : ℕ) (rule : Rule) → Decides (producers_good (length all) all (all_but at all) rule) (DeclaredProducer all rule at → ⊥)
one_waits_not all at rule = (
  λ good producer. both_ways (good_at (all_but at all) at) (not_there at all) ((counted all (all_but at all) rule).0 good at producer),
  λ none. (counted all (all_but at all) rule).1 (λ other producer. elsewhere none other producer (cases_order other at)),
)
  where
    elsewhere : (DeclaredProducer all rule at → ⊥) → (other : ℕ) → DeclaredProducer all rule other → (other ≡ at) ⊎ ((other < at) ⊎ (at < other)) → good_at (all_but at all) other ≡ true
    elsewhere none other producer (inl same) = absurd (none (subst (DeclaredProducer all rule) same producer))
    elsewhere none other producer (inr (inl less)) = good_elsewhere at all other (λ same. omega (arith, less, same)) (producer_within producer.0 all rule other producer.1)
    elsewhere none other producer (inr (inr more)) = good_elsewhere at all other (λ same. omega (arith, more, same)) (producer_within producer.0 all rule other producer.1)

abbrev NoneWaitsFrom : ℕ → List Rule → List Rule → Type 0
NoneWaitsFrom at all rules = (k number : ℕ) (rule : Rule) → number ≡ at + k → slice_get rules k ≡ Some rule → DeclaredProducer all rule number → ⊥

waits_not : (at : ℕ) (all rules : List Rule) → none_waits_from at all rules ≡ true → NoneWaitsFrom at all rules
waits_not at all [] e k number rule is here = absurd (none-some rule here)
waits_not at all (first ∷ rules) e zero number rule is here =
    let parts = and_parts (producers_good (length all) all (all_but at all) first) (none_waits_from (suc at) all rules) e in
    let same : number ≡ at = omega (arith, is) in
    λ producer. (one_waits_not all at first).0 parts.0
    (subst (λ (n : ℕ). DeclaredProducer all first n) same (subst (λ (r : Rule). DeclaredProducer all r number) (sym (same_Some first rule here)) producer))
waits_not at all (first ∷ rules) e (suc k) number rule is here =
    let parts = and_parts (producers_good (length all) all (all_but at all) first) (none_waits_from (suc at) all rules) e in
    waits_not (suc at) all rules parts.1 k number rule (omega (arith, is)) here

none_waits : (at : ℕ) (all rules : List Rule) → NoneWaitsFrom at all rules → none_waits_from at all rules ≡ true
none_waits at all [] none = refl
none_waits at all (first ∷ rules) none =
    and_from (producers_good (length all) all (all_but at all) first) (none_waits_from (suc at) all rules)
    ((one_waits_not all at first).1 (none 0 at first (omega arith) refl))
    (none_waits (suc at) all rules (λ k number rule is here. none (suc k) number rule (omega (arith, is)) here))

-- ---- the language

links : LinksReadings tupfiles
links readings rules = (to (early_fault readings) refl (none_waits_from 0 (rules_of readings) (rules_of readings)) refl, from)
  where
    to : (fault : Option LinkFault) → early_fault readings ≡ fault → (b : Bool) → none_waits_from 0 (rules_of readings) (rules_of readings) ≡ b
        → cond (is_none fault && b) (Some (rules_of readings)) None ≡ Some rules → AreLinked readings rules
    to None early true none e =
        let same = same_Some (rules_of readings) rules e in
        record {
          are = sym same;
          early = early;
          order = subst NoneWaitsForItself same (λ at rule here. waits_not 0 (rules_of readings) (rules_of readings) none at at rule (omega arith) here);
        }
    to None early false some e = absurd (none-some rules e)
    to (Some fault) early b waits e = absurd (none-some rules e)

    from : AreLinked readings rules → linked_of readings ≡ Some rules
    from linked =
        let order : NoneWaitsForItself (rules_of readings) = subst NoneWaitsForItself linked.are linked.order in
        ap (λ (fault : Option LinkFault). cond (is_none fault && none_waits_from 0 (rules_of readings) (rules_of readings)) (Some (rules_of readings)) None) linked.early
        ∙ ap (λ (b : Bool). cond b (Some (rules_of readings)) None)
        (none_waits 0 (rules_of readings) (rules_of readings) (λ k number rule is here. order number rule (let same : k ≡ number = omega (arith, is) in subst (λ (n : ℕ). slice_get (rules_of readings) n ≡ Some rule) same here)))
        ∙ ap Some (sym linked.are)

pub is_language : ReadsTupfiles tupfiles × LinksReadings tupfiles
is_language = (λ dir log. refl, links)
