-- The chains of rules, by their numbers and by their names.
use Rattle.std.proofs.Common.{◌≡◌, ◌<◌, ◌+◌, ◌++◌, ℕ, Bool, true, false, cond, List, [], ◌∷◌, map, take, get_or, Option, None, Some, All, inl, inr, refl, sym, ap, subst, arith, ◌∙◌}
use Rattle.std.specs.Prelude.{Contains, IsSome, length, is_some, slice_get}
use Rattle.std.specs.BTreeMap.{BTreeMap, get}
use Rattle.std.specs.List.{AllZip}
use Rattle.std.specs.Option.{IfSome, option_map}
use Rattle.std.specs.Ordering.{eq_by_cmp, nat_cmp}
use Rattle.std.proofs.lemmas.List.Elements.{Contains-push_cases, All-contains, All-contains_itself, All-head, All-tail, All-weaker}
use Rattle.std.proofs.lemmas.List.{map-append}
use Rattle.std.proofs.lemmas.Option.{none-some, same_Some}
use Rattle.std.proofs.lemmas.Slice.Zip.{AllZip-long}
use Rattle.tup_site.specs.declared.site.Site.{Ghosts as Site}
use Rattle.tup_rule.specs.Rule.{name_of}
use Rattle.tup_rule.specs.declared.rule.Rule.{Rule}
use Rattle.tup_rule.specs.declared.rule.RuleName.{RuleName}
use Rattle.tup_runner.specs.Next.{Next}
use Rattle.tup_graph.specs.Graph.{GraphState}
use Rattle.tup_stored_graph.specs.Held.{Held}
use Rattle.tup_closure.proofs.Asked.{taken}
use Rattle.tup_closure.proofs.Members.{number-decides}
use Rattle.tup_core.specs.declared.plan.Plan.{Plan}
use Rattle.tup_core.specs.Sound.{HasOneMaker, IsAcyclic}
use Rattle.tup_core.specs.Step.{is_reached}
use Rattle.tup_apart.proofs.Running.{listed}
use Rattle.tup_apart.specs.Run.{MayRun}
use Rattle.tup_promise.specs.Kept.{OfGraph}
use Rattle.tup_phases.specs.Kept.{KeepsRuns}
use Rattle.tup_phases.specs.Logged.{ended_rules}
use Rattle.tup_promise.specs.declared.log.EndedRule.{EndedRule}
use Rattle.tup_promise.specs.declared.log.Log.{Log}
use Rattle.tup_why.specs.Reason.{IsPlanned}
use Rattle.tup_why.specs.Waiting.{HasCircle}
use Rattle.tup_update.specs.Because.{AreChainsOf, AreExplained, AreSaid, CountsChains, HasChain, IsChainOrNone, OfEnded, OfRules, SaysWhy}
use Rattle.tup_update.specs.Ended.{numbers, told_ends}
use Rattle.tup_update.specs.Names.{AreNamesOf, IsReadyFor, IsWaiting, name_in, value_at}
use Rattle.tup_update.specs.Promised.{WasPrepared}
use Rattle.tup_update.specs.declared.by_rule.ByRule.{ByRule}
use Rattle.tup_update.proofs.Telling.{End, HasOne, rules_in, some_names, told_all_names}

-- ---- values that wait for all that a plan runs wait for what it claims
module _ {V : Type 0} (plan : Plan) where
  pub ready_for : (numbers : List ℕ) → All (λ number. is_reached plan number ≡ true) numbers → (values : Option (ByRule V)) → IfSome values (IsReadyFor plan.reach) → IfSome values (IsReadyFor numbers)
  ready_for numbers reached None ready = tt
  ready_for numbers reached (Some values) ready = record {
    each = λ number h. ready.each number (listed plan number (All-contains (λ number. is_reached plan number ≡ true) numbers number reached h));
    none = ready.none;
    room = ready.room;
  }

pub all_wait : {V : Type 0} (values : ByRule V) (numbers : List ℕ) → IsReadyFor numbers values → All (λ number. IsSome (value_at values number)) numbers
all_wait values numbers ready = All-weaker (Contains numbers) (λ number. IsSome (value_at values number)) ready.each numbers (All-contains_itself numbers)

pub are_ready : (g : GraphState) (plan : Plan) (chains : Option (ByRule (Option (List ℕ)))) → IfSome chains (AreChainsOf g plan) → IfSome chains (IsReadyFor plan.reach)
are_ready g plan None are = tt
are_ready g plan (Some chains) are = are.ready

-- ---- values that wait

pub names_wait : (plan : Plan) (waiting : BTreeMap ℕ RuleName) → ((number : ℕ) → Contains plan.reach number → get nat_cmp waiting number ≡ option_map name_of (slice_get plan.rules number))
    → (names : ByRule RuleName) → IsWaiting waiting names → AreNamesOf plan names
names_wait plan waiting named names is = record {
  waits = λ number h. subst (λ (m : BTreeMap ℕ RuleName). get nat_cmp m number ≡ option_map name_of (slice_get plan.rules number)) (sym is.same) (named number h);
  none = is.none;
  room = is.room;
}

none_among : (number : ℕ) → Contains [] number → ⊥
none_among number h = let less = h.1 in omega arith

module _ (g : GraphState) (plan : Plan) where
  -- these chains are there, and true
  pub record HasChains (numbers : List ℕ) (chains : BTreeMap ℕ (Option (List ℕ))) : Type 0 where
    pub each : (number : ℕ) → Contains numbers number → IsSome (get nat_cmp chains number)
    pub are : (number : ℕ) (rule : Rule) (chain : Option (List ℕ)) → IsPlanned plan number rule → get nat_cmp chains number ≡ Some chain → IsChainOrNone g plan number chain

  pub chains_wait : (waiting : BTreeMap ℕ (Option (List ℕ))) → HasChains plan.reach waiting → (chains : ByRule (Option (List ℕ))) → IsWaiting waiting chains → AreChainsOf g plan chains
  chains_wait waiting have chains is =
      let all = subst (HasChains plan.reach) (sym is.same) have in
      record { ready = record { each = all.each; none = is.none; room = is.room }; are = all.are }

  pub no_chains : (chains : BTreeMap ℕ (Option (List ℕ))) → ((number : ℕ) → get nat_cmp chains number ≡ None) → HasChains [] chains
  no_chains chains empty = record {
    each = λ number h. absurd (none_among number h);
    are = λ number rule chain planned here. absurd (none-some chain (sym (empty number) ∙ here));
  }

  module _ (numbers : List ℕ) (number : ℕ) (chain : Option (List ℕ)) (old new : BTreeMap ℕ (Option (List ℕ)))
      (written : (q : ℕ) → get nat_cmp new q ≡ cond (eq_by_cmp nat_cmp number q) (Some chain) (get nat_cmp old q)) (is : (rule : Rule) → IsPlanned plan number rule → IsChainOrNone g plan number chain) (have : HasChains numbers old) where
    abbrev by : ℕ → Bool → Option (Option (List ℕ))
    by q b = cond b (Some chain) (get nat_cmp old q)

    found : (q : ℕ) (rule : Rule) (c : Option (List ℕ)) (b : Bool) → eq_by_cmp nat_cmp number q ≡ b → IsPlanned plan q rule → by q b ≡ Some c → IsChainOrNone g plan q c
    found q rule c true e planned here =
        let same : number ≡ q = (number-decides number q).0 e in
        subst (λ (n : ℕ). IsChainOrNone g plan n c) same (subst (IsChainOrNone g plan number) (same_Some chain c here) (is rule (subst (λ (n : ℕ). IsPlanned plan n rule) (sym same) planned)))
    found q rule c false e planned here = have.are q rule c planned here

    is_there : (q : ℕ) (b : Bool) → IsSome (get nat_cmp old q) → IsSome (by q b)
    is_there q true was = refl
    is_there q false was = was

    pub chain_added : HasChains (numbers ++ number ∷ []) new
    chain_added = record {
      each = λ q h. elim (Contains-push_cases numbers number q h) [
        | inl before ↦ subst IsSome (sym (written q)) (is_there q (eq_by_cmp nat_cmp number q) (have.each q before))
        | inr last ↦ subst IsSome (sym (written q ∙ ap (by q) ((number-decides number q).1 last))) refl
      ];
      are = λ q rule c planned here. found q rule c (eq_by_cmp nat_cmp number q) refl planned (sym (written q) ∙ here);
    }

  pub one_more : (i number d : ℕ) (chains : BTreeMap ℕ (Option (List ℕ))) → i < length plan.reach → number ≡ get_or plan.reach i d → HasChains (take i plan.reach ++ number ∷ []) chains
      → HasChains (take (i + 1) plan.reach) chains
  one_more i number d chains less is = subst (λ (l : List ℕ). HasChains l chains) (sym (taken plan.reach i number d less is))

-- ---- what is said of the rules that ended
module _ (g : GraphState) (plan : Plan) where
  module _ (chains : ByRule (Option (List ℕ))) (are : AreChainsOf g plan chains) where
    says : (number : ℕ) (name : RuleName) (chain : Option (List ℕ)) → Some name ≡ name_in plan.rules number → Some chain ≡ value_at chains number → is_reached plan number ≡ true → SaysWhy g plan name chain
    says number name chain named here reached = by (slice_get plan.rules number) refl
      where
        by : (found : Option Rule) → slice_get plan.rules number ≡ found → SaysWhy g plan name chain
        by None none = absurd (none-some name (sym (named ∙ ap (option_map name_of) none)))
        by (Some rule) there =
            let planned : IsPlanned plan number rule = record { here = there; reached = listed plan number reached } in
            (number, rule, planned, sym (same_Some name (name_of rule) (named ∙ ap (option_map name_of) there)), are.are number rule chain planned (sym here))

    say_why : (numbers : List ℕ) (ran : List RuleName) (because : List (Option (List ℕ))) → map Some ran ≡ map (name_in plan.rules) numbers → map Some because ≡ map (value_at chains) numbers
        → All (λ number. is_reached plan number ≡ true) numbers → AllZip (SaysWhy g plan) ran because
    say_why [] [] [] named here reached = tt
    say_why [] (name ∷ ran) because named here reached = absurd (cc)
    say_why [] [] (chain ∷ because) named here reached = absurd (cc)
    say_why (number ∷ numbers) [] because named here reached = absurd (cc)
    say_why (number ∷ numbers) (name ∷ ran) [] named here reached = absurd (cc)
    say_why (number ∷ numbers) (name ∷ ran) (chain ∷ because) named here reached =
        let name_is : Some name ≡ name_in plan.rules number = cc in
        let chain_is : Some chain ≡ value_at chains number = cc in
        let names : map Some ran ≡ map (name_in plan.rules) numbers = cc in
        let chained : map Some because ≡ map (value_at chains) numbers = cc in (
          says number name chain name_is chain_is (All-head (λ number. is_reached plan number ≡ true) number numbers reached),
          say_why numbers ran because names chained (All-tail (λ number. is_reached plan number ≡ true) number numbers reached),
        )

  -- of the rules that are told of, and of those that the log leaves out
  pub say_why_ended : (list : List End) (ended rest : List EndedRule) (because : List (Option (List ℕ))) → ended ++ rest ≡ told_ends plan.rules list → All (λ number. is_reached plan number ≡ true) (numbers list)
      → All (HasOne plan.rules) (numbers list) → (chains : Option (ByRule (Option (List ℕ)))) → IfSome chains (λ values. map Some because ≡ map (value_at values) (numbers list))
      → IfSome chains (λ values. AreChainsOf g plan values → (more : List RuleName) × AllZip (SaysWhy g plan) (rules_in ended ++ more) because)
  say_why_ended list ended rest because parts reached have None claimed = tt
  say_why_ended list ended rest because parts reached have (Some chains) claimed = λ are. (
    rules_in rest,
    subst (λ (names : List RuleName). AllZip (SaysWhy g plan) names because) (ap rules_in (sym parts) ∙ map-append (λ (one : EndedRule). one.rule) ended rest)
        (say_why chains are (numbers list) (rules_in (told_ends plan.rules list)) because (ap (map Some) (told_all_names plan.rules list have) ∙ some_names plan.rules (numbers list) have) claimed reached),
  )

  -- so it is where they are asked for
  pub said : (explain : Bool) (log : Log) (because : List (Option (List ℕ))) (chains : Option (ByRule (Option (List ℕ)))) → MayRun g plan → is_some chains ≡ explain → IfSome chains (AreChainsOf g plan)
      → (chains ≡ None → because ≡ []) → IfSome chains (λ values. AreChainsOf g plan values → OfEnded log (λ ended. AllZip (SaysWhy g plan) ended because)) → OfEnded log (λ ended. AreSaid explain g ended because)
  said explain log because None may asked are none why = ([], record { asked = λ e. absurd (cc (asked, e)); unasked = λ e. none refl })
  said explain log because (Some chains) may asked are none why =
      let given = why are in (given.0, record { asked = λ e. inr (plan, may, given.1); unasked = λ e. absurd (cc (asked, e)) })

  -- where no rule waits for itself there is a chain
  has_chain : (HasCircle g plan → ⊥) → (name : RuleName) (chain : Option (List ℕ)) → SaysWhy g plan name chain → HasChain g plan name chain
  has_chain none name None (number, rule, planned, is, circle) = absurd (none circle)
  has_chain none name (Some text) (number, rule, planned, is, chain) = (number, rule, planned, is, text, refl, chain)

  pub have_chains : (HasCircle g plan → ⊥) → (ran : List RuleName) (because : List (Option (List ℕ))) → AllZip (SaysWhy g plan) ran because → AllZip (HasChain g plan) ran because
  have_chains none [] [] why = tt
  have_chains none [] (chain ∷ because) why = why
  have_chains none (name ∷ ran) [] why = why
  have_chains none (name ∷ ran) (chain ∷ because) why = (has_chain none name chain why.0, have_chains none ran because why.1)

-- ---- no rule ended
none_of : (log : Log) → log.ended ≡ [] → ended_rules log ++ [] ≡ []
none_of log none = ap (λ (ended : List EndedRule). map (λ (one : EndedRule). one.rule) ended ++ []) none

pub none_said : (explain : Bool) (g : GraphState) (log : Log) (because : List (Option (List ℕ))) → log.ended ≡ [] → because ≡ [] → OfEnded log (λ ended. AreSaid explain g ended because)
none_said explain g log because none same = ([], record { asked = λ e. inl (none_of log none, same); unasked = λ e. same })

pub none_counted : (explain : Bool) (log : Log) (because : List (Option (List ℕ))) → log.ended ≡ [] → because ≡ [] → OfEnded log (λ ended. CountsChains explain ended because)
none_counted explain log because none same = ([], by explain)
  where
    by : (explain : Bool) → CountsChains explain (ended_rules log ++ []) because
    by true = ap length same ∙ sym (ap length (none_of log none))
    by false = same

pub none_explained : {S : Type 0} (site : Site S) (old : S) (log : Log) (because : List (Option (List ℕ))) → log.ended ≡ [] → because ≡ [] → OfEnded log (λ ended. AreExplained site old ended because)
none_explained site old log because none same = ([], inl (none_of log none, same))

-- ---- of an update
pub counted : (explain : Bool) (g : GraphState) (ran : List RuleName) (because : List (Option (List ℕ))) → AreSaid explain g ran because → CountsChains explain ran because
counted true g ran because are = by (are.asked refl)
  where
    by : OfRules g ran because (SaysWhy g) → length because ≡ length ran
    by (inl (none, same)) = ap length same ∙ sym (ap length none)
    by (inr (plan, may, why)) = AllZip-long (SaysWhy g plan) ran because why
counted false g ran because are = are.unasked refl

pub explained : {S : Type 0} (site : Site S) (next : Next) (old : S) (graph : Held) (at : S) (ran : List RuleName) (because : List (Option (List ℕ)))
    → ((g : GraphState) (plan : Plan) → HasOneMaker plan → IsAcyclic plan.rules → HasCircle g plan → ⊥) → WasPrepared site next old graph at
    → OfGraph (site.world old) (λ before. KeepsRuns before graph.nodes) → OfRules graph.nodes ran because (SaysWhy graph.nodes) → AreExplained site old ran because
explained site next old graph at ran because law was records (inl none) = inl none
explained site next old graph at ran because law was records (inr (plan, may, why)) =
    let acyclic : IsAcyclic plan.rules = subst IsAcyclic (sym may.plan.rules) was.prepared.rules.2.2.order in
    inr (next, graph, at, was, records, (plan, may, have_chains graph.nodes plan (law graph.nodes plan may.apart.one_maker acyclic) ran because why))
