-- A swap of rules keeps a kept graph.
use Rattle.std.specs.Prelude.{◌≡◌, ◌⊎◌, ◌+◌, ◌<◌, ℕ, zero, suc, Bool, true, false, List, [], ◌∷◌, Option, None, Some, All, Contains, IsSome, cond, is_some, option_map, slice_get, unwrap_or}
use Rattle.std.proofs.Common.{refl, sym, ap, ap₂, subst, ◌∙◌, inl, inr, slice_index_or, arith}
use Rattle.std.specs.FinMap as finite
use Rattle.std.specs.List.{position_from}
use Rattle.std.proofs.lemmas.Bool.{true≢false}
use Rattle.std.proofs.lemmas.Iterator.Adapters.{position_from-zero}
use Rattle.std.proofs.lemmas.Option.{none-some, same_Some}
use Rattle.tup_path.specs.Name.{Names, Content}
use Rattle.tup_path.specs.Order.{by_names, by_names-total, by_names-antisymmetric}
use Rattle.tup_stamp.specs.declared.Stamp.{Stamp}
use Rattle.tup_rule.specs.Rule.{declares, maker, writes}
use Rattle.tup_rule.specs.declared.question.Noted.{Noted}
use Rattle.tup_rule.specs.declared.question.Question.{Question}
use Rattle.tup_rule.specs.declared.question.Reading.{Reading}
use Rattle.tup_rule.specs.declared.rule.Rule.{Rule}
use Rattle.tup_rule.proofs.Laws.{maker-Some}
use Rattle.tup_rule.proofs.Same.{same_fields, same_fields-tells}
use Rattle.tup_runner.specs.Next.{Next}
use Rattle.tup_record.specs.declared.owned.OwnedState.TheVariants.{Never}
use Rattle.tup_record.specs.declared.run.RunRecord.{RunRecord}
use Rattle.tup_graph.specs.Above.{IsAbove}
use Rattle.tup_graph.specs.Answers.{tupfile, Readings, Sources, IsAnswer, IsSource}
use Rattle.tup_graph.specs.Graph.{GraphState, is_created, is_flagged, is_owned, source}
use Rattle.tup_graph.specs.Kept.{Asked, HasSeenStamps, IsKept, IsRuleAt, IsUnflagged}
use Rattle.tup_graph.specs.Records.{Language}
use Rattle.tup_graph.specs.Swap.{IsFlaggedYet, IsNew, IsSwapped, ReadsNew, WasAt, owned_now}
use Rattle.tup_graph.specs.declared.owned.Owned.{Owned}
use Rattle.tup_law_graph.specs.Fitting.{AreFitting, FitsTogether}
use Rattle.tup_law_graph.proofs.Stable.{Settled, settled_by}

-- ---- where a rule stands in a list first, if it does

same_rules : (a b : Rule) → Settled (a ≡ b)
same_rules a b = settled_by (same_fields a b) (same_fields-tells a b (same_fields a b) refl)

abbrev StandsFirst : List Rule → Rule → ℕ → Type 0
StandsFirst rules rule at = (slice_get rules at ≡ Some rule) × ((earlier : ℕ) → earlier < at → slice_get rules earlier ≡ Some rule → ⊥)

abbrev StandsNowhere : List Rule → Rule → Type 0
StandsNowhere rules rule = (at : ℕ) → slice_get rules at ≡ Some rule → ⊥

first_of : (rules : List Rule) (rule : Rule) → ((at : ℕ) × StandsFirst rules rule at) ⊎ StandsNowhere rules rule
first_of [] rule = inr (λ at is. none-some rule is)
first_of (first ∷ rules) rule = by (same_rules first rule) (first_of rules rule)
  where
    none_before : (e : ℕ) → e < 0 → slice_get (first ∷ rules) e ≡ Some rule → ⊥
    none_before e less is = omega (arith, less)

    later : (at : ℕ) → (first ≡ rule → ⊥) → ((e : ℕ) → e < at → slice_get rules e ≡ Some rule → ⊥) → (e : ℕ) → e < suc at → slice_get (first ∷ rules) e ≡ Some rule → ⊥
    later at apart none zero less is = apart (same_Some first rule is)
    later at apart none (suc e) less is = none e (omega (arith, less)) is

    nowhere : (first ≡ rule → ⊥) → StandsNowhere rules rule → StandsNowhere (first ∷ rules) rule
    nowhere apart none zero is = apart (same_Some first rule is)
    nowhere apart none (suc e) is = none e is

    by : Settled (first ≡ rule) → ((at : ℕ) × StandsFirst rules rule at) ⊎ StandsNowhere rules rule → ((at : ℕ) × StandsFirst (first ∷ rules) rule at) ⊎ StandsNowhere (first ∷ rules) rule
    by (inl same) rest = inl (zero, (ap Some same, none_before))
    by (inr apart) (inl (at, (here, none))) = inl (suc at, (here, later at apart none))
    by (inr apart) (inr none) = inr (nowhere apart none)

pub was_or_new : (g : GraphState) (rule : Rule) → ((before : ℕ) × WasAt g rule before) ⊎ IsNew g rule
was_or_new g rule = first_of g.rules rule

-- ---- who makes a path

none_from : (makes : Rule → Bool) (n : ℕ) (rules : List Rule) (at : ℕ) (rule : Rule) → position_from makes n rules ≡ None → slice_get rules at ≡ Some rule → makes rule ≡ false
none_from makes n [] at rule none here = absurd (none-some rule here)
none_from makes n (first ∷ rules) at rule none here = by (makes first) refl none at here (λ found later. none_from makes (n + 1) rules later rule found)
  where
    by : (b : Bool) → makes first ≡ b → cond b (Some n) (position_from makes (n + 1) rules) ≡ None → (at : ℕ) → slice_get (first ∷ rules) at ≡ Some rule
        → (position_from makes (n + 1) rules ≡ None → (later : ℕ) → slice_get rules later ≡ Some rule → makes rule ≡ false) → makes rule ≡ false
    by true it_does found at here further = absurd (none-some n (sym found))
    by false it_doesn't found zero here further = subst (λ (r : Rule). makes r ≡ false) (same_Some first rule here) it_doesn't
    by false it_doesn't found (suc at) here further = further found at here

pub maker-None : (rules : List Rule) (path : Names) (at : ℕ) (rule : Rule) → maker path rules ≡ None → slice_get rules at ≡ Some rule → writes rule path ≡ false
maker-None rules path at rule none = none_from (λ (r : Rule). writes r path) 0 rules at rule (sym (position_from-zero (λ (r : Rule). writes r path) rules) ∙ none)

-- how a path is owned by a maker
abbrev pub owned_by : Option ℕ → Option Owned → Option Owned
owned_by (Some number) before = Some (record { maker = Some number; state = unwrap_or (option_map (λ (owned : Owned). owned.state) before) Never })
owned_by None before = option_map (λ (owned : Owned). record { maker = None; state = owned.state }) before

owned_so : (rules : List Rule) (path : Names) (before : Option Owned) → owned_now rules path before ≡ owned_by (maker path rules) before
owned_so rules path before = by (maker path rules)
  where
    by : (found : Option ℕ)
        → ◌≡◌ {A = Option Owned} (elim found [
          | Some number ↦ Some (record { maker = Some number; state = unwrap_or (option_map (λ (owned : Owned). owned.state) before) Never })
          | None ↦ option_map (λ (owned : Owned). record { maker = None; state = owned.state }) before
        ]) (owned_by found before)
    by (Some number) = refl
    by None = refl

-- ---- what a swap does, whatever the graph was
module _ (g new : GraphState) (fresh : List (Names × Reading)) (gone : List Names) (rules : List Rule) (is : IsSwapped g fresh gone rules new) where
  pub stands : (number : ℕ) (rule : Rule) → slice_get rules number ≡ Some rule → IsRuleAt new number rule
  stands number rule here = subst (λ (l : List Rule). slice_get l number ≡ Some rule) (sym is.rules_are) here

  pub stood : (number : ℕ) (rule : Rule) → IsRuleAt new number rule → slice_get rules number ≡ Some rule
  stood number rule here = subst (λ (l : List Rule). slice_get l number ≡ Some rule) is.rules_are here

  -- a rule with a record had it
  pub ran_before : (number : ℕ) (rule : Rule) (run : RunRecord) → IsRuleAt new number rule → finite.get new.runs number ≡ Some run → (before : ℕ) × WasAt g rule before × (finite.get g.runs before ≡ Some run)
  ran_before number rule run here ran = by (was_or_new g rule)
    where
      by : ((before : ℕ) × WasAt g rule before) ⊎ IsNew g rule → (before : ℕ) × WasAt g rule before × (finite.get g.runs before ≡ Some run)
      by (inl (before, was)) = (before, was, sym (is.kept_runs number before rule here was) ∙ ran)
      by (inr fresh_one) = absurd (none-some run (sym (is.no_runs number rule here fresh_one) ∙ ran))

  -- a rule that isn't flagged was there, and wasn't flagged
  pub unflagged_before : (number : ℕ) (rule : Rule) → IsUnflagged new number rule → (before : ℕ) × WasAt g rule before × (is_flagged g before ≡ false)
  unflagged_before number rule unflagged = by (was_or_new g rule)
    where
      never : IsFlaggedYet g new number → ⊥
      never yet = true≢false (sym ((is.flags number).1 (inl yet)) ∙ unflagged.unflagged)

      by : ((before : ℕ) × WasAt g rule before) ⊎ IsNew g rule → (before : ℕ) × WasAt g rule before × (is_flagged g before ≡ false)
      by (inl (before, was)) = (before, was, it_wasn't (is_flagged g before) refl)
        where
          it_wasn't : (b : Bool) → is_flagged g before ≡ b → b ≡ false
          it_wasn't true flagged = absurd (never (rule, unflagged.here, inr (before, was, flagged)))
          it_wasn't false flagged = refl
      by (inr fresh_one) = absurd (never (rule, unflagged.here, inl fresh_one))

  module _ (up : (number other : ℕ) (rule reader : Rule) (run : RunRecord) (path : Names) (given : Option Stamp) → IsRuleAt g number rule → is_flagged g number ≡ true
      → IsRuleAt g other reader → finite.get g.runs other ≡ Some run → Contains run.asks (path, given) → writes rule path ≡ true → is_flagged g other ≡ true) where
    -- who asked an output of a flagged rule is flagged
    pub swap_upward : (number other : ℕ) (rule reader : Rule) (run : RunRecord) (path : Names) (given : Option Stamp) → IsRuleAt new number rule → is_flagged new number ≡ true
        → IsRuleAt new other reader → finite.get new.runs other ≡ Some run → Contains run.asks (path, given) → writes rule path ≡ true → is_flagged new other ≡ true
    swap_upward number other rule reader run path given here flagged there ran asked wrote = (is.flags other).1 (further ((is.flags number).0 flagged))
      where
        same : (it : Rule) → IsRuleAt new number it → it ≡ rule
        same it at = same_Some it rule (sym at ∙ here)

        further : IsFlaggedYet g new number ⊎ IsAbove new (ReadsNew g new) number → IsFlaggedYet g new other ⊎ IsAbove new (ReadsNew g new) other
        further (inr (reads, over)) = inr (suc reads, (number, rule, over, here, (path, (run, given, ran, asked), wrote)))
        further (inl (it, at, inl fresh_one)) = inr (zero, (number, rule, here, subst (IsNew g) (same it at) fresh_one, (path, (run, given, ran, asked), wrote)))
        further (inl (it, at, inr (before, was, flag))) =
            let reads = ran_before other reader run there ran in
            inl (reader, there, inr (reads.0, reads.1, up before reads.0 rule reader run path given (subst (IsRuleAt g before) (same it at) was.0) flag reads.1.0 reads.2 asked wrote))

-- ---- where what it brings fits
module _ (language : Language) (known : List Content) (g new : GraphState) (fresh : List (Names × Reading)) (gone : List Names) (rules : List Rule) (fits : AreFitting language known g fresh gone rules) (is : IsSwapped g fresh gone rules new) where
  readings_are : new.readings ≡ fits.readings
  readings_are = finite.same_map by_names-total by_names-antisymmetric new.readings fits.readings (λ dir. is.readings dir ∙ sym (fits.together dir))

  owned_are : (path : Names) → finite.get new.owned path ≡ owned_by (maker path rules) (finite.get g.owned path)
  owned_are path = is.owned path ∙ owned_so rules path (finite.get g.owned path)

  pub owned_if : (path : Names) (found : Option ℕ) → maker path rules ≡ found → finite.get new.owned path ≡ owned_by found (finite.get g.owned path)
  owned_if path found makes = owned_are path ∙ ap (λ (m : Option ℕ). owned_by m (finite.get g.owned path)) makes

  -- the same files are sources
  pub source_stays : (path : Names) → source new path ≡ source g path
  source_stays path =
      ap₂ (λ (o : Option Owned) (s : Option Stamp). cond (is_some o) None s) (owned_are path) (ap (λ (m : finite.FinMap by_names Stamp). finite.get m path) is.seen)
      ∙ by (maker path rules) refl (finite.get g.owned path) refl
    where
      by : (found : Option ℕ) → maker path rules ≡ found → (before : Option Owned) → finite.get g.owned path ≡ before → cond (is_some (owned_by found before)) None (finite.get g.seen path) ≡ source g path
      by (Some number) makes before was = (let here = maker-Some rules path number makes in sym (fits.beside.apart number here.rule path here.here here.writes_it))
      by None makes (Some o) was = sym (ap (λ (before : Option Owned). cond (is_some before) None (finite.get g.seen path)) was)
      by None makes None was = sym (ap (λ (before : Option Owned). cond (is_some before) None (finite.get g.seen path)) was)

  sources_stay : source new ≡ source g
  sources_stay = λ i path. source_stays path i

  -- what was owned is, in the same state
  still_owned : (path : Names) (o : Owned) → finite.get g.owned path ≡ Some o → (now : Owned) × (finite.get new.owned path ≡ Some now) × (now.state ≡ o.state)
  still_owned path o was = by (maker path rules) refl
    where
      by : (found : Option ℕ) → maker path rules ≡ found → (now : Owned) × (finite.get new.owned path ≡ Some now) × (now.state ≡ o.state)
      by (Some number) makes = (record { maker = Some number; state = o.state }, owned_if path (Some number) makes ∙ ap (owned_by (Some number)) was, refl)
      by None makes = (record { maker = None; state = o.state }, owned_if path None makes ∙ ap (owned_by None) was, refl)

  made : (number : ℕ) (rule : Rule) (path : Names) → IsRuleAt new number rule → writes rule path ≡ true → (owned : Owned) × (finite.get new.owned path ≡ Some owned) × (owned.maker ≡ Some number)
  made number rule path at wrote = by (maker path rules) refl
    where
      here : slice_get rules number ≡ Some rule
      here = stood g new fresh gone rules is number rule at

      by : (found : Option ℕ) → maker path rules ≡ found → (owned : Owned) × (finite.get new.owned path ≡ Some owned) × (owned.maker ≡ Some number)
      by (Some other) makes =
          (let it = maker-Some rules path other makes in (
            record { maker = Some other; state = unwrap_or (option_map (λ (owned : Owned). owned.state) (finite.get g.owned path)) Never },
            owned_if path (Some other) makes,
            ap Some (fits.beside.once other number it.rule rule path it.here here it.writes_it wrote),
          ))
      by None makes = absurd (true≢false (sym wrote ∙ maker-None rules path number rule makes here))

  makers : (path : Names) (owned : Owned) (number : ℕ) → finite.get new.owned path ≡ Some owned → owned.maker ≡ Some number → (rule : Rule) × IsRuleAt new number rule × (writes rule path ≡ true)
  makers path owned number own makes_it = by (maker path rules) refl
    where
      made_by : Option Owned → Option (Option ℕ)
      made_by o = option_map (λ (one : Owned). one.maker) o

      its_maker : (found : Option ℕ) → maker path rules ≡ found → Some owned.maker ≡ made_by (owned_by found (finite.get g.owned path))
      its_maker found makes = ap made_by (sym own ∙ owned_if path found makes)

      none_made : (before : Option Owned) → Some owned.maker ≡ made_by (owned_by None before) → ⊥
      none_made (Some o) same = none-some number (sym (same_Some owned.maker None same) ∙ makes_it)
      none_made None same = none-some owned.maker (sym same)

      by : (found : Option ℕ) → maker path rules ≡ found → (rule : Rule) × IsRuleAt new number rule × (writes rule path ≡ true)
      by (Some other) makes =
          (let same : Some other ≡ Some number = sym (same_Some owned.maker (Some other) (its_maker (Some other) makes)) ∙ makes_it in
          let it = maker-Some rules path number (makes ∙ same) in
          (it.rule, stands g new fresh gone rules is number it.rule it.here, it.writes_it))
      by None makes = absurd (none_made (finite.get g.owned path) (its_maker None makes))

  has_reading : (dir : Names) → IsSource (source new) (tupfile dir) → is_some (finite.get new.readings dir) ≡ true
  has_reading dir there = subst (λ (r : Readings). is_some (finite.get r dir) ≡ true) (sym readings_are) (fits.stand.read dir (subst (λ (s : Sources). IsSource s (tupfile dir)) sources_stay there))

  was_told : (dir : Names) (reading : Reading) → finite.get new.readings dir ≡ Some reading → All (λ (one : Question × Noted). IsAnswer known (source new) new.readings dir one.0 one.1) reading.asked
  was_told dir reading here =
      subst (λ (s : Sources × Readings). All (λ (one : Question × Noted). IsAnswer known s.0 s.1 dir one.0 one.1) reading.asked) (λ i. (sym sources_stay i, sym readings_are i))
      (fits.stand.told dir reading (subst (λ (r : Readings). finite.get r dir ≡ Some reading) readings_are here))

  linked : language.linked (finite.entries new.readings) ≡ Some new.rules
  linked = ap (λ (r : Readings). language.linked (finite.entries r)) readings_are ∙ fits.linked ∙ ap Some (sym is.rules_are)

  pub swap_fits : FitsTogether language known new
  swap_fits = record { created = is.created; stand = record { read = has_reading; told = was_told }; owners = record { made = made; makers = makers }; linked = linked }

  -- ---- of a kept graph
  module _ (next : Next) (kept : IsKept next language known g) where
    -- a path that a rule which isn't flagged asked was owned, if it is
    was_owned : (number : ℕ) (rule : Rule) (run : RunRecord) (path : Names) (given : Option Stamp) → IsUnflagged new number rule → finite.get new.runs number ≡ Some run → Asked rule run path given → is_owned new path ≡ true
        → is_owned g path ≡ true
    was_owned number rule run path given unflagged ran asked owned = by (finite.get g.owned path) refl (maker path rules) refl
      where
        makes_here : (other : ℕ) (it : Rule) → slice_get rules other ≡ Some it → writes it path ≡ true → ((before : ℕ) × WasAt g it before) ⊎ IsNew g it → is_owned g path ≡ true
        makes_here other it here wrote (inl (before, was)) = ap is_some (kept.owners.made before it path was.0 wrote).1
        makes_here other it here wrote (inr fresh_one) =
            absurd (true≢false (sym ((is.flags number).1 (inr (zero, (other, it, stands g new fresh gone rules is other it here, fresh_one, (path, (run, given, ran, asked.0), wrote))))) ∙ unflagged.unflagged))

        by : (before : Option Owned) → finite.get g.owned path ≡ before → (found : Option ℕ) → maker path rules ≡ found → is_owned g path ≡ true
        by (Some o) was found makes = ap is_some was
        by None was (Some other) makes =
            (let here = maker-Some rules path other makes in
            makes_here other here.rule here.here here.writes_it (was_or_new g here.rule))
        by None was None makes = absurd (true≢false (sym owned ∙ ap is_some (owned_if path None makes ∙ ap (owned_by None) was)))

    recorded : (number : ℕ) (rule : Rule) → IsUnflagged new number rule → IsSome (finite.get new.runs number)
    recorded number rule unflagged =
        let was = unflagged_before g new fresh gone rules is number rule unflagged in
        subst IsSome (sym (is.kept_runs number was.0 rule unflagged.here was.1)) (kept.recorded was.0 rule (record { here = was.1.0; unflagged = was.2 }))

    stamps : (number : ℕ) (rule : Rule) (run : RunRecord) → IsUnflagged new number rule → finite.get new.runs number ≡ Some run → HasSeenStamps new rule run
    stamps number rule run unflagged ran =
        let was = unflagged_before g new fresh gone rules is number rule unflagged in
        let has = kept.agrees.stamps was.0 rule run (record { here = was.1.0; unflagged = was.2 }) (sym (is.kept_runs number was.0 rule unflagged.here was.1) ∙ ran) in
        record {
          asked = λ path given asked. has.asked path given asked ∙ sym (ap (λ (m : finite.FinMap by_names Stamp). finite.get m path) is.seen);
          wrote = λ at d less.
              (let file = slice_index_or run.writes at d in
              ap (λ (m : finite.FinMap by_names Stamp). finite.get m file.0) is.seen ∙ has.wrote at d less);
        }

    declared : (number : ℕ) (rule : Rule) (run : RunRecord) (path : Names) (given : Option Stamp) → IsUnflagged new number rule → finite.get new.runs number ≡ Some run → Asked rule run path given → is_owned new path ≡ true
        → declares rule path ≡ true
    declared number rule run path given unflagged ran asked owned =
        let was = unflagged_before g new fresh gone rules is number rule unflagged in
        kept.declared was.0 rule run path given (record { here = was.1.0; unflagged = was.2 }) (sym (is.kept_runs number was.0 rule unflagged.here was.1) ∙ ran) asked
        (was_owned number rule run path given unflagged ran asked owned)

    pub swap_keeps : IsKept next language known new
    swap_keeps = record {
      records = record {
        runs = λ number rule run here ran.
            (let was = ran_before g new fresh gone rules is number rule run here ran in kept.records.runs was.0 rule run was.1.0 was.2);
        readings = λ dir reading here. fits.true_ones dir reading (subst (λ (r : Readings). finite.get r dir ≡ Some reading) readings_are here);
      };
      recorded = recorded;
      agrees = record {
        stamps = stamps;
        read = λ dir there unread. has_reading dir there;
        told = λ dir reading here unread. was_told dir reading here;
        upward = swap_upward g new fresh gone rules is kept.agrees.upward;
      };
      declared = declared;
      owners = record { made = made; makers = makers };
      linked = linked;
      written = λ number rule run unflagged ran.
          (let was = unflagged_before g new fresh gone rules is number rule unflagged in
          let all = kept.written was.0 rule run (record { here = was.1.0; unflagged = was.2 }) (sym (is.kept_runs number was.0 rule unflagged.here was.1) ∙ ran) in
          λ at d less.
          let one = all at d less in
          let now = still_owned (slice_index_or run.writes at d).0 one.0 one.1 in
          (now.0, now.1, now.2 ∙ one.2));
    }

-- ---- where nothing is to be read
pub unread_fits : (next : Next) (language : Language) (known : List Content) (g : GraphState) → IsKept next language known g → g.created ≡ finite.empty → FitsTogether language known g
unread_fits next language known g kept none = record {
  created = none;
  stand = record {
    read = λ dir there. kept.agrees.read dir there (unread dir);
    told = λ dir reading here. kept.agrees.told dir reading here (unread dir);
  };
  owners = kept.owners;
  linked = kept.linked;
}
  where
    unread : (dir : Names) → is_created g dir ≡ false
    unread dir = ap (λ (m : finite.FinMap by_names (Unit {0})). finite.contains_key m dir) none ∙ ap is_some (finite.get-empty by_names dir)
