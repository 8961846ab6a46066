-- The last rule goes, or one comes behind it, in a table that stands for a graph of files, readings and rules alone.
use Rattle.std.proofs.Common.{◌≡◌, ◌<◌, ◌≤◌, ◌^◌, ℕ, suc, Bool, true, false, cond, ◌&&◌, List, [], ◌∷◌, ◌++◌, length, take, None, Some, refl, sym, ap, subst, ◌∙◌, length-append, arith}
use Rattle.std.specs.declared.cmp.Ordering.{Ordering}
use Rattle.std.specs.declared.cmp.Ordering.TheVariants.{Less, Equal, Greater}
use Rattle.std.specs.Ordering.{nat_cmp, match_ordering, MatchOrdering, is_eq}
use Rattle.std.specs.BTreeMap.{insert_entry, is_at}
use Rattle.std.specs.Map.{remove_entry}
use Rattle.std.specs.List.{AllByRecursion}
use Rattle.std.specs.Cmp.{IsTotalOrder, nat_cmp_total, ranks}
use Rattle.std.specs.Cmp.Lexicographic.{nat_list_cmp_total}
use Rattle.std.specs.FinMap as finite
use Rattle.std.proofs.Math.Seq.{take-append_seam}
use Rattle.std.proofs.lemmas.Bool.{eqb-true}
use Rattle.std.proofs.lemmas.Cmp.{tied_itself}
use Rattle.tup_path.specs.Order.{by_bytes, by_names-total}
use Rattle.tup_rule.specs.declared.rule.Rule.{Rule as RuleValue}
use Rattle.tup_field.specs.Parts.{number}
use Rattle.tup_record.specs.declared.record.Record.{Record}
use Rattle.tup_record.specs.declared.record.Record.TheVariants.{Seen, Reading, Rule, Run, Owned, Create, Modify}
use Rattle.tup_record.specs.Spelling.{Fits, key_of, value_of}
use Rattle.tup_table.specs.declared.entry.Entry.{Entry}
use Rattle.tup_table.specs.Entries.{Standing, IsAscending}
use Rattle.tup_graph.specs.Graph.{GraphState, empty_graph}
use Rattle.tup_graph.specs.Opening.{fits, put, comes_behind, last_of, Takes, Leads, IsGraphOf}
use Rattle.tup_graph.specs.Edits.{with_first, IsBare}
use Rattle.tup_graph.proofs.Leading.{leads_more}
use Rattle.tup_graph.proofs.Numbers.{number_behind}

-- ---- such a graph has taken no other record
abbrev IsPlain : Record → Type 0
IsPlain (Seen p a) = Unit {0}
IsPlain (Reading p a) = Unit {0}
IsPlain (Rule n place a) = Unit {0}
IsPlain (Run n a) = ⊥
IsPlain (Owned p maker state) = ⊥
IsPlain (Create p) = ⊥
IsPlain (Modify n) = ⊥

full : {K X : Type 0} {R : K → K → Ordering} (o : IsTotalOrder R) (m : finite.FinMap R X) (k : K) (v : X) → finite.insert m k v ≡ finite.empty → ⊥
full {X = X} {R = R} o m k v none =
    let there : finite.get (finite.insert m k v) k ≡ Some v = finite.get-insert o m k v k ∙ ap (λ (r : Ordering). cond (is_eq r) (Some v) (finite.get m k)) (tied_itself o k) in
    absurd (let wrong : Some v ≡ None = sym there ∙ ap (λ (t : finite.FinMap R X). finite.get t k) none ∙ finite.get-empty R k in cc)

bare_before : (g : GraphState) (s : Record) → IsBare (put g s) → IsPlain s × IsBare g
bare_before g (Seen p a) bare = (tt, record { runs = bare.runs; owned = bare.owned; created = bare.created; flags = bare.flags })
bare_before g (Reading p a) bare = (tt, record { runs = bare.runs; owned = bare.owned; created = bare.created; flags = bare.flags })
bare_before g (Rule n place a) bare = (tt, record { runs = bare.runs; owned = bare.owned; created = bare.created; flags = bare.flags })
bare_before g (Run n a) bare = absurd (full nat_cmp_total g.runs n a bare.runs)
bare_before g (Owned p maker state) bare = absurd (full by_names-total g.owned p (record { maker = maker; state = state }) bare.owned)
bare_before g (Create p) bare = absurd (full by_names-total g.created p tt bare.created)
bare_before g (Modify n) bare = absurd (full nat_cmp_total g.flags n tt bare.flags)

bare_led : (g end : GraphState) (es : Standing) → Leads g es end → IsBare end → IsBare g
bare_led g end [] lead bare = subst IsBare lead bare
bare_led g end (x ∷ es) lead bare = (bare_before g lead.0 (bare_led (put g lead.0) end es lead.2 bare)).1

plain_first : (g end : GraphState) (x : List ℕ × Entry) (es : Standing) (lead : Leads g (x ∷ es) end) → IsBare end → IsPlain lead.0
plain_first g end x es lead bare = (bare_before g lead.0 (bare_led (put g lead.0) end es lead.2 bare)).0

-- ---- rules are never fewer
left_true : (a b : Bool) → (a && b) ≡ true → a ≡ true
left_true true b both = refl
left_true false b both = both

numbered : (g : GraphState) (n place : ℕ) (a : RuleValue) → fits g (Rule n place a) ≡ true → n ≡ length g.rules
numbered g n place a fit = eqb-true n (length g.rules) (left_true _ (comes_behind (last_of g.rules) (last_of g.places) a place) fit)

one_grown : (g : GraphState) (s : Record) → length g.rules ≤ length (put g s).rules
one_grown g (Seen p a) = omega arith
one_grown g (Reading p a) = omega arith
one_grown g (Rule n place a) = omega (arith, length-append g.rules (a ∷ []))
one_grown g (Run n a) = omega arith
one_grown g (Owned p maker state) = omega arith
one_grown g (Create p) = omega arith
one_grown g (Modify n) = omega arith

grown : (g end : GraphState) (es : Standing) → Leads g es end → length g.rules ≤ length end.rules
grown g end [] lead = subst (λ (h : GraphState). length g.rules ≤ length h.rules) (sym lead) (omega arith)
grown g end (x ∷ es) lead = omega (arith, one_grown g lead.0, grown (put g lead.0) end es lead.2)

-- ---- the key of a rule comes behind those of all records before it
abbrev key : ℕ → List ℕ
key n = 3 ∷ number.spelling n

abbrev AreBefore : ℕ → Standing → Type 0
AreBefore n es = AllByRecursion (λ (x : List ℕ × Entry). by_bytes (key n) x.0 ≡ Greater) es

key_behind : (n : ℕ) → n < 2 ^ 32 → (g end : GraphState) (s : Record) → IsPlain s → fits g s ≡ true → length (put g s).rules ≤ n → by_bytes (key n) (key_of s) ≡ Greater
key_behind n small g end (Seen p a) plain fit few = refl
key_behind n small g end (Reading p a) plain fit few = refl
key_behind n small g end (Rule m place a) plain fit few = number_behind m n (omega (arith, numbered g m place a fit, length-append g.rules (a ∷ []))) small
key_behind n small g end (Run m a) plain fit few = absurd plain
key_behind n small g end (Owned p maker state) plain fit few = absurd plain
key_behind n small g end (Create p) plain fit few = absurd plain
key_behind n small g end (Modify m) plain fit few = absurd plain

all_before : (n : ℕ) → n < 2 ^ 32 → (g end : GraphState) (es : Standing) → Leads g es end → IsBare end → length end.rules ≤ n → AreBefore n es
all_before n small g end [] lead bare few = tt
all_before n small g end (x ∷ es) lead bare few = (
  subst (λ (k : List ℕ). by_bytes (key n) k ≡ Greater) (sym lead.1.0.1)
      (key_behind n small g end lead.0 (plain_first g end x es lead bare) lead.1.1 (omega (arith, grown (put g lead.0) end es lead.2))),
  all_before n small (put g lead.0) end es lead.2 bare few,
)

-- ---- one rule more
put_last : (n : ℕ) (e : Entry) (es : Standing) → AreBefore n es → insert_entry by_bytes es (key n) e ≡ es ++ (key n, e) ∷ []
put_last n e [] before = refl
put_last n e (x ∷ es) before =
    ap (λ (o : Ordering). match_ordering o ((key n, e) ∷ x ∷ es) ((x.0, e) ∷ es) (x ∷ insert_entry by_bytes es (key n) e)) before.0
    ∙ ap (λ (t : Standing). x ∷ t) (put_last n e es before.1)

pub rule_more : (es : Standing) (g : GraphState) (n place origin : ℕ) (a : RuleValue) → IsGraphOf es g → IsBare g → Fits (Rule n place a) → fits g (Rule n place a) ≡ true
    → IsGraphOf (insert_entry by_bytes es (key n) (record { value = value_of (Rule n place a); origin = origin })) (put g (Rule n place a))
rule_more es g n place origin a is bare spelled fit =
    subst (λ (t : Standing). Leads empty_graph t (put g (Rule n place a)))
    (sym (put_last n (record { value = value_of (Rule n place a); origin = origin }) es (all_before n spelled.0 empty_graph g es is bare (omega (arith, numbered g n place a fit)))))
    (leads_more empty_graph g es (key n, record { value = value_of (Rule n place a); origin = origin }) (Rule n place a) is ((spelled, refl, refl), fit))

-- ---- one rule less
-- behind the last rule stands nothing
nothing_behind : (n : ℕ) (g end : GraphState) (x : List ℕ × Entry) (es : Standing) → Leads g (x ∷ es) end → IsBare end → length end.rules ≡ length g.rules → by_bytes (key n) x.0 ≡ Less → ⊥
nothing_behind n g end x es lead bare same less = by lead.0 (plain_first g end x es lead bare) lead.1.0.1 (grown (put g lead.0) end es lead.2)
  where
    by : (s : Record) → IsPlain s → x.0 ≡ key_of s → length (put g s).rules ≤ length end.rules → ⊥
    by (Seen p a) plain is more = absurd (let wrong : Greater ≡ Less = subst (λ (k : List ℕ). by_bytes (key n) k ≡ Less) is less in cc)
    by (Reading p a) plain is more = absurd (let wrong : Greater ≡ Less = subst (λ (k : List ℕ). by_bytes (key n) k ≡ Less) is less in cc)
    by (Rule m place a) plain is more = omega (arith, length-append g.rules (a ∷ []), same)
    by (Run m a) plain is more = plain
    by (Owned p maker state) plain is more = plain
    by (Create p) plain is more = plain
    by (Modify m) plain is more = plain

cut : (g : GraphState) (n place : ℕ) (a : RuleValue) → n ≡ length g.rules → length g.places ≡ length g.rules → with_first (put g (Rule n place a)) n ≡ g
cut g n place a is level =
    ap (λ (t : List RuleValue × List ℕ). record g { rules = t.0; places = t.1 })
    (λ i. (
      (ap (λ (k : ℕ). take k (g.rules ++ a ∷ [])) is ∙ take-append_seam g.rules (a ∷ [])) i,
      (ap (λ (k : ℕ). take k (g.places ++ place ∷ [])) (is ∙ sym level) ∙ take-append_seam g.places (place ∷ [])) i,
    ))

-- the entry of the last rule is taken away
last_here : (g end : GraphState) (n place : ℕ) (a : RuleValue) (x : List ℕ × Entry) (es : Standing) → AllByRecursion (λ (later : List ℕ × Entry). by_bytes x.0 later.0 ≡ Less) es → x.0 ≡ key n
    → n ≡ length g.rules → length g.places ≡ length g.rules → Leads (put g (Rule n place a)) es end → IsBare end → length end.rules ≡ suc n → Leads g es (with_first end n)
last_here g end n place a x [] up is count level lead bare many = ap (λ (h : GraphState). with_first h n) lead ∙ cut g n place a count level
last_here g end n place a x (y ∷ es) up is count level lead bare many =
    absurd (nothing_behind n (put g (Rule n place a)) end y es lead bare (omega (arith, length-append g.rules (a ∷ []), count, many))
    (subst (λ (k : List ℕ). by_bytes k y.0 ≡ Less) is up.0))

level_after : (g : GraphState) (s : Record) → length g.places ≡ length g.rules → length (put g s).places ≡ length (put g s).rules
level_after g (Seen p a) level = level
level_after g (Reading p a) level = level
level_after g (Rule n place a) level = omega (arith, length-append g.rules (a ∷ []), length-append g.places (place ∷ []), level)
level_after g (Run n a) level = level
level_after g (Owned p maker state) level = level
level_after g (Create p) level = level
level_after g (Modify n) level = level

module _ (n : ℕ) (small : n < 2 ^ 32) where
  abbrev without_key : Standing → Standing
  without_key es = remove_entry (is_at (by_bytes (key n))) es

  one_away : (x : List ℕ × Entry) (es : Standing) (o : Ordering) → by_bytes (key n) x.0 ≡ o → without_key (x ∷ es) ≡ cond (is_eq o) es (x ∷ without_key es)
  one_away x es o is = ap (λ (r : Ordering). cond (is_eq r) es (x ∷ without_key es)) is

  -- entries behind one, without that of the last rule
  abbrev Behind : GraphState → GraphState → Standing → Type 0
  Behind g end es = (s : Record) → Leads (put g s) es end → length (put g s).rules ≤ n → Leads (put g s) (without_key es) (with_first end n)

  last_gone : (g end : GraphState) (es : Standing) → IsAscending es → Leads g es end → IsBare end → length end.rules ≡ suc n → length g.rules ≤ n → length g.places ≡ length g.rules
      → Leads g (without_key es) (with_first end n)
  last_gone g end [] up lead bare many few level = absurd (omega (arith, ap (λ (h : GraphState). length h.rules) lead, many, few))
  last_gone g end (x ∷ es) up lead bare many few level =
      by (λ s rest still. last_gone (put g s) end es up.1 rest bare many still (level_after g s level)) lead.0 (plain_first g end x es lead bare) lead.1 lead.2
    where
      on : Behind g end es → (s : Record) → Takes g x s → Leads (put g s) es end → length (put g s).rules ≤ n → IsPlain s → Leads g (without_key (x ∷ es)) (with_first end n)
      on next s takes rest still plain =
          subst (λ (t : Standing). Leads g t (with_first end n))
          (sym (one_away x es Greater (subst (λ (k : List ℕ). by_bytes (key n) k ≡ Greater) (sym takes.0.1) (key_behind n small g end s plain takes.1 still))))
          (s, takes, next s rest still)

      at : Behind g end es → (m place : ℕ) (a : RuleValue) → Takes g x (Rule m place a) → Leads (put g (Rule m place a)) es end → (o : Ordering) → MatchOrdering o (m < n) (m ≡ n) (n < m)
          → Leads g (without_key (x ∷ es)) (with_first end n)
      at next m place a takes rest Less less = on next (Rule m place a) takes rest (omega (arith, numbered g m place a takes.1, length-append g.rules (a ∷ []))) tt
      at next m place a takes rest Equal same =
          let is : x.0 ≡ key n = takes.0.1 ∙ ap key same in
          let there : Leads (put g (Rule n place a)) es end = subst (λ (k : ℕ). Leads (put g (Rule k place a)) es end) same rest in
          subst (λ (t : Standing). Leads g t (with_first end n))
          (sym (one_away x es Equal (subst (λ (k : List ℕ). by_bytes (key n) k ≡ Equal) (sym is) (tied_itself nat_list_cmp_total (key n)))))
          (last_here g end n place a x es up.0 is (sym same ∙ numbered g m place a takes.1) level there bare many)
      at next m place a takes rest Greater more = absurd (omega (arith, numbered g m place a takes.1, few, more))

      by : Behind g end es → (s : Record) → IsPlain s → Takes g x s → Leads (put g s) es end → Leads g (without_key (x ∷ es)) (with_first end n)
      by next (Seen p a) plain takes rest = on next (Seen p a) takes rest few tt
      by next (Reading p a) plain takes rest = on next (Reading p a) takes rest few tt
      by next (Rule m place a) plain takes rest = at next m place a takes rest (nat_cmp m n) (ranks m n)
      by next (Run m a) plain takes rest = absurd plain
      by next (Owned p maker state) plain takes rest = absurd plain
      by next (Create p) plain takes rest = absurd plain
      by next (Modify m) plain takes rest = absurd plain

pub rule_less : (es : Standing) (g : GraphState) (n place : ℕ) (a : RuleValue) → IsAscending es → IsGraphOf es g → IsBare g → Fits (Rule n place a) → length g.rules ≡ suc n
    → IsGraphOf (remove_entry (is_at (by_bytes (key n))) es) (with_first g n)
rule_less es g n place a up is bare spelled many = last_gone n spelled.0 empty_graph g es up is bare many (omega arith) refl

-- ---- each rule has a place
level_led : (g end : GraphState) (es : Standing) → Leads g es end → length g.places ≡ length g.rules → length end.places ≡ length end.rules
level_led g end [] lead level = subst (λ (h : GraphState). length h.places ≡ length h.rules) (sym lead) level
level_led g end (x ∷ es) lead level = level_led (put g lead.0) end es lead.2 (level_after g lead.0 level)

pub level_of : (es : Standing) (g : GraphState) → IsGraphOf es g → length g.places ≡ length g.rules
level_of es g is = level_led empty_graph g es is refl
