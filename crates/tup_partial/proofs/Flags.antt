-- A graph that entries stand for has flags of rules alone.
use Rattle.std.proofs.Common.{◌≡◌, ℕ, ◌<◌, Bool, true, false, cond, is_some, [], ◌∷◌, ◌++◌, length, Some, refl, sym, ap, subst, ◌∙◌, arith, length-append}
use Rattle.std.specs.Cmp.{nat_cmp_total}
use Rattle.std.specs.FinMap as finite
use Rattle.std.specs.FinMap.{nat_cmp-IsAntisymmetric}
use Rattle.std.specs.Ordering.{nat_cmp, eq_by_cmp}
use Rattle.std.proofs.lemmas.Bool.{lt-ltb, ltb-true}
use Rattle.tup_record.specs.declared.record.Record.{Record}
use Rattle.tup_record.specs.declared.record.Record.TheVariants as records
use Rattle.tup_table.specs.Entries.{Standing}
use Rattle.tup_graph.specs.Graph.{GraphState, empty_graph, is_rule}
use Rattle.tup_graph.specs.Opening.{fits, put, Leads, IsGraphOf}
use Rattle.tup_graph.proofs.Maps.{equal_of}
use Rattle.tup_partial.specs.Plan.{AreFlagsOfRules}

-- what a flag is
abbrev mark : Unit {0}
mark = tt

one_put : (g : GraphState) (r : Record) → fits g r ≡ true → AreFlagsOfRules g → AreFlagsOfRules (put g r)
one_put g (records.Seen path stamp) fit so = so
one_put g (records.Reading dir reading) fit so = so
one_put g (records.Rule number place rule) fit so = λ n here.
    let less : n < length g.rules = ltb-true n (length g.rules) (so n here) in
    let more = length-append g.rules (rule ∷ []) in
    lt-ltb n (length (g.rules ++ rule ∷ [])) (omega arith)
one_put g (records.Run number run) fit so = so
one_put g (records.Owned path maker state) fit so = so
one_put g (records.Create dir) fit so = so
one_put g (records.Modify number) fit so = λ n here. by n (eq_by_cmp nat_cmp n number) refl (sym (ap is_some (finite.get-insert nat_cmp_total g.flags number mark n)) ∙ here)
  where
    by : (n : ℕ) (b : Bool) → eq_by_cmp nat_cmp n number ≡ b → is_some (cond b (Some mark) (finite.get g.flags n)) ≡ true → is_rule g n ≡ true
    by n true same here = subst (λ (m : ℕ). is_rule g m ≡ true) (sym (nat_cmp-IsAntisymmetric n number (equal_of (nat_cmp n number) same))) fit
    by n false other here = so n here

leads : (entries : Standing) (g h : GraphState) → Leads g entries h → AreFlagsOfRules g → AreFlagsOfRules h
leads [] g h end so = subst AreFlagsOfRules (sym end) so
leads (entry ∷ entries) g h (r, takes, more) so = leads entries (put g r) h more (one_put g r takes.1 so)

pub stored : (entries : Standing) (g : GraphState) → IsGraphOf entries g → AreFlagsOfRules g
stored entries g is = leads entries empty_graph g is (λ n here. (let none : false ≡ true = sym (ap is_some (finite.get-empty {X = Unit {0}} nat_cmp n)) ∙ here in absurd (cc)))
