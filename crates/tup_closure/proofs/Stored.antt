-- A graph that entries stand for has runs of rules alone.
use Rattle.std.specs.Prelude.{◌≡◌, ℕ, ◌<◌, Bool, true, false, cond, [], ◌∷◌, ◌++◌, length, None, Some}
use Rattle.std.proofs.Common.{refl, sym, subst, ◌∙◌, arith, length-append}
use Rattle.std.specs.Ordering.{nat_cmp, eq_by_cmp}
use Rattle.std.specs.Cmp.{nat_cmp_total}
use Rattle.std.specs.FinMap as finite
use Rattle.std.proofs.lemmas.Bool.{lt-ltb, ltb-true}
use Rattle.tup_record.specs.declared.record.Record.{Record}
use Rattle.tup_record.specs.declared.record.Record.TheVariants as records
use Rattle.tup_record.specs.declared.run.RunRecord.{RunRecord}
use Rattle.tup_table.specs.Entries.{Standing}
use Rattle.tup_graph.specs.Graph.{GraphState, empty_graph, is_rule}
use Rattle.tup_graph.specs.Opening.{fits, put, Leads, IsGraphOf}
use Rattle.tup_closure.specs.Readers.{AreRunsOfRules}
use Rattle.tup_closure.proofs.Members.{number-decides}

one_put : (g : GraphState) (r : Record) → fits g r ≡ true → AreRunsOfRules g → AreRunsOfRules (put g r)
one_put g (records.Seen path stamp) fit so = so
one_put g (records.Reading dir reading) fit so = so
one_put g (records.Rule number place rule) fit so = λ n run here.
    let less : n < length g.rules = ltb-true n (length g.rules) (so n run here) in
    let more = length-append g.rules (rule ∷ []) in
    lt-ltb n (length (g.rules ++ rule ∷ [])) (omega arith)
one_put g (records.Run number run) fit so = λ n other here. case n other (eq_by_cmp nat_cmp n number) refl (sym (finite.get-insert nat_cmp_total g.runs number run n) ∙ here)
  where
    case : (n : ℕ) (other : RunRecord) (b : Bool) → eq_by_cmp nat_cmp n number ≡ b → cond b (Some run) (finite.get g.runs n) ≡ Some other → is_rule g n ≡ true
    case n other true e here = subst (λ m. is_rule g m ≡ true) (sym ((number-decides n number).0 e)) fit
    case n other false e here = so n other here
one_put g (records.Owned path maker state) fit so = so
one_put g (records.Create dir) fit so = so
one_put g (records.Modify number) fit so = so

leads : (entries : Standing) (g h : GraphState) → Leads g entries h → AreRunsOfRules g → AreRunsOfRules h
leads [] g h end so = subst AreRunsOfRules (sym end) so
leads (entry ∷ entries) g h (r, takes, more) so = leads entries (put g r) h more (one_put g r takes.1 so)

pub stored : (entries : Standing) (g : GraphState) → IsGraphOf entries g → AreRunsOfRules g
stored entries g is = leads entries empty_graph g is (λ n run here. let none = finite.get-empty {X = RunRecord} nat_cmp n in let e : None ≡ Some run = sym none ∙ here in absurd (cc))
