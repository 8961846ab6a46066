-- Entries stand for one graph at most, and for none where they are broken.
use Rattle.std.proofs.Common.{◌≡◌, ℕ, List, [], ◌∷◌, ◌++◌, sym, subst, ◌∙◌, arith}
use Rattle.tup_field.specs.Parts.{number, ◌&◌, option}
use Rattle.tup_field.specs.PartsLaws.{number-exact, pair-exact, option-exact}
use Rattle.tup_field.specs.Rules.{rule, reading}
use Rattle.tup_field.specs.RulesLaws.{rule-exact, reading-exact}
use Rattle.tup_field.specs.Values.{stamp}
use Rattle.tup_field.specs.ValuesLaws.{stamp-exact}
use Rattle.tup_record.specs.declared.record.Record.{Record}
use Rattle.tup_record.specs.declared.record.Record.TheVariants.{Seen, Reading, Rule, Run, Owned, Create, Modify}
use Rattle.tup_record.specs.Fields.{run, state}
use Rattle.tup_record.specs.FieldLaws.{run-exact, state-exact}
use Rattle.tup_record.specs.Spelling.{Fits, IsSpelled, key_of, value_of}
use Rattle.tup_table.specs.Entries.{Standing}
use Rattle.tup_graph.specs.Graph.{GraphState, empty_graph}
use Rattle.tup_graph.specs.Opening.{put, Leads, IsGraphOf, IsBroken}
use Rattle.tup_graph.proofs.Marks.{one_value, one_mark, one_path, one_number}

-- two records with one spelling are one
one_record : (r s : Record) → Fits r → Fits s → key_of r ≡ key_of s → value_of r ≡ value_of s → r ≡ s
one_record (Seen p a) (Seen q b) fr fs key value =
    let one = one_path 1 p q fr.0 fs.0 key in
    let two = one_value stamp stamp-exact a b fr.1 fs.1 value in
    λ i. Seen (one i) (two i)
one_record (Seen p a) s fr fs key value = absurd (omega (arith, one_mark (Seen p a) s key))
one_record (Reading p a) (Reading q b) fr fs key value =
    let one = one_path 2 p q fr.0 fs.0 key in
    let two = one_value reading reading-exact a b fr.1 fs.1 value in
    λ i. Reading (one i) (two i)
one_record (Reading p a) s fr fs key value = absurd (omega (arith, one_mark (Reading p a) s key))
one_record (Rule n place a) (Rule m other b) fr fs key value =
    let one = one_number 3 n m fr.0 fs.0 key in
    let two = one_value (number & rule) (pair-exact number rule number-exact rule-exact) (place, a) (other, b) fr.1 fs.1 value in
    λ i. Rule (one i) (two i).0 (two i).1
one_record (Rule n place a) s fr fs key value = absurd (omega (arith, one_mark (Rule n place a) s key))
one_record (Run n a) (Run m b) fr fs key value =
    let one = one_number 4 n m fr.0 fs.0 key in
    let two = one_value run run-exact a b fr.1 fs.1 value in
    λ i. Run (one i) (two i)
one_record (Run n a) s fr fs key value = absurd (omega (arith, one_mark (Run n a) s key))
one_record (Owned p maker status) (Owned q other as_well) fr fs key value =
    let one = one_path 5 p q fr.0 fs.0 key in
    let two = one_value (option number & state) (pair-exact (option number) state (option-exact number number-exact) state-exact) (maker, status) (other, as_well) fr.1 fs.1 value in
    λ i. Owned (one i) (two i).0 (two i).1
one_record (Owned p maker status) s fr fs key value = absurd (omega (arith, one_mark (Owned p maker status) s key))
one_record (Create p) (Create q) fr fs key value = let one = one_path 6 p q fr.0 fs.0 key in λ i. Create (one i)
one_record (Create p) s fr fs key value = absurd (omega (arith, one_mark (Create p) s key))
one_record (Modify n) (Modify m) fr fs key value = let one = one_number 7 n m fr.0 fs.0 key in λ i. Modify (one i)
one_record (Modify n) s fr fs key value = absurd (omega (arith, one_mark (Modify n) s key))

one_spelled : (key value : List ℕ) (r s : Record) → IsSpelled key value r → IsSpelled key value s → r ≡ s
one_spelled key value r s is other = one_record r s is.0 other.0 (sym is.1 ∙ other.1) (sym is.2 ∙ other.2)

one_end : (g h k : GraphState) (es : Standing) → Leads g es h → Leads g es k → h ≡ k
one_end g h k [] lead other = lead ∙ sym other
one_end g h k (e ∷ es) lead other =
    let same : other.0 ≡ lead.0 = one_spelled e.0 e.1.value other.0 lead.0 other.1.0 lead.1.0 in
    one_end (put g lead.0) h k es lead.2 (subst (λ (r : Record). Leads (put g r) es k) same other.2)

pub one_graph : (entries : Standing) (g h : GraphState) → IsGraphOf entries g → IsGraphOf entries h → g ≡ h
one_graph entries g h is other = one_end empty_graph g h entries is other

-- what leads on from the graph of a front
led_on : (g mid end : GraphState) (front rest : Standing) → Leads g front mid → Leads g (front ++ rest) end → Leads mid rest end
led_on g mid end [] rest lead whole = subst (λ (m : GraphState). Leads m rest end) (sym lead) whole
led_on g mid end (e ∷ front) rest lead whole =
    let same : whole.0 ≡ lead.0 = one_spelled e.0 e.1.value whole.0 lead.0 whole.1.0 lead.1.0 in
    led_on (put g lead.0) mid end front rest lead.2 (subst (λ (r : Record). Leads (put g r) (front ++ rest) end) same whole.2)

pub not_broken : (entries : Standing) (g : GraphState) (offset : ℕ) → IsGraphOf entries g → IsBroken entries offset → ⊥
not_broken entries g offset is broken =
    let on = led_on empty_graph broken.graph g broken.front (broken.entry ∷ broken.rest) broken.before (subst (λ (es : Standing). IsGraphOf es g) broken.whole is) in
    broken.refused on.0 on.1
