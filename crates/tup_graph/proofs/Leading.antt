-- What edits leave of the entries of a table, read again.
use Rattle.std.proofs.Common.{◌≡◌, ◌≢◌, ℕ, true, cond, ltb, List, [], ◌∷◌, ◌++◌, length, map, None, Some, All, refl, sym, ap, subst, ◌∙◌, arith}
use Rattle.std.specs.declared.cmp.Ordering.{Ordering}
use Rattle.std.specs.declared.cmp.Ordering.TheVariants.{Less, Equal, Greater}
use Rattle.std.specs.Ordering.{match_ordering, is_eq}
use Rattle.std.specs.BTreeMap.{insert_entry, is_at}
use Rattle.std.specs.Map.{remove_entry}
use Rattle.std.specs.List.{AllByRecursion}
use Rattle.std.specs.Cmp.{nat_cmp_total}
use Rattle.std.specs.Cmp.Lexicographic.{nat_list_cmp_total}
use Rattle.std.specs.FinMap.{nat_cmp-IsAntisymmetric}
use Rattle.std.proofs.lemmas.Cmp.{tied_itself}
use Rattle.std.proofs.lemmas.List.Elements.{recursion_from_All}
use Rattle.tup_path.specs.Order.{by_bytes, by_names-total, by_names-antisymmetric}
use Rattle.tup_rule.specs.declared.rule.Rule.{Rule as RuleValue}
use Rattle.tup_field.specs.Parts.{number}
use Rattle.tup_field.specs.Values.{path}
use Rattle.tup_record.specs.declared.record.Record.{Record}
use Rattle.tup_record.specs.declared.record.Record.TheVariants.{Seen, Reading, Rule, Run, Owned, Create, Modify}
use Rattle.tup_record.specs.Spelling.{Fits, key_of, value_of}
use Rattle.tup_table.specs.declared.entry.Entry.{Entry}
use Rattle.tup_table.specs.Entries.{Standing, IsAscending, changed, committed}
use Rattle.tup_table.proofs.Keys.{changed_ascending}
use Rattle.tup_graph.specs.declared.edit.Edit.{Edit}
use Rattle.tup_graph.specs.declared.edit.Edit.TheVariants.{Put, Remove}
use Rattle.tup_graph.specs.Graph.{GraphState, empty_graph, is_rule}
use Rattle.tup_graph.specs.Opening.{fits, put, Takes, Leads, IsGraphOf}
use Rattle.tup_graph.specs.Edits.{without, edited, edited_by, change_of, IsBesideRules, IsTaken}
use Rattle.tup_graph.proofs.Maps.{remove-empty, by_bytes-antisymmetric}
use Rattle.tup_graph.proofs.Marks.{mark_of, one_mark, fits_by}
use Rattle.tup_graph.proofs.Slots.{record_of, away, over, same_rules}

-- the keys of entries all differ from a key, or all come after it
abbrev AreOthers : List ℕ → Standing → Type 0
AreOthers k es = AllByRecursion (λ (x : List ℕ × Entry). k ≢ x.0) es

abbrev pub ComeAfter : List ℕ → Standing → Type 0
ComeAfter k es = AllByRecursion (λ (x : List ℕ × Entry). by_bytes k x.0 ≡ Less) es

pub less_differs : (k x : List ℕ) → by_bytes k x ≡ Less → k ≢ x
less_differs k x less same = absurd (let no : Less ≡ Equal = sym (subst (λ (t : List ℕ). by_bytes k t ≡ Less) (sym same) less) ∙ tied_itself nat_list_cmp_total k in cc)

after_others : (k : List ℕ) (es : Standing) → ComeAfter k es → AreOthers k es
after_others k [] after = tt
after_others k (x ∷ es) after = (less_differs k x.0 after.0, after_others k es after.1)

after_both : (k first : List ℕ) (es : Standing) → by_bytes k first ≡ Less → ComeAfter first es → ComeAfter k es
after_both k first [] less after = tt
after_both k first (x ∷ es) less after = (nat_list_cmp_total.trans k first x.0 less after.0, after_both k first es less after.1)

-- ---- an edit and entries under other keys
edit_fits : (e : Edit) → IsBesideRules (record_of e) → (g : GraphState) (r : Record) → fits (edited g e) r ≡ fits g r
edit_fits e beside g r = let same = same_rules g e beside in fits_by (edited g e) g same.0 same.1 r

still_takes : (e : Edit) → IsBesideRules (record_of e) → (g : GraphState) (x : List ℕ × Entry) (r : Record) → Takes g x r → Takes (edited g e) x r
still_takes e beside g x r takes = (takes.0, edit_fits e beside g r ∙ takes.1)

later : (e : Edit) → IsBesideRules (record_of e) → (g end : GraphState) (es : Standing) → AreOthers (key_of (record_of e)) es → Leads g es end → Leads (edited g e) es (edited end e)
later e beside g end [] others lead = ap (λ (h : GraphState). edited h e) lead
later e beside g end (x ∷ es) others lead =
    let r = lead.0 in
    let takes : Takes g x r = lead.1 in
    let differ : key_of (record_of e) ≢ key_of r = λ same. others.0 (same ∙ sym takes.0.1) in
    (r, still_takes e beside g x r takes, subst (λ (h : GraphState). Leads h es (edited end e)) (away g e r beside differ) (later e beside (put g r) end es others.1 lead.2))

-- ---- a record that is put where it belongs
-- no rule comes behind a record that names a rule, since the byte of its kind is greater
rules_stay : (k : List ℕ) → ((rest : List ℕ) → by_bytes k (3 ∷ rest) ≡ Less → ⊥) → (g end : GraphState) (es : Standing) → ComeAfter k es → Leads g es end → end.rules ≡ g.rules
rules_stay k never g end [] after lead = ap (λ (h : GraphState). h.rules) lead
rules_stay k never g end (x ∷ es) after lead = rules_stay k never (put g lead.0) end es after.1 lead.2 ∙ one lead.0 lead.1.0.1
  where
    one : (r : Record) → x.0 ≡ key_of r → (put g r).rules ≡ g.rules
    one (Rule n place a) key = absurd (never (number.spelling n) (subst (λ (t : List ℕ). by_bytes k t ≡ Less) key after.0))
    one (Seen p a) key = refl
    one (Reading p a) key = refl
    one (Run n a) key = refl
    one (Owned p maker state) key = refl
    one (Create p) key = refl
    one (Modify n) key = refl

behind_4 : (s rest : List ℕ) → by_bytes (4 ∷ s) (3 ∷ rest) ≡ Less → ⊥
behind_4 s rest less = let wrong : Greater ≡ Less = less in cc

behind_5 : (s rest : List ℕ) → by_bytes (5 ∷ s) (3 ∷ rest) ≡ Less → ⊥
behind_5 s rest less = let wrong : Greater ≡ Less = less in cc

behind_7 : (s rest : List ℕ) → by_bytes (7 ∷ s) (3 ∷ rest) ≡ Less → ⊥
behind_7 s rest less = let wrong : Greater ≡ Less = less in cc

named_before : (n : ℕ) (g end : GraphState) → end.rules ≡ g.rules → is_rule end n ≡ true → is_rule g n ≡ true
named_before n g end same named = subst (λ (rules : List RuleValue). ltb n (length rules) ≡ true) same named

fits_before : (r : Record) → IsBesideRules r → (g end : GraphState) (es : Standing) → ComeAfter (key_of r) es → Leads g es end → fits end r ≡ true → fits g r ≡ true
fits_before (Seen p a) beside g end es after lead fit = refl
fits_before (Reading p a) beside g end es after lead fit = refl
fits_before (Rule n place a) beside g end es after lead fit = absurd beside
fits_before (Run n a) beside g end es after lead fit = named_before n g end (rules_stay (4 ∷ number.spelling n) (behind_4 (number.spelling n)) g end es after lead) fit
fits_before (Owned p None state) beside g end es after lead fit = refl
fits_before (Owned p (Some n) state) beside g end es after lead fit = named_before n g end (rules_stay (5 ∷ path.spelling p) (behind_5 (path.spelling p)) g end es after lead) fit
fits_before (Create p) beside g end es after lead fit = refl
fits_before (Modify n) beside g end es after lead fit = named_before n g end (rules_stay (7 ∷ number.spelling n) (behind_7 (number.spelling n)) g end es after lead) fit

not_a_rule : (r : Record) → IsBesideRules r → mark_of r ≡ 3 → ⊥
not_a_rule (Rule n place a) beside e = beside
not_a_rule r beside e = omega (arith, e)

beside_too : (s r : Record) → IsBesideRules r → key_of r ≡ key_of s → IsBesideRules s
beside_too (Rule n place a) r beside same = absurd (not_a_rule r beside (one_mark r (Rule n place a) same))
beside_too s r beside same = tt

-- a record in the place of another one fits where that stood
fits_over : (g end : GraphState) (es : Standing) (r s : Record) → IsBesideRules r → key_of r ≡ key_of s → ComeAfter (key_of r) es → Leads (put g s) es end → fits end r ≡ true → fits g r ≡ true
fits_over g end es r s beside same after lead fit =
    sym (edit_fits (Put s) (beside_too s r beside same) g r) ∙ fits_before r beside (put g s) end es after lead fit

module _ (r : Record) (beside : IsBesideRules r) (spelled : Fits r) (origin : ℕ) where
  abbrev stands : Entry
  stands = record { value = value_of r; origin = origin }

  puts : (g end : GraphState) (es : Standing) → IsAscending es → Leads g es end → fits end r ≡ true → Leads g (insert_entry by_bytes es (key_of r) stands) (put end r)
  puts g end [] up lead fit = (r, ((spelled, refl, refl), subst (λ (h : GraphState). fits h r ≡ true) lead fit), ap (λ (h : GraphState). put h r) lead)
  puts g end (x ∷ es) up lead fit =
      let s = lead.0 in
      let takes : Takes g x s = lead.1 in
      (elim (by_bytes (key_of r) x.0) as (λ o. by_bytes (key_of r) x.0 ≡ o
      → Leads g (match_ordering o ((key_of r, stands) ∷ x ∷ es) ((x.0, stands) ∷ es) (x ∷ insert_entry by_bytes es (key_of r) stands)) (put end r)) [
        | Less ↦ λ less.
            let after : ComeAfter (key_of r) (x ∷ es) = (less, after_both (key_of r) x.0 es less up.0) in
            (r, ((spelled, refl, refl), fits_before r beside g end (x ∷ es) after lead fit), later (Put r) beside g end (x ∷ es) (after_others (key_of r) (x ∷ es) after) lead)
        | Equal ↦ λ tied.
            let same : key_of r ≡ x.0 = by_bytes-antisymmetric (key_of r) x.0 tied in
            let after : ComeAfter (key_of r) es = subst (λ (t : List ℕ). ComeAfter t es) (sym same) up.0 in
            let behind : Leads (put (put g s) r) es (put end r) = later (Put r) beside (put g s) end es (after_others (key_of r) es after) lead.2 in
            let now : Leads (put g r) es (put end r) = subst (λ (h : GraphState). Leads h es (put end r)) (over g (Put r) s beside spelled.0 takes.0.0.0 (same ∙ takes.0.1)) behind in
            (r, ((spelled, sym same, refl), fits_over g end es r s beside (same ∙ takes.0.1) after lead.2 fit), now)
        | Greater ↦ λ greater. (s, takes, puts (put g s) end es up.1 lead.2 fit)
      ]) refl

unequal : (k x : List ℕ) (o : Ordering) → by_bytes k x ≡ o → (o ≡ Equal → ⊥) → k ≢ x
unequal k x o is never same = never (sym is ∙ subst (λ (t : List ℕ). by_bytes k t ≡ Equal) same (tied_itself nat_list_cmp_total k))

module _ (r : Record) (beside : IsBesideRules r) (spelled : Fits r) where
  removes : (g end : GraphState) (es : Standing) → IsAscending es → Leads g es end → Leads (without g r) (remove_entry (is_at (by_bytes (key_of r))) es) (without end r)
  removes g end [] up lead = ap (λ (h : GraphState). without h r) lead
  removes g end (x ∷ es) up lead =
      let s = lead.0 in
      let takes : Takes g x s = lead.1 in
      let stays : (key_of r ≢ x.0) → Leads (without g r) (x ∷ remove_entry (is_at (by_bytes (key_of r))) es) (without end r) =
      λ differ. (
        s,
        still_takes (Remove r) beside g x s takes,
        subst (λ (h : GraphState). Leads h (remove_entry (is_at (by_bytes (key_of r))) es) (without end r))
            (away g (Remove r) s beside (λ same. differ (same ∙ sym takes.0.1))) (removes (put g s) end es up.1 lead.2),
      ) in
      (elim (by_bytes (key_of r) x.0) as (λ o. by_bytes (key_of r) x.0 ≡ o → Leads (without g r) (cond (is_eq o) es (x ∷ remove_entry (is_at (by_bytes (key_of r))) es)) (without end r)) [
        | Less ↦ λ o. stays (unequal (key_of r) x.0 Less o (λ e. cc))
        | Equal ↦ λ tied.
            let same : key_of r ≡ x.0 = by_bytes-antisymmetric (key_of r) x.0 tied in
            let after : ComeAfter (key_of r) es = subst (λ (t : List ℕ). ComeAfter t es) (sym same) up.0 in
            subst (λ (h : GraphState). Leads h es (without end r)) (over g (Remove r) s beside spelled.0 takes.0.0.0 (same ∙ takes.0.1))
            (later (Remove r) beside (put g s) end es (after_others (key_of r) es after) lead.2)
        | Greater ↦ λ o. stays (unequal (key_of r) x.0 Greater o (λ e. cc))
      ]) refl

-- ---- a whole table
none_left : (r : Record) → IsBesideRules r → without empty_graph r ≡ empty_graph
none_left (Seen p a) beside = ap (λ m. record empty_graph { seen = m }) (remove-empty by_names-total by_names-antisymmetric p)
none_left (Reading p a) beside = ap (λ m. record empty_graph { readings = m }) (remove-empty by_names-total by_names-antisymmetric p)
none_left (Rule n place a) beside = absurd beside
none_left (Run n a) beside = ap (λ m. record empty_graph { runs = m }) (remove-empty nat_cmp_total nat_cmp-IsAntisymmetric n)
none_left (Owned p maker state) beside = ap (λ m. record empty_graph { owned = m }) (remove-empty by_names-total by_names-antisymmetric p)
none_left (Create p) beside = ap (λ m. record empty_graph { created = m }) (remove-empty by_names-total by_names-antisymmetric p)
none_left (Modify n) beside = ap (λ m. record empty_graph { flags = m }) (remove-empty nat_cmp_total nat_cmp-IsAntisymmetric n)

pub one_edit : (origin : ℕ) (e : Edit) (es : Standing) (g : GraphState) → IsAscending es → IsGraphOf es g → IsTaken g e → IsGraphOf (changed origin es (change_of e)) (edited g e)
one_edit origin (Put r) es g up is taken = puts r taken.0 taken.1 origin empty_graph g es up is taken.2
one_edit origin (Remove r) es g up is taken =
    subst (λ (h : GraphState). Leads h (remove_entry (is_at (by_bytes (key_of r))) es) (without g r)) (none_left r taken.0) (removes r taken.0 taken.1 empty_graph g es up is)

pub beside_of : (g : GraphState) (e : Edit) → IsTaken g e → IsBesideRules (record_of e)
beside_of g (Put r) taken = taken.0
beside_of g (Remove r) taken = taken.0

taken_after : (g : GraphState) (e f : Edit) → IsBesideRules (record_of e) → IsTaken g f → IsTaken (edited g e) f
taken_after g e (Put r) beside taken = (taken.0, taken.1, edit_fits e beside g r ∙ taken.2)
taken_after g e (Remove r) beside taken = taken

pub all_after : (g : GraphState) (e : Edit) (edits : List Edit) → IsBesideRules (record_of e) → AllByRecursion (IsTaken g) edits → AllByRecursion (IsTaken (edited g e)) edits
all_after g e [] beside all = tt
all_after g e (f ∷ edits) beside all = (taken_after g e f beside all.0, all_after g e edits beside all.1)

edits_in_turn : (origin : ℕ) (edits : List Edit) (es : Standing) (g : GraphState) → IsAscending es → IsGraphOf es g → AllByRecursion (IsTaken g) edits
    → IsGraphOf (committed origin es (map change_of edits)) (edited_by g edits)
edits_in_turn origin [] es g up is all = is
edits_in_turn origin (e ∷ edits) es g up is all =
    edits_in_turn origin edits (changed origin es (change_of e)) (edited g e) (changed_ascending origin es (change_of e) up) (one_edit origin e es g up is all.0)
    (all_after g e edits (beside_of g e all.0) all.1)

pub edits_read : (entries : Standing) (g : GraphState) (edits : List Edit) (origin : ℕ) → IsAscending entries → IsGraphOf entries g → All (IsTaken g) edits
    → IsGraphOf (committed origin entries (map change_of edits)) (edited_by g edits)
edits_read entries g edits origin up is all = edits_in_turn origin edits entries g up is (recursion_from_All (IsTaken g) edits all)

-- ---- one record more at the end
pub leads_more : (g mid : GraphState) (es : Standing) (x : List ℕ × Entry) (r : Record) → Leads g es mid → Takes mid x r → Leads g (es ++ x ∷ []) (put mid r)
leads_more g mid [] x r lead takes = (r, subst (λ (h : GraphState). Takes h x r) lead takes, ap (λ (h : GraphState). put h r) lead)
leads_more g mid (y ∷ es) x r lead takes = (lead.0, lead.1, leads_more (put g lead.0) mid es x r lead.2 takes)
