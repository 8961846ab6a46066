-- What a table that took the changes of a transaction stands for.
use Rattle.std.proofs.Common.{◌≡◌, ℕ, Bool, true, false, cond, ltb, List, [], ◌∷◌, ◌++◌, length, map, Option, None, Some, All, refl, sym, ap, subst, ◌∙◌, length-append, arith}
use Rattle.std.specs.List.{AllByRecursion, filter_map, cons_option}
use Rattle.std.specs.Option.{option_map}
use Rattle.std.specs.FinMap as finite
use Rattle.std.specs.Ordering.{eq_by_cmp}
use Rattle.std.proofs.lemmas.Bool.{ltb-true, lt-ltb}
use Rattle.std.proofs.lemmas.List.Elements.{recursion_from_All, All-from_recursion}
use Rattle.tup_path.specs.Name.{Names}
use Rattle.tup_path.specs.Order.{by_names, by_names-total}
use Rattle.tup_stamp.specs.declared.Stamp.{Stamp}
use Rattle.tup_rule.specs.declared.rule.Rule.{Rule as RuleValue}
use Rattle.tup_record.specs.declared.owned.OwnedState.{OwnedState}
use Rattle.tup_record.specs.declared.owned.OwnedState.TheVariants.{Unsure, Written}
use Rattle.tup_record.specs.declared.record.Record.{Record}
use Rattle.tup_record.specs.declared.record.Record.TheVariants.{Seen, Reading, Rule, Run, Owned, Create, Modify}
use Rattle.tup_record.specs.declared.run.RunRecord.{RunRecord}
use Rattle.tup_table.specs.Entries.{Standing, IsAscending, committed}
use Rattle.tup_graph.specs.declared.edit.Edit.{Edit}
use Rattle.tup_graph.specs.declared.edit.Edit.TheVariants.{Put, Remove}
use Rattle.tup_graph.specs.declared.owned.Owned.{Owned as OwnedValue}
use Rattle.tup_graph.specs.Changes.{needed}
use Rattle.tup_graph.specs.Edits.{edited_by, change_of, IsTaken, HasSpelling}
use Rattle.tup_graph.specs.Graph.{GraphState, empty_graph, is_rule, outputs_of}
use Rattle.tup_graph.specs.Opening.{fits, put, Leads, IsGraphOf}
use Rattle.tup_graph.specs.Transactions.{maker_of, own, begin_edits, written, seen_so, finish_edits, doomed, doom_edits, disowned, unseen, forget_edits, flag_edits, begun, finished, with_doomed, with_forgotten, with_flagged}
use Rattle.tup_graph.proofs.Leading.{edits_read}
use Rattle.tup_graph.proofs.Needed.{needed_read}
use Rattle.tup_graph.proofs.Rows.{begin_leaves, finish_leaves, doom_leaves, forget_leaves, flag_leaves}

-- ---- makers are rules
abbrev InRange : GraphState → Type 0
InRange g = (path : Names) (o : OwnedValue) (n : ℕ) → finite.get g.owned path ≡ Some o → o.maker ≡ Some n → is_rule g n ≡ true

none_yet : InRange empty_graph
none_yet path o n is by = absurd (let wrong : None ≡ Some o = sym (finite.get-empty by_names path) ∙ is in cc)

one_rule_more : (n : ℕ) (rules : List RuleValue) (rule : RuleValue) → ltb n (length rules) ≡ true → ltb n (length (rules ++ rule ∷ [])) ≡ true
one_rule_more n rules rule is = lt-ltb n (length (rules ++ rule ∷ [])) (omega (arith, ltb-true n (length rules) is, length-append rules (rule ∷ [])))

range_kept : (g : GraphState) (r : Record) → fits g r ≡ true → InRange g → InRange (put g r)
range_kept g (Rule number place rule) fit range path o n is by = one_rule_more n g.rules rule (range path o n is by)
range_kept g (Owned p maker state) fit range path o n is by = here (eq_by_cmp by_names path p) refl
  where
    one : OwnedValue
    one = record { maker = maker; state = state }

    found : cond (eq_by_cmp by_names path p) (Some (record { maker = maker; state = state })) (finite.get g.owned path) ≡ Some o
    found = sym (finite.get-insert by_names-total g.owned p (record { maker = maker; state = state }) path) ∙ is

    of_maker : (m : Option ℕ) → maker ≡ m → m ≡ Some n → is_rule g n ≡ true
    of_maker None e same = cc
    of_maker (Some m) e same = subst (λ (k : ℕ). is_rule g k ≡ true) (let one : m ≡ n = cc in one) (subst (λ (x : Option ℕ). fits g (Owned p x state) ≡ true) e fit)

    here : (b : Bool) → eq_by_cmp by_names path p ≡ b → is_rule g n ≡ true
    here true at =
        let same : ◌≡◌ {A = Option OwnedValue} (Some (record { maker = maker; state = state })) (Some o) = sym (ap (λ (b : Bool). cond b (Some (record { maker = maker; state = state })) (finite.get g.owned path)) at) ∙ found in
        let is_o : ◌≡◌ {A = OwnedValue} (record { maker = maker; state = state }) o = cc in
        of_maker maker refl (ap (λ (x : OwnedValue). x.maker) is_o ∙ by)
    here false at = range path o n (sym (ap (λ (b : Bool). cond b (Some (record { maker = maker; state = state })) (finite.get g.owned path)) at) ∙ found) by
range_kept g (Seen p s) fit range path o n is by = range path o n is by
range_kept g (Reading dir r) fit range path o n is by = range path o n is by
range_kept g (Run number run) fit range path o n is by = range path o n is by
range_kept g (Create dir) fit range path o n is by = range path o n is by
range_kept g (Modify number) fit range path o n is by = range path o n is by

range_led : (g end : GraphState) (es : Standing) → InRange g → Leads g es end → InRange end
range_led g end [] range lead = subst InRange (sym lead) range
range_led g end (x ∷ es) range lead = range_led (put g lead.0) end es (range_kept g lead.0 lead.1.1 range) lead.2

pub in_range : (entries : Standing) (g : GraphState) → IsGraphOf entries g → InRange g
in_range entries g is = range_led empty_graph g entries none_yet is

-- ---- the edits of each transaction are taken
module _ (g : GraphState) (range : InRange g) where
  made_fits : (path : Names) (maker : Option ℕ) (state : OwnedState) → ((n : ℕ) → maker ≡ Some n → is_rule g n ≡ true) → fits g (Owned path maker state) ≡ true
  made_fits path None state named = refl
  made_fits path (Some n) state named = named n refl

  owner_fits : (path : Names) (o : OwnedValue) (state : OwnedState) → finite.get g.owned path ≡ Some o → fits g (Owned path o.maker state) ≡ true
  owner_fits path o state is = made_fits path o.maker state (λ n by. range path o n is by)

  own_fits : (number : ℕ) → is_rule g number ≡ true → (state : OwnedState) (path : Names) → fits g (Owned path (maker_of g number path) state) ≡ true
  own_fits number named state path = by (finite.get g.owned path) refl
    where
      by : (found : Option OwnedValue) → finite.get g.owned path ≡ found → fits g (Owned path (elim found [ Some owned ↦ owned.maker | None ↦ Some number ]) state) ≡ true
      by (Some o) is = owner_fits path o state is
      by None is = named

  begin_taken : (number : ℕ) → is_rule g number ≡ true → (paths : List Names) → AllByRecursion HasSpelling (map (own g number Unsure) paths) → AllByRecursion (IsTaken g) (map (own g number Unsure) paths)
  begin_taken number named [] spelled = tt
  begin_taken number named (path ∷ paths) spelled = ((tt, spelled.0, own_fits number named Unsure path), begin_taken number named paths spelled.1)

  doom_taken : (paths : List Names) → AllByRecursion HasSpelling (filter_map (doomed g) paths) → AllByRecursion (IsTaken g) (filter_map (doomed g) paths)
  doom_taken [] spelled = tt
  doom_taken (path ∷ paths) spelled = by (finite.get g.owned path) refl spelled (doom_taken paths)
    where
      by : (found : Option OwnedValue) → finite.get g.owned path ≡ found
          → AllByRecursion HasSpelling (cons_option (option_map (λ (owned : OwnedValue). Put (Owned path owned.maker Unsure)) found) (filter_map (doomed g) paths))
          → (AllByRecursion HasSpelling (filter_map (doomed g) paths) → AllByRecursion (IsTaken g) (filter_map (doomed g) paths))
          → AllByRecursion (IsTaken g) (cons_option (option_map (λ (owned : OwnedValue). Put (Owned path owned.maker Unsure)) found) (filter_map (doomed g) paths))
      by (Some o) is spelled more = ((tt, spelled.0, owner_fits path o Unsure is), more spelled.1)
      by None is spelled more = more spelled

  flag_taken : (numbers : List ℕ) → AllByRecursion (λ number. is_rule g number ≡ true) numbers → AllByRecursion HasSpelling (flag_edits numbers) → AllByRecursion (IsTaken g) (flag_edits numbers)
  flag_taken [] named spelled = tt
  flag_taken (number ∷ numbers) named spelled = ((tt, spelled.0, named.0), flag_taken numbers named.1 spelled.1)

  written_taken : (number : ℕ) → is_rule g number ≡ true → (files : List (Names × Stamp)) → AllByRecursion HasSpelling (map (written g number) files) → AllByRecursion (IsTaken g) (map (written g number) files)
  written_taken number named [] spelled = tt
  written_taken number named (file ∷ files) spelled = ((tt, spelled.0, own_fits number named (Written file.1) file.0), written_taken number named files spelled.1)

  seen_taken : (files : List (Names × Stamp)) → AllByRecursion HasSpelling (map seen_so files) → AllByRecursion (IsTaken g) (map seen_so files)
  seen_taken [] spelled = tt
  seen_taken (file ∷ files) spelled = ((tt, spelled.0, refl), seen_taken files spelled.1)

  disowned_taken : (paths : List Names) → AllByRecursion HasSpelling (filter_map (disowned g) paths) → AllByRecursion (IsTaken g) (filter_map (disowned g) paths)
  disowned_taken [] spelled = tt
  disowned_taken (path ∷ paths) spelled = by (finite.get g.owned path) spelled (disowned_taken paths)
    where
      by : (found : Option OwnedValue) → AllByRecursion HasSpelling (cons_option (option_map (λ (owned : OwnedValue). Remove (Owned path owned.maker owned.state)) found) (filter_map (disowned g) paths))
          → (AllByRecursion HasSpelling (filter_map (disowned g) paths) → AllByRecursion (IsTaken g) (filter_map (disowned g) paths))
          → AllByRecursion (IsTaken g) (cons_option (option_map (λ (owned : OwnedValue). Remove (Owned path owned.maker owned.state)) found) (filter_map (disowned g) paths))
      by (Some o) spelled more = ((tt, spelled.0), more spelled.1)
      by None spelled more = more spelled

  unseen_taken : (paths : List Names) → AllByRecursion HasSpelling (filter_map (unseen g) paths) → AllByRecursion (IsTaken g) (filter_map (unseen g) paths)
  unseen_taken [] spelled = tt
  unseen_taken (path ∷ paths) spelled = by (finite.get g.seen path) spelled (unseen_taken paths)
    where
      by : (found : Option Stamp) → AllByRecursion HasSpelling (cons_option (option_map (λ (stamp : Stamp). Remove (Seen path stamp)) found) (filter_map (unseen g) paths))
          → (AllByRecursion HasSpelling (filter_map (unseen g) paths) → AllByRecursion (IsTaken g) (filter_map (unseen g) paths))
          → AllByRecursion (IsTaken g) (cons_option (option_map (λ (stamp : Stamp). Remove (Seen path stamp)) found) (filter_map (unseen g) paths))
      by (Some stamp) spelled more = ((tt, spelled.0), more spelled.1)
      by None spelled more = more spelled

-- ---- what is committed
all_front : (P : Edit → Type 0) (xs ys : List Edit) → AllByRecursion P (xs ++ ys) → AllByRecursion P xs
all_front P [] ys all = tt
all_front P (x ∷ xs) ys all = (all.0, all_front P xs ys all.1)

all_rest : (P : Edit → Type 0) (xs ys : List Edit) → AllByRecursion P (xs ++ ys) → AllByRecursion P ys
all_rest P [] ys all = all
all_rest P (x ∷ xs) ys all = all_rest P xs ys all.1

all_both : (P : Edit → Type 0) (xs ys : List Edit) → AllByRecursion P xs → AllByRecursion P ys → AllByRecursion P (xs ++ ys)
all_both P [] ys front rest = rest
all_both P (x ∷ xs) ys front rest = (front.0, all_both P xs ys front.1 rest)

module _ (entries : Standing) (g : GraphState) (origin : ℕ) (up : IsAscending entries) (is : IsGraphOf entries g) where
  range : InRange g
  range = in_range entries g is

  commits : (edits : List Edit) (leaves : GraphState) → AllByRecursion (IsTaken g) edits → edited_by g edits ≡ leaves → IsGraphOf (committed origin entries (needed entries (map change_of edits))) leaves
  commits edits leaves taken left =
      subst (IsGraphOf (committed origin entries (needed entries (map change_of edits)))) left
      (needed_read entries (map change_of edits) origin (edited_by g edits) up (edits_read entries g edits origin up is (All-from_recursion (IsTaken g) edits taken)))

  pub begin_commits : (rule : ℕ) → is_rule g rule ≡ true → All HasSpelling (begin_edits g rule) → IsGraphOf (committed origin entries (needed entries (map change_of (begin_edits g rule)))) (begun g rule)
  begin_commits rule named spelled =
      commits (begin_edits g rule) (begun g rule) (begin_taken g range rule named (outputs_of g rule) (recursion_from_All HasSpelling (begin_edits g rule) spelled)) (begin_leaves g rule)

  pub finish_commits : (rule : ℕ) (run : RunRecord) → is_rule g rule ≡ true → All HasSpelling (finish_edits g rule run)
      → IsGraphOf (committed origin entries (needed entries (map change_of (finish_edits g rule run)))) (finished g rule run)
  finish_commits rule run named spelled =
      let owned = map (written g rule) run.writes in
      let seen = map seen_so run.writes in
      let last = Put (Run rule run) ∷ Remove (Modify rule) ∷ [] in
      let all = recursion_from_All HasSpelling (finish_edits g rule run) spelled in
      let front = all_front HasSpelling (owned ++ seen) last all in
      let rest = all_rest HasSpelling (owned ++ seen) last all in
      commits (finish_edits g rule run) (finished g rule run)
      (all_both (IsTaken g) (owned ++ seen) last
      (all_both (IsTaken g) owned seen (written_taken g range rule named run.writes (all_front HasSpelling owned seen front)) (seen_taken g range run.writes (all_rest HasSpelling owned seen front)))
      ((tt, rest.0, named), ((tt, rest.1.0), tt))) (finish_leaves g rule run)

  pub doom_commits : (paths : List Names) → All HasSpelling (doom_edits g paths) → IsGraphOf (committed origin entries (needed entries (map change_of (doom_edits g paths)))) (with_doomed g paths)
  doom_commits paths spelled =
      commits (doom_edits g paths) (with_doomed g paths) (doom_taken g range paths (recursion_from_All HasSpelling (doom_edits g paths) spelled)) (doom_leaves g paths)

  pub forget_commits : (paths : List Names) → All HasSpelling (forget_edits g paths) → IsGraphOf (committed origin entries (needed entries (map change_of (forget_edits g paths)))) (with_forgotten g paths)
  forget_commits paths spelled =
      let gone = filter_map (disowned g) paths in
      let lost = filter_map (unseen g) paths in
      let all = recursion_from_All HasSpelling (forget_edits g paths) spelled in
      commits (forget_edits g paths) (with_forgotten g paths)
      (all_both (IsTaken g) gone lost (disowned_taken g range paths (all_front HasSpelling gone lost all)) (unseen_taken g range paths (all_rest HasSpelling gone lost all))) (forget_leaves g paths)

  pub flag_commits : (rules : List ℕ) → All (λ rule. is_rule g rule ≡ true) rules → All HasSpelling (flag_edits rules) → IsGraphOf (committed origin entries (needed entries (map change_of (flag_edits rules)))) (with_flagged g rules)
  flag_commits rules named spelled =
      commits (flag_edits rules) (with_flagged g rules)
      (flag_taken g range rules (recursion_from_All (λ rule. is_rule g rule ≡ true) rules named) (recursion_from_All HasSpelling (flag_edits rules) spelled)) (flag_leaves g rules)
