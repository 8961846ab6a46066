-- The graph that a scan leaves.
use Rattle.std.specs.Prelude.{◌≡◌, ◌⊎◌, ◌||◌, ℕ, zero, suc, Bool, true, false, List, [], ◌∷◌, ◌++◌, Option, Some, All, Contains, length, map, filter, not, slice_get}
use Rattle.std.proofs.Common.{refl, sym, ap, subst, ◌∙◌, inl, inr}
use Rattle.std.specs.FinMap as finite
use Rattle.std.specs.Ordering.{eq_by_cmp, nat_cmp}
use Rattle.std.specs.Cmp.{nat_cmp_total}
use Rattle.std.specs.List.{AllByRecursion, list_any}
use Rattle.std.proofs.lemmas.Bool.{or_left, or_right, lt-ltb}
use Rattle.std.proofs.lemmas.List.Elements.{All-from_recursion, All-weaker, All-contains_itself, recursion_from_All}
use Rattle.std.proofs.lemmas.Option.{slice_get_within}
use Rattle.tup_path.specs.Name.{Names, Content}
use Rattle.tup_path.specs.Order.{by_names, by_names-total}
use Rattle.tup_path.proofs.Same.{by_names-decides}
use Rattle.tup_stamp.specs.declared.Stamp.{Stamp}
use Rattle.tup_rule.specs.declared.rule.Rule.{Rule}
use Rattle.tup_table.specs.Entries.{Standing, IsAscending}
use Rattle.tup_graph.specs.declared.edit.Edit.{Edit}
use Rattle.tup_graph.specs.Above.{AboveOver, IsAbove}
use Rattle.tup_graph.specs.Changes.{once_made}
use Rattle.tup_graph.specs.Edits.{change_of, edited_by, HasSpelling, IsTaken}
use Rattle.tup_graph.specs.Graph.{GraphState, is_created, is_flagged, is_rule}
use Rattle.tup_graph.specs.Opening.{IsGraphOf}
use Rattle.tup_graph.specs.Scan.{BeginsAt, IsScanned, IsStale}
use Rattle.tup_graph.specs.Transactions.{seen_so, flag_edits}
use Rattle.tup_graph.proofs.Leading.{edits_read}
use Rattle.tup_graph.proofs.Needed.{needed_read}
use Rattle.tup_closure.specs.Readers.{AreRunsOfRules}
use Rattle.tup_closure.proofs.Members.{in_list, listed, number-decides}
use Rattle.tup_closure.proofs.Stepping.{above_as}
use Rattle.tup_closure.proofs.Stored.{stored}
use Rattle.tup_scan_diff.specs.Edits.{AreScanEdits, BeginsScan, create_edits, modify_edits, is_gone, is_news, not_seen, seen_edits, to_read}
use Rattle.tup_scan_diff.specs.Present.{seeing}
use Rattle.tup_scan_diff.proofs.Editing.{scan_leaves, missing_put, created_after, flags_after, filter_in}

or_cases : (a b : Bool) → (a || b) ≡ true → (a ≡ true) ⊎ (b ≡ true)
or_cases true b e = inl refl
or_cases false b e = inr e

module _ (g : GraphState) (files : List (Names × Stamp)) (config : Option Content) (edits : List Edit) (are : AreScanEdits g files config edits) where
  abbrev stamps : finite.FinMap by_names Stamp
  stamps = finite.from_entries files

  abbrev seen_now : GraphState
  seen_now = seeing g stamps

  abbrev after : GraphState
  after = record g { seen = stamps; created = created_after g stamps are.dirs are.numbers; flags = flags_after g stamps are.dirs are.numbers }

  after_is : edited_by g edits ≡ after
  after_is = ap (edited_by g) are.all ∙ scan_leaves g stamps are.dirs are.numbers

  created : (dir : Names) → is_created after dir ≡ (is_created g dir || list_any (eq_by_cmp by_names dir) are.dirs)
  created dir = missing_put by_names by_names-total by_names-decides g.created are.dirs dir

  flagged : (n : ℕ) → is_flagged after n ≡ (is_flagged g n || list_any (eq_by_cmp nat_cmp n) are.numbers)
  flagged n = missing_put nat_cmp nat_cmp_total number-decides g.flags are.numbers n

  abbrev Root : ℕ → Type 0
  Root = BeginsAt g after

  root_of : (n : ℕ) → BeginsScan g files n → Root n
  root_of n (rule, begins) = begins

  is_rule_at : (n : ℕ) (rule : Rule) → slice_get g.rules n ≡ Some rule → is_rule g n ≡ true
  is_rule_at n rule here = lt-ltb n (length g.rules) (slice_get_within g.rules n rule here)

  found : (reads n : ℕ) → AboveOver reads after Root n → (is_flagged g n ≡ true) ⊎ IsAbove seen_now (BeginsScan g files) n
  found zero n (inl flag) = inl flag
  found zero n (inr (inl touched)) = inr (zero, (is_rule_at n touched.0 touched.2, inr (inl touched)))
  found zero n (inr (inr turned)) = inr (zero, (is_rule_at n turned.0 turned.2, inr (inr turned)))
  found (suc reads) n (before, maker, over, here, read) = inr (further (found reads before over))
    where
      further : (is_flagged g before ≡ true) ⊎ IsAbove seen_now (BeginsScan g files) before → IsAbove seen_now (BeginsScan g files) n
      further (inl flag) = (suc zero, (before, maker, (is_rule_at before maker here, inl flag), here, read))
      further (inr (reads_before, over_before)) = (suc reads_before, (before, maker, over_before, here, read))

  flags_to : (n : ℕ) → is_flagged after n ≡ true → IsAbove after Root n
  flags_to n e = elim (or_cases (is_flagged g n) (list_any (eq_by_cmp nat_cmp n) are.numbers) (sym (flagged n) ∙ e)) [
    | inl flag ↦ (zero, inl flag)
    | inr there ↦ raised ((are.above n).0 (listed nat_cmp number-decides are.numbers n there))
  ]
    where
      raised : IsAbove seen_now (BeginsScan g files) n → IsAbove after Root n
      raised (reads, over) = (reads, above_as seen_now after (BeginsScan g files) Root refl refl root_of reads n over)

  flags_from : (n : ℕ) → IsAbove after Root n → is_flagged after n ≡ true
  flags_from n (reads, over) = flagged n ∙ told (found reads n over)
    where
      told : (is_flagged g n ≡ true) ⊎ IsAbove seen_now (BeginsScan g files) n → (is_flagged g n || list_any (eq_by_cmp nat_cmp n) are.numbers) ≡ true
      told (inl flag) = or_left (is_flagged g n) (list_any (eq_by_cmp nat_cmp n) are.numbers) flag
      told (inr over_it) = or_right (is_flagged g n) (list_any (eq_by_cmp nat_cmp n) are.numbers) (in_list nat_cmp number-decides are.numbers n ((are.above n).1 over_it))

  created_to : (dir : Names) → is_created after dir ≡ true → (is_created g dir ≡ true) ⊎ IsStale after config dir
  created_to dir e = elim (or_cases (is_created g dir) (list_any (eq_by_cmp by_names dir) are.dirs) (sym (created dir) ∙ e)) [
    | inl was ↦ inl was
    | inr there ↦ inr ((are.stale dir).0 (listed by_names by_names-decides are.dirs dir there))
  ]

  created_from : (dir : Names) → (is_created g dir ≡ true) ⊎ IsStale after config dir → is_created after dir ≡ true
  created_from dir (inl was) = created dir ∙ or_left (is_created g dir) (list_any (eq_by_cmp by_names dir) are.dirs) was
  created_from dir (inr stale) = created dir ∙ or_right (is_created g dir) (list_any (eq_by_cmp by_names dir) are.dirs) (in_list by_names by_names-decides are.dirs dir ((are.stale dir).1 stale))

  scanned : IsScanned g files config after
  scanned = record {
    seen = refl;
    readings = refl;
    rules = refl;
    places = refl;
    runs = refl;
    owned = refl;
    created = λ dir. (created_to dir, created_from dir);
    flags = λ n. (flags_to n, flags_from n);
  }

  pub scan_noted : IsScanned g files config (edited_by g edits)
  scan_noted = subst (IsScanned g files config) (sym after_is) scanned

-- ---- a table takes them

above_rules : (g : GraphState) → AreRunsOfRules g → (Root : ℕ → Type 0) → ((n : ℕ) → Root n → is_rule g n ≡ true) → (reads n : ℕ) → AboveOver reads g Root n → is_rule g n ≡ true
above_rules g runs Root roots zero n root = roots n root
above_rules g runs Root roots (suc reads) n (before, maker, over, here, (path, (run, given, ran, asked), wrote)) = runs n run ran

module _ (g : GraphState) where
  all_both : (P : Edit → Type 0) (xs ys : List Edit) → AllByRecursion P xs → AllByRecursion P ys → AllByRecursion P (xs ++ ys)
  all_both P [] ys front rest = rest
  all_both P (x ∷ xs) ys front rest = (front.0, all_both P xs ys front.1 rest)

  all_front : (P : Edit → Type 0) (xs ys : List Edit) → AllByRecursion P (xs ++ ys) → AllByRecursion P xs
  all_front P [] ys all = tt
  all_front P (x ∷ xs) ys all = (all.0, all_front P xs ys all.1)

  all_rest : (P : Edit → Type 0) (xs ys : List Edit) → AllByRecursion P (xs ++ ys) → AllByRecursion P ys
  all_rest P [] ys all = all
  all_rest P (x ∷ xs) ys all = all_rest P xs ys all.1

  seen_taken : (files : List (Names × Stamp)) → AllByRecursion HasSpelling (map seen_so files) → AllByRecursion (IsTaken g) (map seen_so files)
  seen_taken [] spelled = tt
  seen_taken (file ∷ files) spelled = ((tt, spelled.0, refl), seen_taken files spelled.1)

  gone_taken : (files : List (Names × Stamp)) → AllByRecursion HasSpelling (map not_seen files) → AllByRecursion (IsTaken g) (map not_seen files)
  gone_taken [] spelled = tt
  gone_taken (file ∷ files) spelled = ((tt, spelled.0), gone_taken files spelled.1)

  create_taken : (dirs : List Names) → AllByRecursion HasSpelling (map to_read dirs) → AllByRecursion (IsTaken g) (map to_read dirs)
  create_taken [] spelled = tt
  create_taken (dir ∷ dirs) spelled = ((tt, spelled.0, refl), create_taken dirs spelled.1)

  flag_taken : (numbers : List ℕ) → AllByRecursion (λ number. is_rule g number ≡ true) numbers → AllByRecursion HasSpelling (flag_edits numbers) → AllByRecursion (IsTaken g) (flag_edits numbers)
  flag_taken [] named spelled = tt
  flag_taken (number ∷ numbers) named spelled = ((tt, spelled.0, named.0), flag_taken numbers named.1 spelled.1)

  -- edits of four kinds, one behind the other
  scan_taken : (news gone : List (Names × Stamp)) (dirs : List Names) (numbers : List ℕ) → AllByRecursion (λ number. is_rule g number ≡ true) numbers
      → AllByRecursion HasSpelling ((map seen_so news ++ map not_seen gone) ++ map to_read dirs ++ flag_edits numbers)
      → AllByRecursion (IsTaken g) ((map seen_so news ++ map not_seen gone) ++ map to_read dirs ++ flag_edits numbers)
  scan_taken news gone dirs numbers named spelled =
      let front = all_front HasSpelling ((map seen_so news ++ map not_seen gone) ++ map to_read dirs) (flag_edits numbers) spelled in
      let seen = all_front HasSpelling (map seen_so news ++ map not_seen gone) (map to_read dirs) front in
      all_both (IsTaken g) ((map seen_so news ++ map not_seen gone) ++ map to_read dirs) (flag_edits numbers)
      (all_both (IsTaken g) (map seen_so news ++ map not_seen gone) (map to_read dirs)
      (all_both (IsTaken g) (map seen_so news) (map not_seen gone)
      (seen_taken news (all_front HasSpelling (map seen_so news) (map not_seen gone) seen)) (gone_taken gone (all_rest HasSpelling (map seen_so news) (map not_seen gone) seen)))
      (create_taken dirs (all_rest HasSpelling (map seen_so news ++ map not_seen gone) (map to_read dirs) front)))
      (flag_taken numbers named (all_rest HasSpelling ((map seen_so news ++ map not_seen gone) ++ map to_read dirs) (flag_edits numbers) spelled))

module _ (entries : Standing) (g : GraphState) (files : List (Names × Stamp)) (config : Option Content) (edits : List Edit) (is : IsGraphOf entries g) (are : AreScanEdits g files config edits) where
  abbrev found_now : GraphState
  found_now = seeing g (finite.from_entries files)

  abbrev whole : List Edit
  whole = seen_edits g (finite.from_entries files) ++ create_edits g are.dirs ++ modify_edits g are.numbers

  abbrev unflagged : ℕ → Bool
  unflagged number = not (is_flagged g number)

  raised : (n : ℕ) → IsAbove found_now (BeginsScan g files) n → is_rule g n ≡ true
  raised n (reads, over) = above_rules found_now (stored entries g is) (BeginsScan g files) (λ m root. root.0) reads n over

  named : (n : ℕ) → Contains (filter unflagged are.numbers) n → is_rule g n ≡ true
  named n h = raised n ((are.above n).0 (filter_in unflagged are.numbers n h).0)

  all_named : AllByRecursion (λ number. is_rule g number ≡ true) (filter unflagged are.numbers)
  all_named = recursion_from_All (λ number. is_rule g number ≡ true) (filter unflagged are.numbers)
      (All-weaker (Contains (filter unflagged are.numbers)) (λ number. is_rule g number ≡ true) named (filter unflagged are.numbers) (All-contains_itself (filter unflagged are.numbers)))

  taken : All HasSpelling edits → All (IsTaken g) edits
  taken spelled = subst (All (IsTaken g)) (sym are.all) (All-from_recursion (IsTaken g) whole
      (scan_taken g (filter (is_news g) (finite.entries (finite.from_entries {R = by_names} files))) (filter (is_gone (finite.from_entries files)) (finite.entries g.seen))
      (filter (λ dir. not (is_created g dir)) are.dirs) (filter unflagged are.numbers) all_named (recursion_from_All HasSpelling whole (subst (All HasSpelling) are.all spelled))))

  pub scan_read : (origin : ℕ) → IsAscending entries → All HasSpelling edits → IsGraphOf (once_made origin entries edits) (edited_by g edits)
  scan_read origin up spelled = needed_read entries (map change_of edits) origin (edited_by g edits) up (edits_read entries g edits origin up is (taken spelled))
