-- What the edits of a swap leave of a graph, one kind after another.
use Rattle.std.specs.Prelude.{◌≡◌, ℕ, zero, suc, Bool, true, false, cond, not, List, [], ◌∷◌, ◌++◌, Option, None, Some, fold, filter, map, filter_map, is_some, length, take, option_map, slice_get, if◌then◌else◌}
use Rattle.std.proofs.Common.{refl, sym, ap, ◌∙◌, append_assoc, arith}
use Rattle.std.specs.Ordering.{nat_cmp}
use Rattle.std.specs.Cmp.{nat_cmp_total}
use Rattle.std.specs.List.{cons_option}
use Rattle.std.specs.FinMap as finite
use Rattle.std.specs.FinMap.{nat_cmp-IsAntisymmetric}
use Rattle.std.proofs.lemmas.List.{append-nil}
use Rattle.std.proofs.lemmas.List.Sums.{fold-append}
use Rattle.tup_path.specs.Name.{Names}
use Rattle.tup_path.specs.Order.{by_names, by_names-total, by_names-antisymmetric}
use Rattle.tup_path.proofs.Same.{by_names-decides}
use Rattle.tup_rule.specs.declared.question.Reading.{Reading}
use Rattle.tup_rule.specs.declared.rule.Rule.{Rule}
use Rattle.tup_record.specs.declared.record.Record.TheVariants as records
use Rattle.tup_record.specs.declared.run.RunRecord.{RunRecord}
use Rattle.tup_graph.specs.declared.edit.Edit.{Edit}
use Rattle.tup_graph.specs.declared.edit.Edit.TheVariants.{Put, Remove}
use Rattle.tup_graph.specs.declared.owned.Owned.{Owned}
use Rattle.tup_graph.specs.Edits.{edited, edited_by}
use Rattle.tup_graph.specs.Graph.{GraphState, empty_graph}
use Rattle.tup_graph.specs.Transactions.{flag_edits}
use Rattle.tup_graph.proofs.Maps.{remove-absent}
use Rattle.tup_graph.proofs.Rows.{Lacks, lacks_more}
use Rattle.tup_closure.proofs.Members.{number-decides}
use Rattle.tup_rule_diff.specs.Edits.{unflag, uncreate, unrun, unrun_edits, clear_edits, goes, unread, read_so, reading_edits, less_edits, rule_less, more_edits, rule_more, place_behind, run_so, own_so, led_by}
use Rattle.tup_rule_diff.proofs.Puts.{put_one, take_one, all_taken, all_put, find_passed, get_taken, put_anew}

abbrev pub Runs : Type 0
Runs = finite.FinMap nat_cmp RunRecord

abbrev pub Owners : Type 0
Owners = finite.FinMap by_names Owned

abbrev pub Readings : Type 0
Readings = finite.FinMap by_names Reading

-- ---- two lists of edits, one behind the other
pub both : (g h k : GraphState) (xs ys : List Edit) → edited_by g xs ≡ h → edited_by h ys ≡ k → edited_by g (xs ++ ys) ≡ k
both g h k xs ys one two = fold-append edited g xs ys ∙ ap (λ (l : GraphState). edited_by l ys) one ∙ two

-- ---- what is taken away
abbrev flags_taken : finite.FinMap nat_cmp (Unit {0}) → List (ℕ × Unit {0}) → finite.FinMap nat_cmp (Unit {0})
flags_taken m es = fold (take_one nat_cmp_total nat_cmp-IsAntisymmetric number-decides) m es

unflags : (h : GraphState) (es : List (ℕ × Unit {0})) → edited_by h (map unflag es) ≡ record h { flags = flags_taken h.flags es }
unflags h [] = refl
unflags h (e ∷ es) = unflags (edited h (unflag e)) es

uncreates : (h : GraphState) (es : List (Names × Unit {0})) → edited_by h (map uncreate es) ≡ record h { created = fold (take_one by_names-total by_names-antisymmetric by_names-decides) h.created es }
uncreates h [] = refl
uncreates h (e ∷ es) = uncreates (edited h (uncreate e)) es

pub unruns : (h : GraphState) (es : List (ℕ × RunRecord)) → edited_by h (map unrun es) ≡ record h { runs = fold (take_one nat_cmp_total nat_cmp-IsAntisymmetric number-decides) h.runs es }
unruns h [] = refl
unruns h (e ∷ es) = unruns (edited h (unrun e)) es

-- the entries of a map whose keys are kept aside
abbrev pub others : (ℕ → Bool) → Runs → List (ℕ × RunRecord)
others kept runs = filter (λ (run : ℕ × RunRecord). not (kept run.0)) (finite.entries runs)

-- the records that are left
abbrev pub left : (ℕ → Bool) → Runs → Runs
left kept runs = fold (take_one nat_cmp_total nat_cmp-IsAntisymmetric number-decides) runs (others kept runs)

-- they are those that are kept
none_else : (b : Bool) (found : Option RunRecord) → b ≡ false → cond (is_some (cond (not b) found None)) None found ≡ None
none_else b found e = ap (λ (c : Bool). cond (is_some (cond (not c) found None)) None found) e ∙ by found
  where
    by : (one : Option RunRecord) → cond (is_some (cond (not false) one None)) None one ≡ None
    by None = refl
    by (Some run) = refl

pub none_left : (kept : ℕ → Bool) (runs : Runs) (q : ℕ) → kept q ≡ false → finite.get (left kept runs) q ≡ None
none_left kept runs q not_kept =
    get_taken nat_cmp_total nat_cmp-IsAntisymmetric number-decides (others kept runs) runs q
    ∙ ap (λ (found : Option RunRecord). cond (is_some found) None (finite.get runs q))
    (find_passed nat_cmp_total nat_cmp-IsAntisymmetric number-decides (λ n. not (kept n)) (finite.entries runs) q ∙ ap (λ (found : Option RunRecord). cond (not (kept q)) found None) (sym (finite.get-entries runs q)))
    ∙ none_else (kept q) (finite.get runs q) not_kept

some_kept : (b : Bool) (found : Option RunRecord) → b ≡ true → cond (is_some (cond (not b) found None)) None found ≡ found
some_kept b found e = ap (λ (c : Bool). cond (is_some (cond (not c) found None)) None found) e

pub left_kept : (kept : ℕ → Bool) (runs : Runs) (q : ℕ) → kept q ≡ true → finite.get (left kept runs) q ≡ finite.get runs q
left_kept kept runs q is_kept =
    get_taken nat_cmp_total nat_cmp-IsAntisymmetric number-decides (others kept runs) runs q
    ∙ ap (λ (found : Option RunRecord). cond (is_some found) None (finite.get runs q))
    (find_passed nat_cmp_total nat_cmp-IsAntisymmetric number-decides (λ n. not (kept n)) (finite.entries runs) q ∙ ap (λ (found : Option RunRecord). cond (not (kept q)) found None) (sym (finite.get-entries runs q)))
    ∙ some_kept (kept q) (finite.get runs q) is_kept

abbrev pub cleared : (ℕ → Bool) → GraphState → GraphState
cleared kept g = record g { flags = finite.empty; created = finite.empty; runs = left kept g.runs }

module _ (g : GraphState) where
  abbrev one_cleared : GraphState
  one_cleared = record g { flags = finite.empty }

  abbrev pub two_cleared : GraphState
  two_cleared = record g { flags = finite.empty; created = finite.empty }

  pub clears_two : edited_by g (map unflag (finite.entries g.flags) ++ map uncreate (finite.entries g.created)) ≡ two_cleared
  clears_two =
      both g one_cleared two_cleared (map unflag (finite.entries g.flags)) (map uncreate (finite.entries g.created))
      (unflags g (finite.entries g.flags) ∙ ap (λ m. record g { flags = m }) (all_taken nat_cmp_total nat_cmp-IsAntisymmetric number-decides g.flags))
      (uncreates one_cleared (finite.entries g.created) ∙ ap (λ m. record one_cleared { created = m }) (all_taken by_names-total by_names-antisymmetric by_names-decides g.created))

  pub clears : (kept : ℕ → Bool) → edited_by g (clear_edits kept g) ≡ cleared kept g
  clears kept = both g two_cleared (cleared kept g) (map unflag (finite.entries g.flags) ++ map uncreate (finite.entries g.created)) (unrun_edits kept (finite.entries g.runs)) clears_two (unruns two_cleared (others kept g.runs))

-- ---- readings
abbrev pub readings_after : GraphState → List (Names × Reading) → List Names → Readings
readings_after g fresh gone = fold (put_one by_names-total by_names-antisymmetric by_names-decides) (fold finite.remove g.readings gone) fresh

module _ (g : GraphState) where
  unreads : (h : GraphState) → Lacks g.readings h.readings → (gone : List Names) → edited_by h (filter_map (unread g) gone) ≡ record h { readings = fold finite.remove h.readings gone }
  unreads h lacks [] = refl
  unreads h lacks (dir ∷ gone) =
      (elim (finite.get g.readings dir) as (λ (o : Option Reading). finite.get g.readings dir ≡ o →
      edited_by h (cons_option (option_map (λ (reading : Reading). Remove (records.Reading dir reading)) o) (filter_map (unread g) gone))
      ≡ record h { readings = fold finite.remove (finite.remove h.readings dir) gone }) [
        | Some one ↦ λ is. unreads (edited h (Remove (records.Reading dir one))) (lacks_more g.readings h.readings dir lacks) gone
        | None ↦ λ is. unreads h lacks gone
            ∙ ap (λ (m : Readings). record h { readings = fold finite.remove m gone }) (sym (remove-absent by_names-total by_names-antisymmetric h.readings dir (lacks dir is)))
      ]) refl

  reads : (h : GraphState) (fresh : List (Names × Reading)) → edited_by h (map read_so fresh) ≡ record h { readings = fold (put_one by_names-total by_names-antisymmetric by_names-decides) h.readings fresh }
  reads h [] = refl
  reads h (one ∷ fresh) = reads (edited h (read_so one)) fresh

  pub reading_leaves : (h : GraphState) → h.readings ≡ g.readings → (fresh : List (Names × Reading)) (gone : List Names) → edited_by h (reading_edits g fresh gone) ≡ record h { readings = readings_after g fresh gone }
  reading_leaves h same fresh gone =
      both h (record h { readings = fold finite.remove h.readings gone }) (record h { readings = readings_after g fresh gone }) (filter_map (unread g) gone) (map read_so fresh)
      (unreads h (λ q none. ap (λ (m : Readings). finite.get m q) same ∙ none) gone)
      (reads (record h { readings = fold finite.remove h.readings gone }) fresh
      ∙ ap (λ (m : Readings). record h { readings = fold (put_one by_names-total by_names-antisymmetric by_names-decides) (fold finite.remove m gone) fresh }) same)

-- ---- rules
-- what rules go by leaves some rules and some places, and where the first one goes none
shorter : (h : GraphState) (count n : ℕ) (rules : List Rule) → (some : List Rule) × (places : List ℕ) × (edited_by h (less_edits count n rules) ≡ record h { rules = some; places = places })
shorter h count n [] = (h.rules, h.places, refl)
shorter h count n (rule ∷ rules) = by (goes count n) (shorter h count (suc n) rules)
  where
    by : (b : Bool) → (some : List Rule) × (places : List ℕ) × (edited_by h (less_edits count (suc n) rules) ≡ record h { rules = some; places = places })
        → (some : List Rule) × (places : List ℕ) × (edited_by h (less_edits count (suc n) rules ++ (if b then rule_less n ∷ [] else [])) ≡ record h { rules = some; places = places })
    by true (some, places, is) = (take n some, take n places, both h (record h { rules = some; places = places }) (record h { rules = take n some; places = take n places }) (less_edits count (suc n) rules) (rule_less n ∷ []) is refl)
    by false (some, places, is) = (some, places, both h (record h { rules = some; places = places }) (record h { rules = some; places = places }) (less_edits count (suc n) rules) [] is refl)

pub less_leaves : (h : GraphState) (count : ℕ) → length h.places ≡ length h.rules → edited_by h (less_edits count 0 h.rules) ≡ record h { rules = []; places = [] }
less_leaves h count level = by h.rules h.places refl refl level
  where
    by : (rules : List Rule) (places : List ℕ) → h.rules ≡ rules → h.places ≡ places → length places ≡ length rules → edited_by h (less_edits count 0 rules) ≡ record h { rules = []; places = [] }
    by [] [] none no_places level = λ i. record h { rules = none i; places = no_places i }
    by [] (place ∷ places) none some level = absurd (omega (arith, level))
    by (rule ∷ rules) places some are level =
        let rest = shorter h count 1 rules in
        both h (record h { rules = rest.0; places = rest.1 }) (record h { rules = []; places = [] }) (less_edits count 1 rules) (rule_less 0 ∷ []) rest.2 refl

-- the places of rules behind others
abbrev pub places_behind : List Rule → List Rule → List ℕ
places_behind before [] = []
places_behind before (rule ∷ rules) = place_behind before rule ∷ places_behind (before ++ rule ∷ []) rules

pub more_leaves : (h : GraphState) (before rules : List Rule) → edited_by h (more_edits before rules) ≡ record h { rules = h.rules ++ rules; places = h.places ++ places_behind before rules }
more_leaves h before [] = λ i. record h { rules = sym (append-nil h.rules) i; places = sym (append-nil h.places) i }
more_leaves h before (rule ∷ rules) =
    more_leaves (edited h (rule_more (length before) (place_behind before rule) rule)) (before ++ rule ∷ []) rules
    ∙ (λ i. record h {
      rules = append_assoc h.rules (rule ∷ []) rules i;
      places = append_assoc h.places (place_behind before rule ∷ []) (places_behind (before ++ rule ∷ []) rules) i;
    })

-- the place of each
pub place_at : (before rules : List Rule) (n : ℕ) → slice_get (places_behind before rules) n ≡ option_map (λ (rule : Rule). place_behind (before ++ take n rules) rule) (slice_get rules n)
place_at before [] n = refl
place_at before (rule ∷ rules) zero = ap (λ (l : List Rule). Some (place_behind l rule)) (sym (append-nil before))
place_at before (rule ∷ rules) (suc n) =
    place_at (before ++ rule ∷ []) rules n
    ∙ ap (λ (l : List Rule). option_map (λ (other : Rule). place_behind l other) (slice_get rules n)) (append_assoc before (rule ∷ []) (take n rules))

-- ---- runs, owners and flags
abbrev pub runs_after : List (ℕ × RunRecord) → Runs
runs_after runs = fold (put_one nat_cmp_total nat_cmp-IsAntisymmetric number-decides) finite.empty runs

abbrev pub tagged : List ℕ → List (ℕ × Unit {0})
tagged numbers = map (λ (n : ℕ). (n, tt)) numbers

abbrev pub flags_after : List ℕ → finite.FinMap nat_cmp (Unit {0})
flags_after numbers = fold (put_one nat_cmp_total nat_cmp-IsAntisymmetric number-decides) finite.empty (tagged numbers)

pub run_leaves : (h : GraphState) (runs : List (ℕ × RunRecord)) → edited_by h (map run_so runs) ≡ record h { runs = fold (put_one nat_cmp_total nat_cmp-IsAntisymmetric number-decides) h.runs runs }
run_leaves h [] = refl
run_leaves h (run ∷ runs) = run_leaves (edited h (run_so run)) runs

pub own_leaves : (h : GraphState) (owned : List (Names × Owned)) → edited_by h (map own_so owned) ≡ record h { owned = fold (put_one by_names-total by_names-antisymmetric by_names-decides) h.owned owned }
own_leaves h [] = refl
own_leaves h (one ∷ owned) = own_leaves (edited h (own_so one)) owned

flag_leaves : (h : GraphState) (numbers : List ℕ) → edited_by h (flag_edits numbers) ≡ record h { flags = fold (put_one nat_cmp_total nat_cmp-IsAntisymmetric number-decides) h.flags (tagged numbers) }
flag_leaves h [] = refl
flag_leaves h (number ∷ numbers) = flag_leaves (edited h (Put (records.Modify number))) numbers

-- the graph of rules and runs alone
abbrev pub led_graph : List Rule → List (ℕ × RunRecord) → GraphState
led_graph rules runs = record empty_graph { rules = rules; places = places_behind [] rules; runs = runs_after runs }

pub led_is : (rules : List Rule) (runs : List (ℕ × RunRecord)) → led_by rules runs ≡ led_graph rules runs
led_is rules runs =
    both empty_graph (record empty_graph { rules = rules; places = places_behind [] rules }) (led_graph rules runs) (more_edits [] rules) (map run_so runs) (more_leaves empty_graph [] rules)
    (run_leaves (record empty_graph { rules = rules; places = places_behind [] rules }) runs)

-- ---- all of it, where these edits take away what goes, and leave these owned paths and records
module _ (g : GraphState) (fresh : List (Names × Reading)) (gone : List Names) (rules : List Rule) (runs : List (ℕ × RunRecord)) (owned : Owners) (flags : List ℕ) where
  abbrev pub swapped : GraphState
  swapped = record g { flags = flags_after flags; created = finite.empty; owned = owned; runs = runs_after runs; readings = readings_after g fresh gone; rules = rules; places = places_behind [] rules }

  module _ (clear less : List Edit) (owned_left : Owners) (runs_left : Runs) where
    abbrev pub at_first : GraphState
    at_first = record g { flags = finite.empty; created = finite.empty; owned = owned_left; runs = runs_left }

    abbrev pub read_anew : GraphState
    read_anew = record g { flags = finite.empty; created = finite.empty; owned = owned_left; runs = runs_left; readings = readings_after g fresh gone }

    abbrev pub bare : GraphState
    bare = record g { flags = finite.empty; created = finite.empty; owned = owned_left; runs = runs_left; readings = readings_after g fresh gone; rules = []; places = [] }

    abbrev pub ruled : GraphState
    ruled = record g { flags = finite.empty; created = finite.empty; owned = owned_left; runs = runs_left; readings = readings_after g fresh gone; rules = rules; places = places_behind [] rules }

    abbrev pub run_again : GraphState
    run_again = record g {
      flags = finite.empty;
      created = finite.empty;
      owned = owned_left;
      runs = fold (put_one nat_cmp_total nat_cmp-IsAntisymmetric number-decides) runs_left runs;
      readings = readings_after g fresh gone;
      rules = rules;
      places = places_behind [] rules;
    }

    abbrev pub owned_again : GraphState
    owned_again = record g {
      flags = finite.empty;
      created = finite.empty;
      owned = fold (put_one by_names-total by_names-antisymmetric by_names-decides) owned_left (finite.entries owned);
      runs = fold (put_one nat_cmp_total nat_cmp-IsAntisymmetric number-decides) runs_left runs;
      readings = readings_after g fresh gone;
      rules = rules;
      places = places_behind [] rules;
    }

    abbrev pub at_last : GraphState
    at_last = record owned_again { flags = flags_after flags }

    abbrev pub edits_of : List Edit
    edits_of = clear ++ reading_edits g fresh gone ++ less ++ more_edits [] rules ++ map run_so runs ++ map own_so (finite.entries owned) ++ flag_edits flags

    module _ (clears_so : edited_by g clear ≡ at_first) (lessens : edited_by read_anew less ≡ bare) where
      pub leaves_read : edited_by g (clear ++ reading_edits g fresh gone) ≡ read_anew
      leaves_read = both g at_first read_anew clear (reading_edits g fresh gone) clears_so (reading_leaves g at_first refl fresh gone)

      pub leaves_bare : edited_by g (clear ++ reading_edits g fresh gone ++ less) ≡ bare
      leaves_bare = both g read_anew bare (clear ++ reading_edits g fresh gone) less leaves_read lessens

      pub leaves_ruled : edited_by g (clear ++ reading_edits g fresh gone ++ less ++ more_edits [] rules) ≡ ruled
      leaves_ruled = both g bare ruled (clear ++ reading_edits g fresh gone ++ less) (more_edits [] rules) leaves_bare (more_leaves bare [] rules)

      pub leaves_run : edited_by g (clear ++ reading_edits g fresh gone ++ less ++ more_edits [] rules ++ map run_so runs) ≡ run_again
      leaves_run = both g ruled run_again (clear ++ reading_edits g fresh gone ++ less ++ more_edits [] rules) (map run_so runs) leaves_ruled (run_leaves ruled runs)

      pub leaves_owned : edited_by g (clear ++ reading_edits g fresh gone ++ less ++ more_edits [] rules ++ map run_so runs ++ map own_so (finite.entries owned)) ≡ owned_again
      leaves_owned =
          both g run_again owned_again (clear ++ reading_edits g fresh gone ++ less ++ more_edits [] rules ++ map run_so runs) (map own_so (finite.entries owned)) leaves_run (own_leaves run_again (finite.entries owned))

      pub leaves_all : edited_by g edits_of ≡ at_last
      leaves_all =
          both g owned_again at_last (clear ++ reading_edits g fresh gone ++ less ++ more_edits [] rules ++ map run_so runs ++ map own_so (finite.entries owned)) (flag_edits flags) leaves_owned (flag_leaves owned_again flags)

    -- where nothing is left that doesn't come again, it is the graph that a swap leaves
    module _ (runs_come : (q : ℕ) → finite.get (runs_after runs) q ≡ None → finite.get runs_left q ≡ None) (owned_come : (q : Names) → finite.get owned q ≡ None → finite.get owned_left q ≡ None) where
      pub is_last : at_last ≡ swapped
      is_last = λ i. record g {
        flags = flags_after flags;
        created = finite.empty;
        owned = (put_anew by_names-total by_names-antisymmetric by_names-decides (finite.entries owned) owned_left (λ q none. owned_come q (ap (λ (m : Owners). finite.get m q) (sym (all_put by_names-total by_names-antisymmetric by_names-decides owned)) ∙ none))
            ∙ all_put by_names-total by_names-antisymmetric by_names-decides owned) i;
        runs = put_anew nat_cmp_total nat_cmp-IsAntisymmetric number-decides runs runs_left runs_come i;
        readings = readings_after g fresh gone;
        rules = rules;
        places = places_behind [] rules;
      }

  -- ---- what the edits of a swap leave, where they put these
  module _ (kept : ℕ → Bool) (run_news : List (ℕ × RunRecord)) (owned_news : List (Names × Owned)) (runs_same : fold (put_one nat_cmp_total nat_cmp-IsAntisymmetric number-decides) (left kept g.runs) run_news ≡ runs_after runs)
      (owned_same : fold (put_one by_names-total by_names-antisymmetric by_names-decides) g.owned owned_news ≡ owned) where
    abbrev pub front_edits : List Edit
    front_edits = clear_edits kept g ++ reading_edits g fresh gone ++ less_edits (length rules) 0 g.rules ++ more_edits [] rules

    abbrev first : GraphState
    first = ruled (clear_edits kept g) (less_edits (length rules) 0 g.rules) g.owned (left kept g.runs)

    abbrev second : GraphState
    second = record first { runs = fold (put_one nat_cmp_total nat_cmp-IsAntisymmetric number-decides) (left kept g.runs) run_news }

    abbrev third : GraphState
    third = record second { owned = fold (put_one by_names-total by_names-antisymmetric by_names-decides) g.owned owned_news }

    abbrev fourth : GraphState
    fourth = record third { flags = flags_after flags }

    same : fourth ≡ swapped
    same = λ i. record g {
      flags = flags_after flags;
      created = finite.empty;
      owned = owned_same i;
      runs = runs_same i;
      readings = readings_after g fresh gone;
      rules = rules;
      places = places_behind [] rules;
    }

    pub swap_leaves : length g.places ≡ length g.rules → edited_by g (front_edits ++ map run_so run_news ++ map own_so owned_news ++ flag_edits flags) ≡ swapped
    swap_leaves level =
        both g third fourth (front_edits ++ map run_so run_news ++ map own_so owned_news) (flag_edits flags)
        (both g second third (front_edits ++ map run_so run_news) (map own_so owned_news)
        (both g first second front_edits (map run_so run_news)
        (leaves_ruled (clear_edits kept g) (less_edits (length rules) 0 g.rules) g.owned (left kept g.runs) (clears g kept)
        (less_leaves (read_anew (clear_edits kept g) (less_edits (length rules) 0 g.rules) g.owned (left kept g.runs)) (length rules) level))
        (run_leaves first run_news))
        (own_leaves second owned_news))
        (flag_leaves third flags)
        ∙ same
