-- What edits of a scan leave of a graph.
use Rattle.std.specs.Prelude.{◌≡◌, ◌⊎◌, ◌||◌, ◌&&◌, ℕ, Bool, true, false, cond, not, List, [], ◌∷◌, ◌++◌, Option, None, Some, Contains, map, filter, fold, is_none, is_some}
use Rattle.std.proofs.Common.{refl, sym, ap, subst, ◌∙◌, inl, inr, append_assoc}
use Rattle.std.specs.declared.cmp.Ordering.{Ordering}
use Rattle.std.specs.declared.cmp.Ordering.TheVariants.{Less, Equal, Greater}
use Rattle.std.specs.Ordering.{eq_by_cmp, nat_cmp, is_lt, is_eq}
use Rattle.std.specs.Cmp.{IsTotalOrder}
use Rattle.std.specs.FinMap as finite
use Rattle.std.specs.FinMap.{FinMap, find, is_sorted}
use Rattle.std.specs.FinMap.Entries.{below_all}
use Rattle.std.specs.List.{list_any}
use Rattle.std.specs.Prelude.{Decides}
use Rattle.std.proofs.Math.Dec.{T}
use Rattle.std.proofs.lemmas.Bool.{true≢false, false_from_ne_true}
use Rattle.std.proofs.lemmas.List.{map-append}
use Rattle.std.proofs.lemmas.List.Elements.{filter-append}
use Rattle.std.proofs.lemmas.List.Sums.{fold-append}
use Rattle.tup_path.specs.Name.{Names}
use Rattle.tup_path.specs.Order.{by_names, by_names-total, by_names-antisymmetric}
use Rattle.tup_path.proofs.Same.{by_names-decides, same_bytes-decides}
use Rattle.tup_stamp.specs.declared.Stamp.{Stamp}
use Rattle.tup_record.specs.declared.record.Record.TheVariants as records
use Rattle.tup_graph.specs.declared.edit.Edit.{Edit}
use Rattle.tup_graph.specs.declared.edit.Edit.TheVariants.{Put}
use Rattle.tup_graph.specs.Edits.{edited, edited_by}
use Rattle.tup_graph.specs.Graph.{GraphState, is_created, is_flagged}
use Rattle.tup_graph.specs.Transactions.{seen_so, flag_edits}
use Rattle.tup_readers.proofs.Entries.{none_in, in_front, behind_front, front_or_behind}
use Rattle.tup_readers.proofs.Filtering.{in_filter}
pub use Rattle.tup_readers.proofs.Filtering.{filter_in}
use Rattle.tup_scan_diff.specs.Edits.{is_same, is_news, is_gone, not_seen, news_edits, gone_edits, seen_edits, to_read, create_edits, modify_edits}
use Rattle.tup_scan_diff.specs.Present.{seeing}

-- ---- entries of a map, by their keys

pub left_of : (a b : Bool) → (a && b) ≡ true → a ≡ true
left_of true b e = refl
left_of false b e = e

pub right_of : (a b : Bool) → (a && b) ≡ true → b ≡ true
right_of true b e = e
right_of false b e = absurd (true≢false (sym e))

pub t_true : (b : Bool) → T b → b ≡ true
t_true true t = refl
t_true false t = absurd t

not_less : (o : Ordering) → is_lt o ≡ true → is_eq o ≡ true → ⊥
not_less Less less same = true≢false (sym same)
not_less Equal less same = true≢false (sym less)
not_less Greater less same = true≢false (sym less)

pub apart : (q k : Names) → is_lt (by_names k q) ≡ true → eq_by_cmp by_names q k ≡ false
apart q k less = false_from_ne_true (eq_by_cmp by_names q k) (λ same.
    not_less (by_names k q) less ((by_names-decides k q).1 (sym ((by_names-decides q k).0 same))))

module _ {X : Type 0} where
  found_in : (es : List (Names × X)) (q : Names) (x : X) → find by_names q es ≡ Some x → Contains es (q, x)
  found_in [] q x e = absurd (let wrong : None ≡ Some x = e in cc)
  found_in (first ∷ es) q x e = either (eq_by_cmp by_names q first.0) refl (found_in es q x) e
    where
      either : (b : Bool) → eq_by_cmp by_names q first.0 ≡ b → (find by_names q es ≡ Some x → Contains es (q, x)) → cond b (Some first.1) (find by_names q es) ≡ Some x → Contains (first ∷ es) (q, x)
      either true same more e =
          let value : first.1 ≡ x = cc in
          subst (Contains (first ∷ es)) (λ i. (sym ((by_names-decides q first.0).0 same) i, value i)) (in_front first es)
      either false apart more e = behind_front first (q, x) es (more e)

  pub above_head : (k : Names) (es : List (Names × X)) (e : Names × X) → below_all by_names k es ≡ true → Contains es e → is_lt (by_names k e.0) ≡ true
  above_head k [] e up h = absurd (none_in e h)
  above_head k (first ∷ es) e up h = elim (front_or_behind first e es h) [
    | inl same ↦ subst (λ (x : Names × X). is_lt (by_names k x.0) ≡ true) same (left_of (is_lt (by_names k first.0)) (below_all by_names k es) up)
    | inr later ↦ above_head k es e (right_of (is_lt (by_names k first.0)) (below_all by_names k es) up) later
  ]

  entry_in : (es : List (Names × X)) (e : Names × X) → is_sorted by_names es ≡ true → Contains es e → find by_names e.0 es ≡ Some e.1
  entry_in [] e up h = absurd (none_in e h)
  entry_in (first ∷ es) e up h = elim (front_or_behind first e es h) [
    | inl same ↦ ap (λ (b : Bool). cond b (Some first.1) (find by_names e.0 es)) ((by_names-decides e.0 first.0).1 (λ i. (sym same i).0)) ∙ ap (λ (x : Names × X). Some x.1) same
    | inr later ↦
        ap (λ (b : Bool). cond b (Some first.1) (find by_names e.0 es)) (apart e.0 first.0 (above_head first.0 es e (left_of (below_all by_names first.0 es) (is_sorted by_names es) up) later))
        ∙ entry_in es e (right_of (below_all by_names first.0 es) (is_sorted by_names es) up) later
  ]

  -- an entry is what its map has at its key
  pub found_entry : (m : FinMap by_names X) (q : Names) (x : X) → Contains (finite.entries m) (q, x) → finite.get m q ≡ Some x
  found_entry m q x h = finite.get-entries m q ∙ entry_in (finite.entries m) (q, x) (t_true (is_sorted by_names (finite.entries m)) (finite.entries_sorted m)) h

  pub entry_found : (m : FinMap by_names X) (q : Names) (x : X) → finite.get m q ≡ Some x → Contains (finite.entries m) (q, x)
  entry_found m q x e = found_in (finite.entries m) q x (sym (finite.get-entries m q) ∙ e)

-- ---- filtered lists

module _ {X : Type 0} (p : X → Bool) where
  pub none_pass : (xs : List X) → ((x : X) → Contains xs x → p x ≡ false) → filter p xs ≡ []
  none_pass [] none = refl
  none_pass (first ∷ xs) none = ap (λ (b : Bool). cond b (first ∷ filter p xs) (filter p xs)) (none first (in_front first xs)) ∙ none_pass xs (λ x h. none x (behind_front first x xs h))

-- ---- files that are seen, and files that are seen no longer

abbrev Stamps : Type 0
Stamps = FinMap by_names Stamp

abbrev put_file : Stamps → Names × Stamp → Stamps
put_file m file = finite.insert m file.0 file.1

abbrev take_file : Stamps → Names × Stamp → Stamps
take_file m file = finite.remove m file.0

puts_leave : (g : GraphState) (files : List (Names × Stamp)) → edited_by g (map seen_so files) ≡ seeing g (fold put_file g.seen files)
puts_leave g [] = refl
puts_leave g (file ∷ files) = puts_leave (seeing g (put_file g.seen file)) files

takes_leave : (g : GraphState) (files : List (Names × Stamp)) → edited_by g (map not_seen files) ≡ seeing g (fold take_file g.seen files)
takes_leave g [] = refl
takes_leave g (file ∷ files) = takes_leave (seeing g (take_file g.seen file)) files

module _ (m : Stamps) (q : Names) where
  -- a map agrees with another at a path
  abbrev Agrees : Stamps → Type 0
  Agrees n = finite.get n q ≡ finite.get m q

  put_agrees : (n : Stamps) (file : Names × Stamp) → finite.get m file.0 ≡ Some file.1 → (q ≡ file.0) ⊎ Agrees n → Agrees (put_file n file)
  put_agrees n file is (inl e) = finite.get-insert by_names-total n file.0 file.1 q ∙ ap (λ (b : Bool). cond b (Some file.1) (finite.get n q)) ((by_names-decides q file.0).1 e) ∙ sym is ∙ ap (finite.get m) (sym e)
  put_agrees n file is (inr so) = finite.get-insert by_names-total n file.0 file.1 q ∙ either (eq_by_cmp by_names q file.0) refl
    where
      either : (b : Bool) → eq_by_cmp by_names q file.0 ≡ b → cond b (Some file.1) (finite.get n q) ≡ finite.get m q
      either true e = sym is ∙ ap (finite.get m) (sym ((by_names-decides q file.0).0 e))
      either false e = so

  take_agrees : (n : Stamps) (file : Names × Stamp) → finite.get m file.0 ≡ None → (q ≡ file.0) ⊎ Agrees n → Agrees (take_file n file)
  take_agrees n file is (inl e) = finite.get-remove by_names-total n file.0 q ∙ ap (λ (b : Bool). cond b None (finite.get n q)) ((by_names-decides q file.0).1 e) ∙ sym is ∙ ap (finite.get m) (sym e)
  take_agrees n file is (inr so) = finite.get-remove by_names-total n file.0 q ∙ either (eq_by_cmp by_names q file.0) refl
    where
      either : (b : Bool) → eq_by_cmp by_names q file.0 ≡ b → cond b None (finite.get n q) ≡ finite.get m q
      either true e = sym is ∙ ap (finite.get m) (sym ((by_names-decides q file.0).0 e))
      either false e = so

  -- the path is among those of some files, or the map agrees there already
  abbrev Meets : List (Names × Stamp) → Stamps → Type 0
  Meets files n = ((file : Names × Stamp) × Contains files file × (q ≡ file.0)) ⊎ Agrees n

  step : (first : Names × Stamp) (files : List (Names × Stamp)) (n after : Stamps) → ((q ≡ first.0) ⊎ Agrees n → Agrees after) → Meets (first ∷ files) n → Meets files after
  step first files n after to (inl (file, h, e)) = elim (front_or_behind first file files h) [
    | inl same ↦ inr (to (inl (e ∙ λ i. (sym same i).0)))
    | inr later ↦ inl (file, later, e)
  ]
  step first files n after to (inr so) = inr (to (inr so))

  puts_agree : (files : List (Names × Stamp)) (n : Stamps) → ((file : Names × Stamp) → Contains files file → finite.get m file.0 ≡ Some file.1) → Meets files n → Agrees (fold put_file n files)
  puts_agree [] n each (inl (file, h, e)) = absurd (none_in file h)
  puts_agree [] n each (inr so) = so
  puts_agree (first ∷ files) n each meets =
      puts_agree files (put_file n first) (λ file h. each file (behind_front first file files h))
      (step first files n (put_file n first) (put_agrees n first (each first (in_front first files))) meets)

  takes_agree : (files : List (Names × Stamp)) (n : Stamps) → ((file : Names × Stamp) → Contains files file → finite.get m file.0 ≡ None) → Meets files n → Agrees (fold take_file n files)
  takes_agree [] n each (inl (file, h, e)) = absurd (none_in file h)
  takes_agree [] n each (inr so) = so
  takes_agree (first ∷ files) n each meets =
      takes_agree files (take_file n first) (λ file h. each file (behind_front first file files h))
      (step first files n (take_file n first) (take_agrees n first (each first (in_front first files))) meets)

-- whether a file was seen with this stamp
pub same_is : (seen : Option Stamp) (s : Stamp) → is_same seen s ≡ true → seen ≡ Some s
same_is None s e = absurd (true≢false (sym e))
same_is (Some seen) s e = λ i. Some (record { 0 = (same_bytes-decides seen.0 s.0).0 e i })

module _ (g : GraphState) (m : Stamps) where
  abbrev news : List (Names × Stamp)
  news = filter (is_news g) (finite.entries m)

  abbrev gone : List (Names × Stamp)
  gone = filter (is_gone m) (finite.entries g.seen)

  none_of : (o : Option Stamp) → is_none o ≡ true → o ≡ None
  none_of None e = refl
  none_of (Some s) e = absurd (true≢false (sym e))

  not_news : (q : Names) (s : Stamp) (b : Bool) → is_same (finite.get g.seen q) s ≡ b → finite.get m q ≡ Some s → Meets m q news g.seen
  not_news q s true same here = inr (same_is (finite.get g.seen q) s same ∙ sym here)
  not_news q s false other here = inl ((q, s), in_filter (is_news g) (finite.entries m) (q, s) (entry_found m q s here) (ap not other), refl)

  -- every path is news, or gone, or seen so already
  first_meets : (q : Names) (found : Option Stamp) → finite.get m q ≡ found → Meets m q news g.seen ⊎ (finite.get m q ≡ None)
  first_meets q (Some s) here = inl (not_news q s (is_same (finite.get g.seen q) s) refl here)
  first_meets q None here = inr here

  abbrev after_news : Stamps
  after_news = fold put_file g.seen news

  kept_there : (files : List (Names × Stamp)) (n : Stamps) (q : Names) → ((file : Names × Stamp) → Contains files file → q ≡ file.0 → ⊥) → finite.get (fold put_file n files) q ≡ finite.get n q
  kept_there [] n q apart = refl
  kept_there (file ∷ files) n q apart =
      kept_there files (put_file n file) q (λ other h. apart other (behind_front file other files h))
      ∙ finite.get-insert by_names-total n file.0 file.1 q
      ∙ ap (λ (b : Bool). cond b (Some file.1) (finite.get n q)) (false_from_ne_true (eq_by_cmp by_names q file.0) (λ e. apart file (in_front file files) ((by_names-decides q file.0).0 e)))

  news_so : (file : Names × Stamp) → Contains news file → finite.get m file.0 ≡ Some file.1
  news_so file h = found_entry m file.0 file.1 (filter_in (is_news g) (finite.entries m) file h).0

  second_meets : (q : Names) (found : Option Stamp) → finite.get g.seen q ≡ found → finite.get m q ≡ None → Meets m q gone after_news
  second_meets q (Some s) there none = inl ((q, s), in_filter (is_gone m) (finite.entries g.seen) (q, s) (entry_found g.seen q s there) (ap is_none none), refl)
  second_meets q None there none = inr (
      kept_there news g.seen q (λ file h e. let wrong : None ≡ Some file.1 = sym none ∙ ap (finite.get m) e ∙ news_so file h in cc)
      ∙ there ∙ sym none)

  gone_so : (file : Names × Stamp) → Contains gone file → finite.get m file.0 ≡ None
  gone_so file h = none_of (finite.get m file.0) (filter_in (is_gone m) (finite.entries g.seen) file h).1

  all_agree : (q : Names) → finite.get (fold take_file after_news gone) q ≡ finite.get m q
  all_agree q = elim (first_meets q (finite.get m q) refl) [
    | inl meets ↦ takes_agree m q gone after_news gone_so (inr (puts_agree m q news g.seen news_so meets))
    | inr none ↦ takes_agree m q gone after_news gone_so (second_meets q (finite.get g.seen q) refl none)
  ]

  -- the files that are seen are just these
  pub seen_leave : edited_by g (seen_edits g m) ≡ seeing g m
  seen_leave =
      fold-append edited g (map seen_so news) (map not_seen gone)
      ∙ ap (λ (h : GraphState). edited_by h (map not_seen gone)) (puts_leave g news)
      ∙ takes_leave (seeing g after_news) gone
      ∙ ap (seeing g) (finite.same_map by_names-total by_names-antisymmetric _ _ all_agree)

-- ---- keys that are put into a map without values

module _ {K : Type 0} (R : K → K → Ordering) (o : IsTotalOrder R) (decides : (x y : K) → Decides (eq_by_cmp R x y) (x ≡ y)) where
  abbrev put_key : FinMap R (Unit {0}) → K → FinMap R (Unit {0})
  put_key m k = finite.insert m k tt

  one_key : (b : Bool) (m : FinMap R (Unit {0})) (q : K) → is_some (cond b (Some tt) (finite.get m q)) ≡ (b || finite.contains_key m q)
  one_key true m q = refl
  one_key false m q = refl

  turned : (a b c : Bool) → ((b || a) || c) ≡ (a || (b || c))
  turned true true c = refl
  turned true false c = refl
  turned false true c = refl
  turned false false c = refl

  put_keys : (m : FinMap R (Unit {0})) (ks : List K) (q : K) → finite.contains_key (fold put_key m ks) q ≡ (finite.contains_key m q || list_any (eq_by_cmp R q) ks)
  put_keys m [] q = sym (or_false (finite.contains_key m q))
    where
      or_false : (b : Bool) → (b || false) ≡ b
      or_false true = refl
      or_false false = refl
  put_keys m (k ∷ ks) q =
      put_keys (put_key m k) ks q
      ∙ ap (λ (b : Bool). b || list_any (eq_by_cmp R q) ks) (ap is_some (finite.get-insert o m k tt q) ∙ one_key (eq_by_cmp R q k) m q)
      ∙ turned (finite.contains_key m q) (eq_by_cmp R q k) (list_any (eq_by_cmp R q) ks)

  -- those aside that are there already
  passed : (p : K → Bool) (q : K) (ks : List K) → p q ≡ true → list_any (eq_by_cmp R q) (filter p ks) ≡ list_any (eq_by_cmp R q) ks
  passed p q [] passes = refl
  passed p q (k ∷ ks) passes = either (p k) refl (passed p q ks passes)
    where
      either : (b : Bool) → p k ≡ b → list_any (eq_by_cmp R q) (filter p ks) ≡ list_any (eq_by_cmp R q) ks → list_any (eq_by_cmp R q) (cond b (k ∷ filter p ks) (filter p ks)) ≡ (eq_by_cmp R q k || list_any (eq_by_cmp R q) ks)
      either true same more = ap (λ (b : Bool). eq_by_cmp R q k || b) more
      either false fails more =
          more
          ∙ ap (λ (b : Bool). b || list_any (eq_by_cmp R q) ks) (sym (false_from_ne_true (eq_by_cmp R q k) (λ e. true≢false (sym passes ∙ ap p ((decides q k).0 e) ∙ fails))))

  pub missing_put : (m : FinMap R (Unit {0})) (ks : List K) (q : K) → finite.contains_key (fold put_key m (filter (λ k. not (finite.contains_key m k)) ks)) q ≡ (finite.contains_key m q || list_any (eq_by_cmp R q) ks)
  missing_put m ks q = put_keys m (filter (λ k. not (finite.contains_key m k)) ks) q ∙ either (finite.contains_key m q) refl
    where
      either : (b : Bool) → finite.contains_key m q ≡ b → (b || list_any (eq_by_cmp R q) (filter (λ k. not (finite.contains_key m k)) ks)) ≡ (b || list_any (eq_by_cmp R q) ks)
      either true has = refl
      either false hasn't = passed (λ k. not (finite.contains_key m k)) q ks (ap not hasn't)

creates_leave : (g : GraphState) (dirs : List Names) → edited_by g (map to_read dirs) ≡ record g { created = fold (λ m (dir : Names). finite.insert m dir tt) g.created dirs }
creates_leave g [] = refl
creates_leave g (dir ∷ dirs) = creates_leave (record g { created = finite.insert g.created dir tt }) dirs

flags_leave : (g : GraphState) (numbers : List ℕ) → edited_by g (flag_edits numbers) ≡ record g { flags = fold (λ m (number : ℕ). finite.insert m number tt) g.flags numbers }
flags_leave g [] = refl
flags_leave g (number ∷ numbers) = flags_leave (record g { flags = finite.insert g.flags number tt }) numbers

-- ---- all edits of a scan

module _ (g : GraphState) (m : Stamps) (dirs : List Names) (numbers : List ℕ) where
  abbrev pub created_after : FinMap by_names (Unit {0})
  created_after = fold (λ m (dir : Names). finite.insert m dir tt) g.created (filter (λ dir. not (is_created g dir)) dirs)

  abbrev pub flags_after : FinMap nat_cmp (Unit {0})
  flags_after = fold (λ m (number : ℕ). finite.insert m number tt) g.flags (filter (λ number. not (is_flagged g number)) numbers)

  pub scan_leaves : edited_by g (seen_edits g m ++ create_edits g dirs ++ modify_edits g numbers) ≡ record g { seen = m; created = created_after; flags = flags_after }
  scan_leaves =
      fold-append edited g (seen_edits g m ++ create_edits g dirs) (modify_edits g numbers)
      ∙ ap (λ (h : GraphState). edited_by h (modify_edits g numbers))
      (fold-append edited g (seen_edits g m) (create_edits g dirs)
      ∙ ap (λ (h : GraphState). edited_by h (create_edits g dirs)) (seen_leave g m)
      ∙ creates_leave (seeing g m) (filter (λ dir. not (is_created g dir)) dirs))
      ∙ flags_leave (record (seeing g m) { created = created_after }) (filter (λ number. not (is_flagged g number)) numbers)

-- ---- pushes, one after another

pub pushed : {X : Type 0} (f : List X → List Edit) → ((xs ys : List X) → f (xs ++ ys) ≡ f xs ++ f ys) → (start edits new : List Edit) (xs : List X) (x : X)
    → edits ≡ start ++ f xs → new ≡ edits ++ f (x ∷ []) → new ≡ start ++ f (xs ++ x ∷ [])
pushed f both start edits new xs x so_far is = is ∙ ap (λ (l : List Edit). l ++ f (x ∷ [])) so_far ∙ append_assoc start (f xs) (f (x ∷ [])) ∙ ap (λ (l : List Edit). start ++ l) (sym (both xs (x ∷ [])))

filtered_both : {X : Type 0} (h : X → Edit) (p : X → Bool) (xs ys : List X) → map h (filter p (xs ++ ys)) ≡ map h (filter p xs) ++ map h (filter p ys)
filtered_both h p xs ys = ap (map h) (filter-append p xs ys) ∙ map-append h (filter p xs) (filter p ys)

pub news_both : (g : GraphState) (xs ys : List (Names × Stamp)) → news_edits g (xs ++ ys) ≡ news_edits g xs ++ news_edits g ys
news_both g = filtered_both seen_so (is_news g)

pub gone_both : (m : Stamps) (xs ys : List (Names × Stamp)) → gone_edits m (xs ++ ys) ≡ gone_edits m xs ++ gone_edits m ys
gone_both m = filtered_both not_seen (is_gone m)

pub create_both : (g : GraphState) (xs ys : List Names) → create_edits g (xs ++ ys) ≡ create_edits g xs ++ create_edits g ys
create_both g = filtered_both to_read (λ dir. not (is_created g dir))

pub modify_both : (g : GraphState) (xs ys : List ℕ) → modify_edits g (xs ++ ys) ≡ modify_edits g xs ++ modify_edits g ys
modify_both g = filtered_both (λ number. Put (records.Modify number)) (λ number. not (is_flagged g number))
