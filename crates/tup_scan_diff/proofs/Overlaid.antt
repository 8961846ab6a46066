-- StampMap of some files in the place of those that were seen.
use Rattle.std.specs.Prelude.{◌≡◌, ◌⊎◌, ◌&&◌, ◌+◌, ◌<◌, ℕ, length, Bool, true, false, cond, List, [], ◌∷◌, ◌++◌, Option, None, Some, is_some, is_none, not, filter, map}
use Rattle.std.proofs.Common.{refl, sym, ap, subst, ◌∙◌, append_assoc, inl, inr, take, get_or}
use Rattle.std.specs.declared.cmp.Ordering.{Ordering}
use Rattle.std.specs.declared.cmp.Ordering.TheVariants.{Less, Equal, Greater}
use Rattle.std.specs.Ordering.{eq_by_cmp, is_eq, is_lt}
use Rattle.std.specs.FinMap as finite
use Rattle.std.specs.FinMap.{FinMap, find, is_sorted}
use Rattle.std.specs.FinMap.Entries.{below_all, same_entries}
use Rattle.std.specs.Map.Iter.{TakesFirst}
use Rattle.std.specs.Option.{option_map}
use Rattle.std.proofs.Math.Dec.{T}
use Rattle.std.proofs.lemmas.Bool.{true≢false}
use Rattle.std.proofs.lemmas.List.{append-nil}
use Rattle.std.proofs.lemmas.List.Elements.{Contains-append_right}
use Rattle.tup_path.specs.Name.{Names}
use Rattle.tup_path.specs.Order.{by_names, by_names-total, by_names-antisymmetric}
use Rattle.tup_path.proofs.Same.{by_names-decides, same_bytes-decides}
use Rattle.tup_stamp.specs.declared.Stamp.{Stamp}
use Rattle.tup_closure.proofs.Asked.{taken}
use Rattle.tup_graph.specs.Graph.{GraphState}
use Rattle.tup_graph.specs.Transactions.{seen_so}
use Rattle.tup_readers.proofs.Entries.{in_front}
use Rattle.tup_scan_diff.specs.Edits.{is_same, is_news, is_gone, not_seen, news_edits, seen_edits}
use Rattle.tup_scan_diff.specs.Present.{or_else, over}
use Rattle.tup_scan_diff.specs.Turned.{AtSamePaths}
use Rattle.tup_scan_diff.proofs.Editing.{above_head, apart, found_entry, left_of, none_pass, right_of, t_true}
use Rattle.tup_scan_diff.proofs.Stamped.{or_last, find_push}

abbrev Entry : Type 0
Entry = Names × Stamp

abbrev StampMap : Type 0
StampMap = FinMap by_names Stamp

-- ---- what a map has, over another one

find_append : (xs ys : List Entry) (q : Names) → find by_names q (xs ++ ys) ≡ or_else (find by_names q xs) (find by_names q ys)
find_append [] ys q = refl
find_append (x ∷ xs) ys q = either (eq_by_cmp by_names q x.0) (find_append xs ys q)
  where
    either : (b : Bool) → find by_names q (xs ++ ys) ≡ or_else (find by_names q xs) (find by_names q ys)
        → cond b (Some x.1) (find by_names q (xs ++ ys)) ≡ or_else (cond b (Some x.1) (find by_names q xs)) (find by_names q ys)
    either true more = refl
    either false more = more

pub get_over : (seen changed : StampMap) (q : Names) → finite.get (over seen changed) q ≡ or_else (finite.get changed q) (finite.get seen q)
get_over seen changed q =
    finite.get-from_entries by_names-total (finite.entries changed ++ finite.entries seen) q
    ∙ find_append (finite.entries changed) (finite.entries seen) q
    ∙ (λ i. or_else (sym (finite.get-entries changed q) i) (sym (finite.get-entries seen q) i))

-- ---- files one after another beside those that were seen

-- the files so far are those that were seen so far, these stamps in the place of theirs
pub record IsEdited (seen changed : StampMap) (files left : List Entry) : Type 0 where
  pub done : List Entry
  pub split : finite.entries seen ≡ done ++ left
  pub keys : (q : Names) → is_some (find by_names q files) ≡ is_some (find by_names q done)
  pub stamps : (q : Names) → find by_names q files ≡ or_else (finite.get changed q) (find by_names q done)

pub none_edited_yet : (seen : StampMap) → IsEdited seen finite.empty [] (finite.entries seen)
none_edited_yet seen = record {
  done = [];
  split = refl;
  keys = λ q. refl;
  stamps = λ q. ap (λ (o : Option Stamp). or_else o None) (sym (finite.get-empty by_names q));
}

-- a path behind some that are before it in order isn't among them
fresh_in : (done after : List Entry) (file : Entry) → is_sorted by_names (done ++ file ∷ after) ≡ true → find by_names file.0 done ≡ None
fresh_in [] after file up = refl
fresh_in (first ∷ done) after file up =
    ap (λ (b : Bool). cond b (Some first.1) (find by_names file.0 done))
    (apart file.0 first.0 (above_head first.0 (done ++ file ∷ after) file (left_of (below_all by_names first.0 (done ++ file ∷ after)) (is_sorted by_names (done ++ file ∷ after)) up)
    (Contains-append_right done (file ∷ after) file (in_front file after))))
    ∙ fresh_in done after file (right_of (below_all by_names first.0 (done ++ file ∷ after)) (is_sorted by_names (done ++ file ∷ after)) up)

some_last : (x y : Option Stamp) (b : Bool) (s t : Stamp) → is_some x ≡ is_some y → is_some (or_last x b s) ≡ is_some (or_last y b t)
some_last (Some x) (Some y) b s t e = refl
some_last (Some x) None b s t e = absurd (true≢false e)
some_last None (Some y) b s t e = absurd (true≢false (sym e))
some_last None None true s t e = refl
some_last None None false s t e = refl

last_over : (c d : Option Stamp) (b : Bool) (s : Stamp) → or_last (or_else c d) b s ≡ or_else c (or_last d b s)
last_over (Some c) d b s = refl
last_over None d b s = refl

not_last : (x : Option Stamp) (s : Stamp) → or_last x false s ≡ x
not_last (Some x) s = refl
not_last None s = refl

none_of : (x : Option Stamp) → is_some x ≡ false → x ≡ None
none_of None e = refl
none_of (Some x) e = absurd (true≢false e)

module _ (seen changed : StampMap) (files after : List Entry) (path : Names) (before stamp : Stamp) (is : IsEdited seen changed files ((path, before) ∷ after)) where
  split_more : finite.entries seen ≡ (is.done ++ (path, before) ∷ []) ++ after
  split_more = is.split ∙ sym (append_assoc is.done ((path, before) ∷ []) after)

  keys_more : (q : Names) → is_some (find by_names q (files ++ (path, stamp) ∷ [])) ≡ is_some (find by_names q (is.done ++ (path, before) ∷ []))
  keys_more q =
      ap is_some (find_push files (path, stamp) q)
      ∙ some_last (find by_names q files) (find by_names q is.done) (eq_by_cmp by_names q path) stamp before (is.keys q)
      ∙ ap is_some (sym (find_push is.done (path, before) q))

  fresh : find by_names path files ≡ None
  fresh = none_of (find by_names path files) (is.keys path ∙ ap is_some (fresh_in is.done after (path, before)
      (ap (is_sorted by_names) (sym is.split) ∙ t_true (is_sorted by_names (finite.entries seen)) (finite.entries_sorted seen))))

  -- one that has another stamp now
  pub more_edited : IsEdited seen (finite.insert changed path stamp) (files ++ (path, stamp) ∷ []) after
  more_edited = record {
    done = is.done ++ (path, before) ∷ [];
    split = split_more;
    keys = keys_more;
    stamps = λ q.
        find_push files (path, stamp) q ∙ either q (eq_by_cmp by_names q path) refl
        ∙ ap (λ (o : Option Stamp). or_else o (or_last (find by_names q is.done) (eq_by_cmp by_names q path) before)) (sym (finite.get-insert by_names-total changed path stamp q))
        ∙ ap (or_else (finite.get (finite.insert changed path stamp) q)) (sym (find_push is.done (path, before) q));
  }
    where
      either : (q : Names) (b : Bool) → eq_by_cmp by_names q path ≡ b
          → or_last (find by_names q files) (eq_by_cmp by_names q path) stamp
          ≡ or_else (cond (eq_by_cmp by_names q path) (Some stamp) (finite.get changed q)) (or_last (find by_names q is.done) (eq_by_cmp by_names q path) before)
      either q true e =
          let none : find by_names q files ≡ None = ap (λ (p : Names). find by_names p files) ((by_names-decides q path).0 e) ∙ fresh in
          (λ i. or_last (none i) (e i) stamp)
          ∙ ap (λ (b : Bool). or_else (cond b (Some stamp) (finite.get changed q)) (or_last (find by_names q is.done) (eq_by_cmp by_names q path) before)) (sym e)
      either q false e =
          ap (λ (b : Bool). or_last (find by_names q files) b stamp) e
          ∙ not_last (find by_names q files) stamp ∙ is.stamps q
          ∙ ap (or_else (finite.get changed q)) (sym (not_last (find by_names q is.done) before))
          ∙ ap (λ (b : Bool). or_else (cond b (Some stamp) (finite.get changed q)) (or_last (find by_names q is.done) b before)) (sym e)

  -- one that has the stamp that was seen
  pub more_seen : stamp ≡ before → IsEdited seen changed (files ++ (path, stamp) ∷ []) after
  more_seen same = record {
    done = is.done ++ (path, before) ∷ [];
    split = split_more;
    keys = keys_more;
    stamps = λ q.
        find_push files (path, stamp) q
        ∙ (λ i. or_last (is.stamps q i) (eq_by_cmp by_names q path) (same i))
        ∙ last_over (finite.get changed q) (find by_names q is.done) (eq_by_cmp by_names q path) before
        ∙ ap (or_else (finite.get changed q)) (sym (find_push is.done (path, before) q));
  }

-- an iterator gave this file
given_first : {A : Type 0} (shows : A → Entry) (given : Option A) (left after : List Entry) (file : Entry) → option_map shows given ≡ Some file → TakesFirst shows left given after → left ≡ file ∷ after
given_first shows None left after file is steps = absurd (let no : None ≡ Some file = is in cc)
given_first shows (Some one) left after file is steps =
    let same : shows one ≡ file = (let e : Some (shows one) ≡ Some file = is in cc) in
    steps ∙ ap (λ (f : Entry). f ∷ after) same

-- one of some files, in either case
pub one_more : {A : Type 0} (shows : A → Entry) (given : Option A) (seen old new : StampMap) (files left after : List Entry) (i : ℕ) (file d : Entry) (before : Stamp) → i < length files → file ≡ get_or files i d
    → IsEdited seen old (take i files) left → option_map shows given ≡ Some (file.0, before) → TakesFirst shows left given after
    → ((file.1 ≡ before) × (new ≡ old)) ⊎ (new ≡ finite.insert old file.0 file.1) → IsEdited seen new (take (i + 1) files) after
one_more shows given seen old new files left after i file d before less here is first rest added =
    subst (λ (l : List Entry). IsEdited seen new l after) (sym (taken files i file d less here)) (either added)
  where
    left_is : left ≡ (file.0, before) ∷ after
    left_is = given_first shows given left after (file.0, before) first rest

    was : IsEdited seen old (take i files) ((file.0, before) ∷ after)
    was = subst (IsEdited seen old (take i files)) left_is is

    either : ((file.1 ≡ before) × (new ≡ old)) ⊎ (new ≡ finite.insert old file.0 file.1) → IsEdited seen new (take i files ++ file ∷ []) after
    either (inl (same, kept)) = subst (λ (m : StampMap). IsEdited seen m (take i files ++ file ∷ []) after) (sym kept) (more_seen seen old (take i files) after file.0 before file.1 was same)
    either (inr put) = subst (λ (m : StampMap). IsEdited seen m (take i files ++ file ∷ []) after) (sym put) (more_edited seen old (take i files) after file.0 before file.1 was)

-- what was passed is all that was seen
seen_done : (seen changed : StampMap) (files left : List Entry) (is : IsEdited seen changed files left) → left ≡ [] → (q : Names) → finite.get seen q ≡ find by_names q is.done
seen_done seen changed files left is none q = finite.get-entries seen q ∙ ap (find by_names q) (is.split ∙ ap (λ (l : List Entry). is.done ++ l) none ∙ append-nil is.done)

-- all of them
pub all_edited : (seen changed : StampMap) (files left : List Entry) → IsEdited seen changed files left → left ≡ [] → over seen changed ≡ finite.from_entries files
all_edited seen changed files left is none = finite.same_map by_names-total by_names-antisymmetric _ _ (λ q.
    get_over seen changed q
    ∙ ap (or_else (finite.get changed q)) (seen_done seen changed files left is none q)
    ∙ sym (is.stamps q)
    ∙ sym (finite.get-from_entries by_names-total files q))

-- at the paths of those that were seen
pub all_there : (seen changed : StampMap) (files left : List Entry) → IsEdited seen changed files left → left ≡ [] → AtSamePaths seen (over seen changed)
all_there seen changed files left is none q =
    ap (λ (m : StampMap). is_some (finite.get m q)) (all_edited seen changed files left is none)
    ∙ ap is_some (finite.get-from_entries by_names-total files q)
    ∙ is.keys q
    ∙ ap is_some (sym (seen_done seen changed files left is none q))

-- ---- the edits of such files

-- what passes of what was found
abbrev kept_if : Bool → Stamp → Option Stamp
kept_if b s = cond b (Some s) None

abbrev passing : (Entry → Bool) → Names → Option Stamp → Option Stamp
passing p q None = None
passing p q (Some s) = kept_if (p (q, s)) s

module _ (p : Entry → Bool) where
  below_filter : (k : Names) (es : List Entry) → below_all by_names k es ≡ true → below_all by_names k (filter p es) ≡ true
  below_filter k [] up = refl
  below_filter k (first ∷ es) up = either (p first) (left_of (is_lt (by_names k first.0)) (below_all by_names k es) up) (below_filter k es (right_of (is_lt (by_names k first.0)) (below_all by_names k es) up))
    where
      either : (b : Bool) → is_lt (by_names k first.0) ≡ true → below_all by_names k (filter p es) ≡ true → below_all by_names k (cond b (first ∷ filter p es) (filter p es)) ≡ true
      either true less more = both (is_lt (by_names k first.0)) less more
        where
          both : (a : Bool) → a ≡ true → below_all by_names k (filter p es) ≡ true → (a && below_all by_names k (filter p es)) ≡ true
          both true e more = more
          both false e more = e
      either false less more = more

  sorted_filter : (es : List Entry) → is_sorted by_names es ≡ true → is_sorted by_names (filter p es) ≡ true
  sorted_filter [] up = refl
  sorted_filter (first ∷ es) up = either (p first) (below_filter first.0 es (left_of (below_all by_names first.0 es) (is_sorted by_names es) up)) (sorted_filter es (right_of (below_all by_names first.0 es) (is_sorted by_names es) up))
    where
      either : (b : Bool) → below_all by_names first.0 (filter p es) ≡ true → is_sorted by_names (filter p es) ≡ true → is_sorted by_names (cond b (first ∷ filter p es) (filter p es)) ≡ true
      either true low more = both (below_all by_names first.0 (filter p es)) low more
        where
          both : (a : Bool) → a ≡ true → is_sorted by_names (filter p es) ≡ true → (a && is_sorted by_names (filter p es)) ≡ true
          both true e more = more
          both false e more = e
      either false low more = more

  less_apart : (o : Ordering) → is_lt o ≡ true → is_eq o ≡ false
  less_apart Less e = refl
  less_apart Equal e = absurd (true≢false (sym e))
  less_apart Greater e = refl

  -- a path below all of a list isn't in it
  none_above : (q : Names) (es : List Entry) → below_all by_names q es ≡ true → find by_names q es ≡ None
  none_above q [] low = refl
  none_above q (first ∷ es) low =
      ap (λ (b : Bool). cond b (Some first.1) (find by_names q es)) (less_apart (by_names q first.0) (left_of (is_lt (by_names q first.0)) (below_all by_names q es) low))
      ∙ none_above q es (right_of (is_lt (by_names q first.0)) (below_all by_names q es) low)

  find_filter : (q : Names) (es : List Entry) → is_sorted by_names es ≡ true → find by_names q (filter p es) ≡ passing p q (find by_names q es)
  find_filter q [] up = refl
  find_filter q (first ∷ es) up = either (eq_by_cmp by_names q first.0) (p first) refl refl (find_filter q es (right_of (below_all by_names first.0 es) (is_sorted by_names es) up))
    where
      low : below_all by_names first.0 es ≡ true
      low = left_of (below_all by_names first.0 es) (is_sorted by_names es) up

      either : (b c : Bool) → eq_by_cmp by_names q first.0 ≡ b → p first ≡ c → find by_names q (filter p es) ≡ passing p q (find by_names q es)
          → find by_names q (cond (p first) (first ∷ filter p es) (filter p es)) ≡ passing p q (cond (eq_by_cmp by_names q first.0) (Some first.1) (find by_names q es))
      either true true e passes more =
          let same : q ≡ first.0 = (by_names-decides q first.0).0 e in
          ap (λ (b : Bool). find by_names q (cond b (first ∷ filter p es) (filter p es))) passes
          ∙ ap (λ (b : Bool). cond b (Some first.1) (find by_names q (filter p es))) e
          ∙ ap (λ (b : Bool). kept_if b first.1) (sym (ap (λ (x : Names). p (x, first.1)) same ∙ passes))
          ∙ ap (λ (b : Bool). passing p q (cond b (Some first.1) (find by_names q es))) (sym e)
      either true false e fails more =
          let same : q ≡ first.0 = (by_names-decides q first.0).0 e in
          ap (λ (b : Bool). find by_names q (cond b (first ∷ filter p es) (filter p es))) fails
          ∙ ap (λ (x : Names). find by_names x (filter p es)) same ∙ none_above first.0 (filter p es) (below_filter first.0 es low)
          ∙ ap (λ (b : Bool). kept_if b first.1) (sym (ap (λ (x : Names). p (x, first.1)) same ∙ fails))
          ∙ ap (λ (b : Bool). passing p q (cond b (Some first.1) (find by_names q es))) (sym e)
      either false true e passes more =
          ap (λ (b : Bool). find by_names q (cond b (first ∷ filter p es) (filter p es))) passes
          ∙ ap (λ (b : Bool). cond b (Some first.1) (find by_names q (filter p es))) e
          ∙ more
          ∙ ap (λ (b : Bool). passing p q (cond b (Some first.1) (find by_names q es))) (sym e)
      either false false e fails more =
          ap (λ (b : Bool). find by_names q (cond b (first ∷ filter p es) (filter p es))) fails
          ∙ more
          ∙ ap (λ (b : Bool). passing p q (cond b (Some first.1) (find by_names q es))) (sym e)

-- what is news over what was seen is news of what changed
module _ (g : GraphState) (changed : StampMap) where
  abbrev now : StampMap
  now = over g.seen changed

  same_itself : (s : Stamp) → is_same (Some s) s ≡ true
  same_itself s = (same_bytes-decides s.0 s.0).1 refl

  old_is_no_news : (q : Names) (before : Option Stamp) → finite.get g.seen q ≡ before → passing (is_news g) q before ≡ None
  old_is_no_news q None e = refl
  old_is_no_news q (Some s) e = ap (λ (o : Option Stamp). kept_if (not (is_same o s)) s) e ∙ ap (λ (b : Bool). kept_if (not b) s) (same_itself s)

  passing_over : (q : Names) (new before : Option Stamp) → finite.get g.seen q ≡ before → passing (is_news g) q (or_else new before) ≡ passing (is_news g) q new
  passing_over q (Some s) before e = refl
  passing_over q None before e = old_is_no_news q before e

  sorted_of : (m : StampMap) → is_sorted by_names (finite.entries m) ≡ true
  sorted_of m = t_true (is_sorted by_names (finite.entries m)) (finite.entries_sorted m)

  found_of : (m : StampMap) (q : Names) → find by_names q (filter (is_news g) (finite.entries m)) ≡ passing (is_news g) q (finite.get m q)
  found_of m q = find_filter (is_news g) q (finite.entries m) (sorted_of m) ∙ ap (passing (is_news g) q) (sym (finite.get-entries m q))

  to_t : (b : Bool) → b ≡ true → T b
  to_t true e = tt
  to_t false e = absurd (true≢false (sym e))

  same_news : filter (is_news g) (finite.entries now) ≡ filter (is_news g) (finite.entries changed)
  same_news = same_entries by_names by_names-total by_names-antisymmetric (filter (is_news g) (finite.entries now)) (filter (is_news g) (finite.entries changed))
      (to_t _ (sorted_filter (is_news g) (finite.entries now) (sorted_of now))) (to_t _ (sorted_filter (is_news g) (finite.entries changed) (sorted_of changed)))
      (λ q. found_of now q ∙ ap (passing (is_news g) q) (get_over g.seen changed q) ∙ passing_over q (finite.get changed q) (finite.get g.seen q) refl ∙ sym (found_of changed q))

  there : (new : Option Stamp) (s : Stamp) → is_none (or_else new (Some s)) ≡ false
  there (Some n) s = refl
  there None s = refl

  none_gone : filter (is_gone now) (finite.entries g.seen) ≡ []
  none_gone = none_pass (is_gone now) (finite.entries g.seen) (λ file h.
      ap is_none (get_over g.seen changed file.0 ∙ ap (or_else (finite.get changed file.0)) (found_entry g.seen file.0 file.1 h)) ∙ there (finite.get changed file.0) file.1)

  pub edits_over : seen_edits g now ≡ news_edits g (finite.entries changed)
  edits_over = (λ i. map seen_so (same_news i) ++ map not_seen (none_gone i)) ∙ append-nil (news_edits g (finite.entries changed))
