-- Each step of a lock keeps its rule.
use Rattle.std.proofs.Common.{◌≡◌, ◌≢◌, ℕ, ◌+◌, ◌<◌, Bool, cond, eqb, List, [], ◌∷◌, length, get_or, set, Option, Some, unwrap_or, sym, refl, ap, ◌∙◌, subst, ⊎_elim, arith, length-set, get_or-set_same, eq-eqb, ne_eqb}
use Rattle.std.specs.Prelude.{All}
use mathlib.Core.Logic.{dite}
use mathlib.Core.Option.{none, some}
use native.Mathlib.Decide.{ℕ_discrete}
use lib.ListN.{get_elem?}
use lib.Seq.{set-get_or}
use prog.Atomic.{either}
use Rattle.std.proofs.lemmas.Option.{none-some}
use Rattle.std.proofs.lemmas.List.Elements.{All-append, All-cons, All-head, All-nil, All-weaker}
use Rattle.atomic_table.specs.Table.{State, Me, step, keeps, takes, gives, stepped, Allows, Splits, Joins, opening, rest}
use Rattle.atomic_table.proofs.Lists.{at_set, set_here, set_again}
use Rattle.tup_lock.specs.declared.view.View.{View}
use Rattle.tup_lock.specs.declared.logged.Logged.{Ghosts as Log}
use Rattle.tup_lock.specs.Held.{Fits, Held, IsFound, IsLast, OwnStep, both_of, drawn, entries_of, first_view, gave, given, holding, left_with, nobody, right_of, taken}
use Rattle.tup_lock.proofs.Histories.{entries_none, found_same, found_still, later_same, later_then, none_before}
use Rattle.tup_lock.proofs.Places.{at_one, at_snoc, views_stay}

-- the number and the value of a list of one
abbrev first_of : {T : Type 0} → ℕ × T → List (ℕ × T) → ℕ × T
first_of d [] = d
first_of d (l ∷ ls) = l

abbrev slot_in : {T : Type 0} → T → List (ℕ × Option T) → T
slot_in d [] = d
slot_in d (x ∷ xs) = unwrap_or x.1 d

module _ {T E : Type 0} (log : Log T E) where
  abbrev V : Type 0
  V = View T

  abbrev M : Type 0
  M = Me (Option T) V

  abbrev St : Type 0
  St = State (Option T) V

  abbrev Rule : T → St → Type 0
  Rule = Held log

  -- ---- the lock is made
  pub begins_so : (start : T) → log.history start ≡ [] → Rule start (opening (0 ∷ []) (Some start ∷ []) (first_view start))
  begins_so start empty = record {
    now = start;
    count = 1;
    chief = 0;
    holder = 0;
    owner = λ _. 0;
    wide = refl;
    home = λ _. refl;
    begins = later_same log start;
    below = subst (All (λ (e : E). log.seat_of e < 1)) (sym empty) (All-nil (λ (e : E). log.seat_of e < 1));
    each = λ id v at. let one = at_one (first_view start) v id at in subst (λ (x : ℕ × V). Fits log start 1 0 0 0 (λ _. 0) x.0 x.1) (λ i. (sym one.0 i, one.1 i)) record {
      lasts = All-cons (IsLast log start 1 (λ _. 0) 0) (0, start) [] (refl, omega arith, found_same log 0 start) (All-nil (IsLast log start 1 (λ _. 0) 0));
      found = λ t e. absurd (none-some t e);
      counts = λ _. (refl, refl);
    };
  }

  -- ---- nothing changes
  unmoved : (start : T) (s : St) (r : Rule start s) (id : ℕ) (m : M) → get_elem? s.views id ≡ some m.0 → Rule start (stepped s 0 (get_or s.words 0 0) id m.1 m.0 keeps)
  unmoved start s r id m at = subst (λ (z : List ℕ × List V). Rule start record { words = z.0; homes = s.homes; views = z.1 }) (λ i. (sym (set-get_or s.words 0 0) i, sym (set_again s.views id m.0 at) i)) r

  -- ---- the lock is taken, or it is not
  pub takes_it : (start : T) (slots id : ℕ) (m : M) → Allows (Rule start) slots id m 0 (λ x. either (eqb x 0) 1 x) (taken log (step slots 0 0 1 none) m)
  takes_it start slots id m s r wide at small =
      let x : ℕ = get_or s.words 0 0 in let one : length s.words ≡ 1 = r.wide in
      let is_one : get_or (set s.words 0 1) 0 0 ≡ 1 = get_or-set_same s.words 0 1 0 (omega arith) in
      dite (ℕ_discrete x 0)
      (λ free. let w : V = holding m.0 r.now in let mine = r.each id m.0 at in (
        w,
        takes 0 (Some r.now),
        r.home free,
        subst (λ b. Rule start (stepped s 0 (either b 1 x) id m.1 w (takes 0 (Some r.now)))) (sym (eq-eqb x 0 free)) record {
          now = r.now;
          count = r.count;
          chief = r.chief;
          holder = id;
          owner = r.owner;
          wide = length-set s.words 0 1 ∙ one;
          home = λ e. absurd (omega arith);
          begins = r.begins;
          below = r.below;
          each = subst (λ (z : ℕ). (j : ℕ) (d : V) → get_elem? (set s.views id w) j ≡ some d → Fits log r.now r.count r.chief id z r.owner j d) (sym is_one)
              (views_stay (Fits log r.now r.count r.chief id 1 r.owner) s.views id w
              record { lasts = mine.lasts; found = λ t e. (sym (ap (λ (o : Option T). unwrap_or o r.now) e), refl, λ h. omega arith); counts = mine.counts }
              (λ j d other at'. let f = r.each j d at' in record { lasts = f.lasts; found = λ t e. absurd ((f.found t e).2 free); counts = f.counts }));
        },
        (
          (λ _. (
            r.now,
            refl,
            record {
              lasts = All-weaker (IsLast log r.now r.count r.owner id) (λ (l : ℕ × T). IsFound log l.0 l.1 r.now) (λ l h. h.2) m.0.lasts mine.lasts;
              below = λ some_count. subst (λ (n : ℕ). All (λ (e : E). log.seat_of e < n) (log.history r.now)) (sym (mine.counts some_count).0) r.below;
            },
          )),
          λ not. absurd (not free),
        ),
      ))
      (λ held. (
        m.0,
        keeps,
        tt,
        subst (λ b. Rule start (stepped s 0 (either b 1 x) id m.1 m.0 keeps)) (sym (ne_eqb x 0 held)) (unmoved start s r id m at),
        ((λ e. absurd (held e)), λ _. refl),
      ))

  -- ---- it is given back
  module _ (start : T) (id number count : ℕ) (last found t : T) (more : List (ℕ × Option T)) (own : OwnStep log number found t) where
    abbrev v : V
    v = record { lasts = (number, last) ∷ []; count = count; found = Some found }

    abbrev w : V
    w = given v number t

    pub gives_it : Allows (Rule start) 1 id (v, (0, Some t) ∷ more) 0 (λ _. 0) (λ _. gave (step 1 0 0 0 none) (v, (0, Some t) ∷ more) 0)
    gives_it s r deep at small =
        let one : length s.words ≡ 1 = r.wide in
        let mine = r.each id v at in
        let is_found = mine.found found refl in
        let held = All-head (IsLast log r.now r.count r.owner id) (number, last) [] mine.lasts in
        let step' : OwnStep log number r.now t = subst (λ (x : T). OwnStep log number x t) is_found.0 own in
        let is_none : get_or (set s.words 0 0) 0 0 ≡ 0 = get_or-set_same s.words 0 0 0 (omega arith) in (
          w,
          gives,
          tt,
          record {
            now = t;
            count = r.count;
            chief = r.chief;
            holder = r.holder;
            owner = r.owner;
            wide = length-set s.words 0 0 ∙ one;
            home = λ _. set_here s.homes 0 (some (Some t)) (omega arith);
            begins = later_then log start r.now t r.begins step'.later;
            below = subst (All (λ (e : E). log.seat_of e < r.count)) (sym step'.later.adds)
                (All-append (λ (e : E). log.seat_of e < r.count) (log.history r.now) step'.later.more r.below
                (All-weaker (λ (e : E). log.seat_of e ≡ number) (λ (e : E). log.seat_of e < r.count) (λ e is. subst (λ (n : ℕ). n < r.count) (sym is) held.1) step'.later.more step'.own));
            each = subst (λ (z : ℕ). (j : ℕ) (d : V) → get_elem? (set s.views id w) j ≡ some d → Fits log t r.count r.chief r.holder z r.owner j d) (sym is_none)
                (views_stay (Fits log t r.count r.chief r.holder 0 r.owner) s.views id w
                record {
                  lasts = All-cons (IsLast log t r.count r.owner id) (number, t) [] (held.0, held.1, found_same log number t) (All-nil (IsLast log t r.count r.owner id));
                  found = λ t' e. absurd (none-some t' e);
                  counts = mine.counts;
                }
                (λ j d other at'. let f = r.each j d at' in record {
                  lasts = All-weaker (IsLast log r.now r.count r.owner j) (IsLast log t r.count r.owner j)
                      (λ l h. (h.0, h.1, found_still log number r.now t step' l.0 l.1 (λ is. other (sym h.0 ∙ ap r.owner is ∙ held.0)) h.2)) d.lasts f.lasts;
                  found = λ t' e. absurd (other ((f.found t' e).1 ∙ sym is_found.1));
                  counts = f.counts;
                }));
          },
          λ number' last' t' more' e₀ e₁. λ i. (
            given v (first_of (number, last) (e₀ i)).0 (slot_in t (e₁ i)),
            rest (e₁ i),
          ),
        )

  -- ---- a new seat
  pub draws_one : (start : T) (id : ℕ) (v : V) → v.count ≢ 0 → Splits (Rule start) id v (left_with v) (right_of v)
  draws_one start id v some_count s r at =
      let n : ℕ = length s.views in let mine = r.each id v at in let is = mine.counts some_count in
      let word : ℕ = get_or s.words 0 0 in
      let owner : ℕ → ℕ = λ m. cond (eqb m r.count) n (r.owner m) in
      let keep : (j : ℕ) (d : V) → Fits log r.now r.count r.chief r.holder word r.owner j d → All (IsLast log r.now (r.count + 1) owner j) d.lasts =
      λ j d f. All-weaker (IsLast log r.now r.count r.owner j) (IsLast log r.now (r.count + 1) owner j)
      (λ l h. let less = h.1 in (subst (λ (b : Bool). cond b n (r.owner l.0) ≡ j) (sym (ne_eqb l.0 r.count (λ e. omega arith))) h.0, omega arith, h.2)) d.lasts f.lasts in
      let none : entries_of log v.count (log.history r.now) ≡ [] =
      entries_none log v.count (log.history r.now)
      (All-weaker (λ (e : E). log.seat_of e < r.count) (λ (e : E). log.seat_of e ≢ v.count) (λ e less equal. let here = is.0 in omega arith) (log.history r.now) r.below) in
      record {
        now = r.now;
        count = r.count + 1;
        chief = r.chief;
        holder = r.holder;
        owner = owner;
        wide = r.wide;
        home = r.home;
        begins = r.begins;
        below = All-weaker (λ (e : E). log.seat_of e < r.count) (λ (e : E). log.seat_of e < r.count + 1) (λ e less. omega arith) (log.history r.now) r.below;
        each = λ j d e. ⊎_elim
            (λ (there : get_elem? (set s.views id (left_with v)) j ≡ some d). views_stay (Fits log r.now (r.count + 1) r.chief r.holder word owner) s.views id (left_with v)
            record { lasts = keep id v mine; found = mine.found; counts = λ _. (ap (λ (k : ℕ). k + 1) is.0, is.1) }
            (λ k c other at'. let f = r.each k c at' in
            record { lasts = keep k c f; found = f.found; counts = λ many. absurd (other ((f.counts many).1 ∙ sym is.1)) }) j d there)
            (λ (new : (j ≡ length (set s.views id (left_with v))) × (right_of v ≡ d)). subst (λ (z : ℕ × V). Fits log r.now (r.count + 1) r.chief r.holder word owner z.0 z.1)
            (λ i. (sym (new.0 ∙ length-set s.views id (left_with v)) i, new.1 i))
            record {
              lasts = starts r.now r.count n v.count owner is.0 (subst (λ (b : Bool). cond b n (r.owner v.count) ≡ n) (sym (eq-eqb v.count r.count is.0)) refl) none v.lasts
                  (All-weaker (IsLast log r.now r.count r.owner id) (λ (l : ℕ × T). IsFound log l.0 l.1 r.now) (λ l h. h.2) v.lasts mine.lasts);
              found = λ t e. absurd (none-some t e);
              counts = λ many. absurd (many refl);
            })
            (at_snoc (set s.views id (left_with v)) (right_of v) d j e);
      }
    where
      starts : (now : T) (count n number : ℕ) (owner : ℕ → ℕ) → number ≡ count → owner number ≡ n → entries_of log number (log.history now) ≡ [] → (ls : List (ℕ × T)) → All (λ (l : ℕ × T). IsFound log l.0 l.1 now) ls
          → All (IsLast log now (count + 1) owner n) (drawn number ls)
      starts now count n number owner is owns empty [] had = All-nil (IsLast log now (count + 1) owner n)
      starts now count n number owner is owns empty (l ∷ ls) had =
          let later = (All-head (λ (x : ℕ × T). IsFound log x.0 x.1 now) l ls had).later in
          All-cons (IsLast log now (count + 1) owner n) (number, l.1) []
          (owns, omega arith, record { later = later; same = empty ∙ sym (none_before log number l.1 now later empty) })
          (All-nil (IsLast log now (count + 1) owner n))

  -- ---- a seat gets what another knows
  pub unites : (start : T) (id : ℕ) (v : V) (other : ℕ) (u : V) → u.count ≡ 0 → Joins (Rule start) id v other u (both_of v u) nobody
  unites start id v other u no_count s r at apart there =
      let mine = r.each id v at in
      let word : ℕ = get_or s.words 0 0 in
      let theirs : Fits log r.now r.count r.chief r.holder word r.owner other u = ⊎_elim (λ (t : (other ≡ id) × (both_of v u ≡ u)). absurd (apart t.0)) (λ (t : (other ≢ id) × (get_elem? s.views other ≡ some u)). r.each other u t.1) (at_set s.views id other (both_of v u) u there) in
      let owner : ℕ → ℕ = λ m. cond (eqb (r.owner m) other) id (r.owner m) in
      let elsewhere : (j : ℕ) → j ≢ other → (ls : List (ℕ × T)) → All (IsLast log r.now r.count r.owner j) ls → All (IsLast log r.now r.count owner j) ls =
      λ j away. All-weaker (IsLast log r.now r.count r.owner j) (IsLast log r.now r.count owner j)
      (λ l h. (subst (λ (b : Bool). cond b id (r.owner l.0) ≡ j) (sym (ne_eqb (r.owner l.0) other (λ e. away (sym h.0 ∙ e)))) h.0, h.1, h.2)) in
      let moved : All (IsLast log r.now r.count owner id) u.lasts =
      All-weaker (IsLast log r.now r.count r.owner other) (IsLast log r.now r.count owner id)
      (λ l h. (subst (λ (b : Bool). cond b id (r.owner l.0) ≡ id) (sym (eq-eqb (r.owner l.0) other h.0)) refl, h.1, h.2)) u.lasts theirs.lasts in
      record {
        now = r.now;
        count = r.count;
        chief = r.chief;
        holder = r.holder;
        owner = owner;
        wide = r.wide;
        home = r.home;
        begins = r.begins;
        below = r.below;
        each = views_stay (Fits log r.now r.count r.chief r.holder word owner) (set s.views id (both_of v u)) other nobody
            record { lasts = All-nil (IsLast log r.now r.count owner other); found = λ t e. absurd (none-some t e); counts = λ many. absurd (many refl) }
            (λ j d away at'. views_stay (λ (k : ℕ) (c : V). k ≢ other → Fits log r.now r.count r.chief r.holder word owner k c) s.views id (both_of v u)
            (λ away'. record {
              lasts = All-append (IsLast log r.now r.count owner id) v.lasts u.lasts (elsewhere id (λ e. apart (sym e)) v.lasts mine.lasts) moved;
              found = mine.found;
              counts = mine.counts;
            })
            (λ k c not_id at'' away'. let f = r.each k c at'' in record { lasts = elsewhere k away' c.lasts f.lasts; found = f.found; counts = f.counts }) j d at' away);
      }
