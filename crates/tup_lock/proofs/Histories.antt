-- Histories that grow, and the entries of one seat in them.
use Rattle.std.proofs.Common.{◌≡◌, ◌≢◌, ℕ, eqb, List, [], ◌∷◌, ◌++◌, length, refl, sym, ap, ◌∙◌, arith, eq-eqb, ne_eqb}
use Rattle.std.specs.Prelude.{All}
use Rattle.std.proofs.lemmas.List.{append-nil, append_assoc}
use Rattle.std.proofs.lemmas.List.Elements.{filter-append, All-head, All-tail, All-weaker}
use Rattle.tup_lock.specs.declared.logged.Logged.{Ghosts as Log}
use Rattle.tup_lock.specs.Held.{IsFound, Later, OwnStep, entries_of}

-- both parts of an empty list are empty
pub front_none : {X : Type 0} (xs ys : List X) → xs ++ ys ≡ [] → xs ≡ []
front_none [] ys e = refl
front_none (x ∷ xs) ys e = let long = ap length e in absurd (omega arith)

module _ {T E : Type 0} (log : Log T E) where
  -- ---- entries
  pub entries_both : (number : ℕ) (es more : List E) → entries_of log number (es ++ more) ≡ entries_of log number es ++ entries_of log number more
  entries_both number es more = filter-append (λ (e : E). eqb (log.seat_of e) number) es more

  -- events of the number itself
  pub entries_all : (number : ℕ) (es : List E) → All (λ (e : E). log.seat_of e ≡ number) es → entries_of log number es ≡ es
  entries_all number [] own = refl
  entries_all number (e ∷ es) own =
      rw (eq-eqb (log.seat_of e) number (All-head (λ (x : E). log.seat_of x ≡ number) e es own)) (ap (λ (l : List E). e ∷ l) (entries_all number es (All-tail (λ (x : E). log.seat_of x ≡ number) e es own)))

  -- events of other numbers
  pub entries_none : (number : ℕ) (es : List E) → All (λ (e : E). log.seat_of e ≢ number) es → entries_of log number es ≡ []
  entries_none number [] other = refl
  entries_none number (e ∷ es) other =
      rw (ne_eqb (log.seat_of e) number (All-head (λ (x : E). log.seat_of x ≢ number) e es other)) (entries_none number es (All-tail (λ (x : E). log.seat_of x ≢ number) e es other))

  -- ---- a value goes on
  pub later_same : (t : T) → Later log t t
  later_same t = record { began = refl; more = []; adds = sym (append-nil (log.history t)); known = λ text it. it; stood = λ count it. it }

  pub later_then : (a b c : T) → Later log a b → Later log b c → Later log a c
  later_then a b c p q = record {
    began = q.began ∙ p.began;
    more = p.more ++ q.more;
    adds = q.adds ∙ ap (λ (l : List E). l ++ q.more) p.adds ∙ append_assoc (log.history a) p.more q.more;
    known = λ text it. q.known text (p.known text it);
    stood = λ count it. p.stood count (q.stood count it);
  }

  -- ---- a value that a seat finds
  pub found_same : (number : ℕ) (t : T) → IsFound log number t t
  found_same number t = record { later = later_same t; same = refl }

  module _ (number : ℕ) (old new : T) (step : OwnStep log number old new) where
    -- by a step of a seat its entries grow
    pub entries_grow : entries_of log number (log.history new) ≡ entries_of log number (log.history old) ++ step.later.more
    entries_grow =
        ap (entries_of log number) step.later.adds ∙ entries_both number (log.history old) step.later.more
        ∙ ap (λ (l : List E). entries_of log number (log.history old) ++ l) (entries_all number step.later.more step.own)

    -- and those of each other stay
    pub entries_stay : (other : ℕ) → other ≢ number → entries_of log other (log.history new) ≡ entries_of log other (log.history old)
    entries_stay other apart =
        ap (entries_of log other) step.later.adds ∙ entries_both other (log.history old) step.later.more
        ∙ ap (λ (l : List E). entries_of log other (log.history old) ++ l)
        (entries_none other step.later.more (All-weaker (λ (e : E). log.seat_of e ≡ number) (λ (e : E). log.seat_of e ≢ other) (λ e is same. apart (sym same ∙ is)) step.later.more step.own))
        ∙ append-nil (entries_of log other (log.history old))

    -- what another seat may find it still may
    pub found_still : (other : ℕ) (last : T) → other ≢ number → IsFound log other last old → IsFound log other last new
    found_still other last apart it = record { later = later_then last old new it.later step.later; same = entries_stay other apart ∙ it.same }

  -- a seat that has no entries now had none before
  pub none_before : (number : ℕ) (old new : T) → Later log old new → entries_of log number (log.history new) ≡ [] → entries_of log number (log.history old) ≡ []
  none_before number old new later none = front_none (entries_of log number (log.history old)) (entries_of log number later.more)
      (sym (ap (entries_of log number) later.adds ∙ entries_both number (log.history old) later.more) ∙ none)
