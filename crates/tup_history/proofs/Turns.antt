-- Turns in a row: one turn more, and why they end.
use Rattle.std.proofs.Common.{◌≡◌, ◌<◌, ℕ, zero, suc, Bool, true, List, [], ◌∷◌, ◌++◌, length, take, Option, None, Some, inl, inr, refl, sym, ap, subst, ◌∙◌, arith}
use Rattle.std.specs.Prelude.{get_or, slice_get, is_err, OnErr, Result, Ok, Err}
use Rattle.std.specs.Iterator.{Yields}
use Rattle.std.specs.Vec.Iter.{into_iter_items, into_iter_len, into_iter_steps}
use Rattle.std.specs.declared.vec.IntoIter.{IntoIter}
use Rattle.std.proofs.lemmas.Iterator.Adapters.{YieldsList-from_vec}
use Rattle.std.proofs.lemmas.Iterator.Consumers.{YieldsList-so_far, YieldsList-turn, YieldsList-end}
use Rattle.std.proofs.lemmas.List.{map-id}
use Rattle.tup_site.specs.declared.refused.MemRefused.{MemRefused}
use Rattle.tup_site.specs.declared.refused.MemRefused.TheVariants.{Memory}
use Rattle.tup_runner.specs.Next.{Next}
use Rattle.tup_history.specs.Chain.{Leads}
use Rattle.tup_history.specs.History.{Standing, StandsAs, IsHistory, RefusesTurn, AreLived}
use Rattle.tup_history.specs.declared.turn.End.{End}
use Rattle.tup_history.specs.declared.turn.Turn.{Turn}
use Rattle.tup_history.proofs.Told.{told_at_last}

-- one step more
pub leads_on : {S T E : Type 0} (step : T → E → S → S → Type 0) (turns : List T) (ends : List E) (from mid to : S) (turn : T) (end : E) → Leads step turns ends from mid → step turn end mid to → Leads step (turns ++ turn ∷ []) (ends ++ end ∷ []) from to
leads_on step [] [] from mid to turn end is does = (to, subst (λ s. step turn end s to) is does, refl)
leads_on step (t ∷ turns) (e ∷ ends) from mid to turn end leads does = (leads.0, leads.1, leads_on step turns ends leads.0 mid to turn end leads.2 does)
leads_on step [] (e ∷ ends) from mid to turn end leads does = absurd leads
leads_on step (t ∷ turns) [] from mid to turn end leads does = absurd leads

-- ---- the turns that were taken so far

at_place : {A : Type 0} (items : List A) (at : ℕ) (d : A) → at < length items → slice_get items at ≡ Some (get_or items at d)
at_place [] at d below = absurd (omega (arith, below))
at_place (x ∷ items) zero d below = refl
at_place (x ∷ items) (suc at) d below = at_place items at d (omega (arith, below))

module _ {A Z : Type 0} (all : List A) (it : IntoIter A Z) (items : into_iter_items it ≡ all) (len : into_iter_len it ≡ length all) (xs : List A) (t : IntoIter A Z) (y : Yields (into_iter_steps {X = A} {Z = Z}) it xs t) where
  pub taken : take (length xs) all ≡ xs
  taken = sym (YieldsList-so_far (YieldsList-from_vec all items len) xs t y) ∙ map-id xs

  pub here : (r : Option A) (u : IntoIter A Z) (x : A) → r ≡ Some x → into_iter_steps {X = A} {Z = Z} t r u → slice_get all (length xs) ≡ Some x
  here r u x is step = let k = YieldsList-turn (YieldsList-from_vec all items len) xs t y r u x is step in at_place all (length xs) x k.0 ∙ ap (λ (a : A). Some a) (sym k.1)

  pub were_all : (r : Option A) (u : IntoIter A Z) → r ≡ None → into_iter_steps {X = A} {Z = Z} t r u → length xs ≡ length all
  were_all r u is step = (YieldsList-end (YieldsList-from_vec all items len) xs t y r u is step).1

-- ---- why turns end

stands_itself : (stands : Standing) → StandsAs stands stands
stands_itself stands = record {
  site = record { world = refl; changes = refl; beside = record { first = refl; calls = refl; faults = refl; fails = refl; left = refl } };
  runners = refl;
  commands = refl;
  sink = refl;
  held = refl;
}

-- where there was no room for the ends
pub refused_so : {T E : Type 0} (r : Result T E) (P : Type 0) → is_err r ≡ true → OnErr r P → P
refused_so (Ok value) P is holds = cc is
refused_so (Err refused) P is holds = holds

module _ (tells : Bool) (next : Next) where
  pub no_room : (turns : List Turn) (ends : List End) (from : Standing) → ends ≡ [] → 0 < length turns → AreLived tells next turns ends (Some (0, Memory)) from from
  no_room [] ends from none some = absurd (omega (arith, some))
  no_room (turn ∷ turns) ends from none some =
      subst (λ (e : List End). AreLived tells next (turn ∷ turns) e (Some (0, Memory)) from from) (sym none) (record {
        last = from;
        history = refl;
        told = tt;
        stops = (refl, record { turn = turn; stands = refl; reason = inr (refl, refl) });
        stands = stands_itself from;
      })

  -- all were carried out
  pub all_lived : (turns taken : List Turn) (ends noted : List End) (from to : Standing) → noted ≡ ends → take (length taken) turns ≡ taken → length taken ≡ length turns → length ends ≡ length taken → IsHistory tells next taken ends from to →
      AreLived tells next turns noted None from to
  all_lived turns taken ends noted from to is front all count history =
      let these : take (length ends) turns ≡ taken = ap (λ (n : ℕ). take n turns) count ∙ front in
      subst (λ (e : List End). AreLived tells next turns e None from to) (sym is) (record {
        last = to;
        history = subst (λ (l : List Turn). IsHistory tells next l ends from to) (sym these) history;
        told = told_at_last tells next (take (length ends) turns) ends from to to (subst (λ (l : List Turn). IsHistory tells next l ends from to) (sym these) history) (stands_itself to);
        stops = count ∙ all;
        stands = stands_itself to;
      })

  -- all up to one that was refused
  pub lived_so_far : (turns taken : List Turn) (turn : Turn) (ends noted : List End) (at : ℕ) (why : MemRefused) (from mid to : Standing) → noted ≡ ends → at ≡ length ends → take (length taken) turns ≡ taken → length ends ≡ length taken →
      slice_get turns (length taken) ≡ Some turn → RefusesTurn turn mid.site why → IsHistory tells next taken ends from mid → StandsAs mid to → AreLived tells next turns noted (Some (at, why)) from to
  lived_so_far turns taken turn ends noted at why from mid to is place front count stands refuses history same =
      let these : take (length ends) turns ≡ taken = ap (λ (n : ℕ). take n turns) count ∙ front in
      let there : slice_get turns at ≡ Some turn = ap (λ (n : ℕ). slice_get turns n) (place ∙ count) ∙ stands in
      subst (λ (e : List End). AreLived tells next turns e (Some (at, why)) from to) (sym is) (record {
        last = mid;
        history = subst (λ (l : List Turn). IsHistory tells next l ends from mid) (sym these) history;
        told = told_at_last tells next (take (length ends) turns) ends from mid to (subst (λ (l : List Turn). IsHistory tells next l ends from mid) (sym these) history) same;
        stops = (place, record { turn = turn; stands = there; reason = inl refuses });
        stands = same;
      })
