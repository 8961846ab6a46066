-- Puts of what doesn't stand, one after another.
use Rattle.std.specs.Prelude.{◌≡◌, ◌⊎◌, List, [], ◌∷◌, ◌++◌, Contains, map}
use Rattle.std.proofs.Common.{sym, ap, subst, ◌∙◌, inl, inr}
use Rattle.std.proofs.lemmas.List.{append-nil, map-append}
use Rattle.std.proofs.lemmas.List.Elements.{Contains-append_left, Contains-append_right, Contains-append_cases}
use Rattle.tup_graph.specs.declared.edit.Edit.{Edit}
use Rattle.tup_readers.proofs.Entries.{front_or_behind, none_in}
use Rattle.tup_rule_diff.specs.Edits.{AreNews, PutsNews}
use Rattle.tup_rule_diff.proofs.Pushing.{behind}

module _ {K X : Type 0} (Stands : K → X → Type 0) (put : K × X → Edit) where
  pub none_put : (edits : List Edit) → PutsNews Stands put [] edits edits
  none_put edits = ([], record { within = λ k x h. h; rest = λ k x h. inl h }, sym (append-nil edits))

  pub stays_put : (one : K × X) (edits : List Edit) → Stands one.0 one.1 → PutsNews Stands put (one ∷ []) edits edits
  stays_put one edits stands = (
    [],
    record {
      within = λ k x h. absurd (none_in (k, x) h);
      rest = λ k x h. elim (front_or_behind one (k, x) [] h) [
        | inl same ↦ inr (subst (λ (e : K × X). Stands e.0 e.1) same stands)
        | inr later ↦ absurd (none_in (k, x) later)
      ];
    },
    sym (append-nil edits),
  )

  pub one_put : (one : K × X) (old new : List Edit) → new ≡ old ++ put one ∷ [] → PutsNews Stands put (one ∷ []) old new
  one_put one old new is = (one ∷ [], record { within = λ k x h. h; rest = λ k x h. inl h }, is)

  pub puts_on : (xs ys : List (K × X)) (a b c : List Edit) → PutsNews Stands put xs a b → PutsNews Stands put ys b c → PutsNews Stands put (xs ++ ys) a c
  puts_on xs ys a b c (first, firsts, is) (second, seconds, then_is) = (
    first ++ second,
    record {
      within = λ k x h. elim (Contains-append_cases first second (k, x) h) [
        | inl one ↦ Contains-append_left xs ys (k, x) (firsts.within k x one)
        | inr two ↦ Contains-append_right xs ys (k, x) (seconds.within k x two)
      ];
      rest = λ k x h. elim (Contains-append_cases xs ys (k, x) h) [
        | inl one ↦ front_rest k x (firsts.rest k x one)
        | inr two ↦ back_rest k x (seconds.rest k x two)
      ];
    },
    behind a b c (map put first) (map put second) is then_is ∙ ap (λ (l : List Edit). a ++ l) (sym (map-append put first second)),
  )
    where
      front_rest : (k : K) (x : X) → Contains first (k, x) ⊎ Stands k x → Contains (first ++ second) (k, x) ⊎ Stands k x
      front_rest k x (inl new) = inl (Contains-append_left first second (k, x) new)
      front_rest k x (inr stands) = inr stands

      back_rest : (k : K) (x : X) → Contains second (k, x) ⊎ Stands k x → Contains (first ++ second) (k, x) ⊎ Stands k x
      back_rest k x (inl new) = inl (Contains-append_right first second (k, x) new)
      back_rest k x (inr stands) = inr stands
