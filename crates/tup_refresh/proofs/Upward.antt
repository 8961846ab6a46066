-- Folders at or above others in the order of paths, and whether the home of one comes later.
use Rattle.std.proofs.Common.{◌≡◌, ◌<◌, ◌⊎◌, inl, inr, ℕ, Bool, true, false, List, [], ◌∷◌, ◌++◌, length, Option, Some, None, Result, Ok, Err, refl, sym, ap, ◌∙◌, subst, arith, append_assoc, length-append}
use Rattle.std.specs.declared.cmp.Ordering.{Ordering}
use Rattle.std.specs.declared.cmp.Ordering.TheVariants.{Less, Equal, Greater}
use Rattle.std.specs.FinMap as finite
use Rattle.std.specs.Cmp.Lexicographic.{nat_list_cmp_total}
use Rattle.std.specs.Cmp.{tied_itself}
use Rattle.std.specs.Ordering.{match_ordering}
use Rattle.std.specs.Result.{result_ok}
use Rattle.std.proofs.lemmas.Bool.{or_left, or_right}
use Rattle.std.proofs.lemmas.List.{append-nil}
use Rattle.tup_path.specs.Gives.{GivesUnless}
use Rattle.tup_path.specs.Name.{Names}
use Rattle.tup_path.specs.Order.{by_names, by_names-total, by_names-antisymmetric}
use Rattle.tup_path.specs.Resolve.{above}
use Rattle.tup_path.specs.declared.fault.PathFault.{PathFault}
use Rattle.tup_path.specs.declared.fault.PathFault.TheVariants.{Memory}
use Rattle.tup_site.proofs.Places.{comes_before}
use Rattle.tup_rule.specs.declared.question.Question.{Question}
use Rattle.tup_rule.specs.declared.question.Question.TheVariants as asks
use Rattle.tup_readings.proofs.Below.{last_item, above_named}
use Rattle.tup_graph.specs.Answers.{IsAtOrAbove}
use Rattle.tup_graph.specs.Graph.{GraphState}
use Rattle.tup_refresh.specs.Idle.{up_to, asked_folder, keeps_own, IsBack, AsksBack}

-- a folder up to another one is that one, or an earlier one
abbrev pub IsUpTo : Names → Names → Type 0
IsUpTo dir reader = (dir ≡ reader) ⊎ (by_names dir reader ≡ Less)

pub is_up_to : (dir reader : Names) → up_to dir reader ≡ true → IsUpTo dir reader
is_up_to dir reader = by (by_names dir reader) refl
  where
    by : (o : Ordering) → by_names dir reader ≡ o → match_ordering o true true false ≡ true → IsUpTo dir reader
    by Less e up = inr e
    by Equal e up = inl (by_names-antisymmetric dir reader e)
    by Greater e up = let wrong : false ≡ true = up in cc

-- a folder at or above one that comes no later comes no later
up_to_above : (home dir reader : Names) → IsAtOrAbove home dir → up_to dir reader ≡ true → up_to home reader ≡ true
up_to_above home dir reader ([], is) up = subst (λ (d : Names). up_to d reader ≡ true) (is ∙ append-nil home) up
up_to_above home dir reader (name ∷ rest, is) up = elim (is_up_to dir reader up) [
  | inl same ↦ earlier (subst (λ (d : Names). by_names home d ≡ Less) same first)
  | inr less ↦ earlier (by_names-total.trans home dir reader first less)
]
  where
    first : by_names home dir ≡ Less
    first = subst (λ (d : Names). by_names home d ≡ Less) (sym is) (comes_before nat_list_cmp_total home (name ∷ rest) (λ (none : name ∷ rest ≡ []). cc))

    earlier : by_names home reader ≡ Less → up_to home reader ≡ true
    earlier e = ap (λ (o : Ordering). match_ordering o true true false) e

-- the folder in which something stands has a name less
pub shorter : (path dir : Names) → result_ok (above path) ≡ Some dir → length dir < length path
shorter path dir e = elim (last_item path) [
  | inl empty ↦ absurd (at_top (sym (ap (λ (p : Names). result_ok (above p)) empty) ∙ e))
  | inr some ↦
      let same : some.0 ≡ dir = the some.0 dir (sym (above_named some.0 some.1) ∙ ap (λ (p : Names). result_ok (above p)) (sym some.2) ∙ e) in
      omega (arith, ap (λ (d : Names). length d) same, ap (λ (d : Names). length d) some.2, length-append some.0 (some.1 ∷ []))
]
  where
    at_top : result_ok (above []) ≡ Some dir → ⊥
    at_top e = cc

    the : (a b : Names) → Some a ≡ Some b → a ≡ b
    the a b e = cc

-- what is told of the folder above a path, where that is told
pub parent_is : (path dir : Names) (result : Result (Option Names) PathFault) (found : Option Names) → GivesUnless result Memory (Ok (result_ok (above path))) → result ≡ Ok found → found ≡ Some dir → result_ok (above path) ≡ Some dir
parent_is path dir result found (inl fails) is there = let wrong : ◌≡◌ {A = Result (Option Names) PathFault} (Err Memory) (Ok found) = sym fails ∙ is in cc
parent_is path dir result found (inr same) is there = the (result_ok (above path)) found (sym same ∙ is) ∙ there
  where
    the : (a b : Option Names) → ◌≡◌ {A = Result (Option Names) PathFault} (Ok a) (Ok b) → a ≡ b
    the a b e = cc

module _ (g : GraphState) (reader : Names) where
  pub back_where_up_to : (dir : Names) → up_to dir reader ≡ true → IsBack g reader dir
  back_where_up_to dir up home over some = or_left (up_to home reader) (keeps_own g home) (up_to_above home dir reader over up)

  -- a folder whose reading asked about no other, or isn't kept, and the one in which it stands tell
  pub back_up : (dir : Names) → keeps_own g dir ≡ true → AsksBack g reader (asks.Kind dir) → IsBack g reader dir
  back_up dir own back home (rest, is) some = elim (last_item rest) [
    | inl empty ↦ or_right (up_to home reader) (keeps_own g home) (ap (keeps_own g) (sym (is ∙ ap (λ (r : Names). home ++ r) empty ∙ append-nil home)) ∙ own)
    | inr parts ↦
        back (home ++ parts.0)
        (ap (λ (d : Names). result_ok (above d)) (is ∙ ap (λ (r : Names). home ++ r) parts.2 ∙ sym (append_assoc home parts.0 (parts.1 ∷ []))) ∙ above_named (home ++ parts.0) parts.1)
        home (parts.0, refl) some
  ]

  -- the reader's own folder comes no later
  pub own_is_back : IsBack g reader reader
  own_is_back = back_where_up_to reader (ap (λ (o : Ordering). match_ordering o true true false) (tied_itself by_names-total reader))

  -- a question that asks about a folder asks about no other
  pub asks_from : (question : Question) (dir : Names) → asked_folder question ≡ Some dir → IsBack g reader dir → AsksBack g reader question
  asks_from question dir asked back other up = let same : Some dir ≡ Some other = sym asked ∙ up in let dir_is : dir ≡ other = cc in subst (IsBack g reader) dir_is back

  pub asks_none : (question : Question) → asked_folder question ≡ None → AsksBack g reader question
  asks_none question asked dir up = let wrong : None ≡ Some dir = sym asked ∙ up in cc
