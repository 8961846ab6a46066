-- Folders that are to be read again, one after another.
use Rattle.std.specs.Prelude.{◌≡◌, ◌⊎◌, ◌↔◌, ◌+◌, ◌<◌, ◌≤◌, ℕ, Bool, true, false, not, Decides, List, [], ◌∷◌, ◌++◌, Option, None, Contains, length}
use Rattle.std.proofs.Common.{refl, sym, ap, subst, ◌∙◌, inl, inr, take, take_all, get_or}
use Rattle.std.specs.BTreeSet.{BTreeSet}
use Rattle.std.specs.FinMap as finite
use Rattle.std.proofs.lemmas.Bool.{true≢false}
use Rattle.std.proofs.lemmas.List.{get_or_default}
use Rattle.std.proofs.lemmas.List.Elements.{All-nil, All-cons, All-append, Contains-push, Contains-push_cases, Contains-append_left}
use Rattle.tup_path.specs.Name.{Names, Content}
use Rattle.tup_path.specs.Order.{by_names}
use Rattle.tup_path.proofs.Same.{by_names-decides}
use Rattle.tup_rule.specs.declared.question.Noted.{Noted}
use Rattle.tup_rule.specs.declared.question.Question.{Question}
use Rattle.tup_rule.specs.declared.question.Reading.{Reading}
use Rattle.tup_graph.specs.Answers.{tupfile, IsSource}
use Rattle.tup_graph.specs.Graph.{GraphState, source}
use Rattle.tup_graph.specs.Scan.{IsStale}
use Rattle.tup_closure.proofs.Asked.{taken}
use Rattle.tup_closure.proofs.Members.{contained, in_set, in_empty}
use Rattle.tup_scan_diff.specs.Index.{HasTupfile}
use Rattle.tup_scan_diff.specs.Present.{IsPresent, graph_of}
use Rattle.tup_scan_diff.specs.Sets.{Has, GrowsBy}
use Rattle.tup_scan_diff.specs.Stale.{IsOutdated, IsOutdatedIn, IsUnreadIn}
use Rattle.tup_scan_diff.specs.Told.{AreToldSo, IsToldOtherwise, IsToldSo, Tells}
use Rattle.tup_scan_diff.specs.declared.present.Present.{Present}
use Rattle.tup_scan_diff.proofs.Editing.{entry_found, found_entry}
use Rattle.tup_scan_diff.proofs.Sets.{set_on, set_as}

-- ---- a reading is outdated

pub all_told : (config : Option Content) (present : Present) (reader : Names) (asked : List (Question × Noted)) → AreToldSo config present reader asked → IsToldOtherwise config present reader asked → ⊥
all_told config present reader asked all (question, told, (k, less, here), other) =
    other (subst (λ (one : Question × Noted). IsToldSo config present reader one.0 one.1) here (all k (question, told) less))

-- one answer more that still is so
pub told_more : (config : Option Content) (present : Present) (reader : Names) (asked : List (Question × Noted)) (i : ℕ) (one d : Question × Noted) → i < length asked → one ≡ get_or asked i d
    → AreToldSo config present reader (take i asked) → IsToldSo config present reader one.0 one.1 → AreToldSo config present reader (take (i + 1) asked)
told_more config present reader asked i one d less here before so =
    subst (AreToldSo config present reader) (sym (taken asked i one d less here))
    (All-append (λ (x : Question × Noted). IsToldSo config present reader x.0 x.1) (take i asked) (one ∷ []) before (All-cons (λ (x : Question × Noted). IsToldSo config present reader x.0 x.1) one [] so (All-nil (λ (x : Question × Noted). IsToldSo config present reader x.0 x.1))))

-- one that isn't
pub told_otherwise : (config : Option Content) (present : Present) (reader : Names) (asked : List (Question × Noted)) (i : ℕ) (one d : Question × Noted) → i < length asked → one ≡ get_or asked i d
    → (IsToldSo config present reader one.0 one.1 → ⊥) → Tells false (AreToldSo config present reader asked) (IsToldOtherwise config present reader asked)
told_otherwise config present reader asked i one d less here other = (
  λ e. absurd (true≢false (sym e)),
  λ _. (one.0, one.1, (i, less, get_or_default asked i one d less ∙ sym here), other),
)

-- all are
pub all_told_so : (config : Option Content) (present : Present) (reader : Names) (asked : List (Question × Noted)) (i : ℕ) → length asked ≤ i → AreToldSo config present reader (take i asked) → Tells true (AreToldSo config present reader asked) (IsToldOtherwise config present reader asked)
all_told_so config present reader asked i whole so = (λ _. subst (AreToldSo config present reader) (take_all i asked whole) so, λ e. absurd (true≢false e))

-- whether a reading is outdated, whose folder has a Tupfile
pub outdated_decides : (config : Option Content) (present : Present) (dir : Names) (reading : Reading) (b : Bool) → HasTupfile present.index dir → Tells b (AreToldSo config present dir reading.asked) (IsToldOtherwise config present dir reading.asked)
    → Decides (not b) (IsOutdated config present dir reading)
outdated_decides config present dir reading true tup tells = (
  λ e. absurd (true≢false (sym e)),
  λ old. elim old [ inl gone ↦ absurd (gone tup) | inr told ↦ absurd (all_told config present dir reading.asked (tells.0 refl) told) ],
)
outdated_decides config present dir reading false tup tells = (λ _. inr (tells.1 refl), λ _. refl)

-- ---- one folder more

pub outdated_more : (config : Option Content) (present : Present) (readings : List (Names × Reading)) (dir : Names) (reading : Reading) (a b c : BTreeSet Names)
    → GrowsBy by_names (IsOutdatedIn config present readings) a b → GrowsBy by_names (λ other. (other ≡ dir) × IsOutdated config present dir reading) b c
    → GrowsBy by_names (IsOutdatedIn config present (readings ++ (dir, reading) ∷ [])) a c
outdated_more config present readings dir reading a b c first one = set_as to from (set_on first one)
  where
    to : (d : Names) → IsOutdatedIn config present readings d ⊎ ((d ≡ dir) × IsOutdated config present dir reading) → IsOutdatedIn config present (readings ++ (dir, reading) ∷ []) d
    to d (inl (r, h, old)) = (r, Contains-append_left readings ((dir, reading) ∷ []) (d, r) h, old)
    to d (inr (e, old)) = (
      reading,
      subst (λ (x : Names). Contains (readings ++ (dir, reading) ∷ []) (x, reading)) (sym e) (Contains-push readings (dir, reading)),
      subst (λ (x : Names). IsOutdated config present x reading) (sym e) old,
    )

    from : (d : Names) → IsOutdatedIn config present (readings ++ (dir, reading) ∷ []) d → IsOutdatedIn config present readings d ⊎ ((d ≡ dir) × IsOutdated config present dir reading)
    from d (r, h, old) = elim (Contains-push_cases readings (dir, reading) (d, r) h) [
      | inl before ↦ inl (r, before, old)
      | inr last ↦ inr (
        ap (λ (x : Names × Reading). x.0) (sym last),
        subst (λ (x : Names × Reading). IsOutdated config present x.0 x.1) (sym last) old,
      )
    ]

pub unread_more : (present : Present) (dirs : List Names) (dir : Names) (a b c : BTreeSet Names)
    → GrowsBy by_names (IsUnreadIn present dirs) a b → GrowsBy by_names (λ other. (other ≡ dir) × (finite.get present.nodes.now.readings dir ≡ None)) b c
    → GrowsBy by_names (IsUnreadIn present (dirs ++ dir ∷ [])) a c
unread_more present dirs dir a b c first one = set_as to from (set_on first one)
  where
    to : (d : Names) → IsUnreadIn present dirs d ⊎ ((d ≡ dir) × (finite.get present.nodes.now.readings dir ≡ None)) → IsUnreadIn present (dirs ++ dir ∷ []) d
    to d (inl (h, none)) = (Contains-append_left dirs (dir ∷ []) d h, none)
    to d (inr (e, none)) = (subst (Contains (dirs ++ dir ∷ [])) (sym e) (Contains-push dirs dir), ap (finite.get present.nodes.now.readings) e ∙ none)

    from : (d : Names) → IsUnreadIn present (dirs ++ dir ∷ []) d → IsUnreadIn present dirs d ⊎ ((d ≡ dir) × (finite.get present.nodes.now.readings dir ≡ None))
    from d (h, none) = elim (Contains-push_cases dirs dir d h) [
      | inl before ↦ inl (before, none)
      | inr last ↦ inr (sym last, ap (finite.get present.nodes.now.readings) last ∙ none)
    ]

-- ---- all of them

module _ (config : Option Content) (present : Present) (is : IsPresent config present) (a b c : BTreeSet Names) (empty : a.keys ≡ [])
    (first : GrowsBy by_names (IsOutdatedIn config present (finite.entries present.nodes.now.readings)) a b) (second : GrowsBy by_names (IsUnreadIn present present.index.tupfiles.keys) b c) where
  abbrev g : GraphState
  g = graph_of present

  old_to : (dir : Names) (reading : Reading) → IsOutdated config present dir reading → (IsSource (source g) (tupfile dir) → ⊥) ⊎ IsToldOtherwise config present dir reading.asked
  old_to dir reading (inl gone) = inl (λ tup. gone ((is.index.tupfiles dir).1 tup))
  old_to dir reading (inr told) = inr told

  old_from : (dir : Names) (reading : Reading) → (IsSource (source g) (tupfile dir) → ⊥) ⊎ IsToldOtherwise config present dir reading.asked → IsOutdated config present dir reading
  old_from dir reading (inl gone) = inl (λ tup. gone ((is.index.tupfiles dir).0 tup))
  old_from dir reading (inr told) = inr told

  outdated : (dir : Names) → IsOutdatedIn config present (finite.entries present.nodes.now.readings) dir → IsStale g config dir
  outdated dir (reading, h, old) = inr (reading, found_entry g.readings dir reading h, old_to dir reading old)

  unread : (dir : Names) → IsUnreadIn present present.index.tupfiles.keys dir → IsStale g config dir
  unread dir (h, none) = inl ((is.index.tupfiles dir).0 (in_set by_names by_names-decides present.index.tupfiles dir h), none)

  stale_is : (dir : Names) → IsStale g config dir → Has by_names c dir
  stale_is dir (inl (tup, none)) = second.keys.all dir (contained by_names by_names-decides present.index.tupfiles dir ((is.index.tupfiles dir).1 tup), none)
  stale_is dir (inr (reading, kept, old)) = second.keys.kept dir (first.keys.all dir (reading, entry_found g.readings dir reading kept, old_from dir reading old))

  pub all_stale : (dir : Names) → Has by_names c dir ↔ IsStale g config dir
  all_stale dir = (
    λ h. elim (second.keys.only dir h) [
      | inl before ↦ elim (first.keys.only dir before) [
        | inl at_first ↦ absurd (true≢false (sym at_first ∙ in_empty by_names by_names-decides a dir empty))
        | inr old ↦ outdated dir old
      ]
      | inr new ↦ unread dir new
    ],
    stale_is dir,
  )
