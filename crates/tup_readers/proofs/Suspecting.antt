-- Rules whose records tell other stamps than those that are seen, while files and records change.
use Rattle.std.specs.Prelude.{◌≡◌, ◌≢◌, ◌⊎◌, ◌↔◌, ℕ, ◌<◌, ◌≤◌, Bool, true, false, cond, List, [], ◌∷◌, ◌++◌, Option, None, Some, Contains, Decides, length}
use Rattle.std.proofs.Common.{refl, sym, ap, subst, ◌∙◌, inl, inr, take, get_or}
use Rattle.std.proofs.lemmas.List.{get_or_default, take_all}
use Rattle.std.proofs.lemmas.List.Elements.{Contains-push, Contains-push_cases, Contains-append_left}
use Rattle.std.specs.BTreeSet.{BTreeSet}
use Rattle.std.specs.Cmp.{nat_cmp_total}
use Rattle.std.specs.FinMap as finite
use Rattle.std.specs.FinMap.{nat_cmp-IsAntisymmetric}
use Rattle.std.specs.Ordering.{eq_by_cmp, nat_cmp}
use Rattle.tup_path.specs.Name.{Names}
use Rattle.tup_path.specs.Order.{by_names, by_names-antisymmetric, by_names-total}
use Rattle.tup_stamp.specs.declared.Stamp.{Stamp}
use Rattle.tup_record.specs.declared.run.RunRecord.{RunRecord}
use Rattle.tup_readers.specs.Changes.{Adds, AddsAtLeast, Takes}
use Rattle.tup_graph.specs.Graph.{GraphState}
use Rattle.tup_readers.specs.Index.{IsUserIn}
use Rattle.tup_readers.specs.Suspects.{AskedOther, HasAllOthers, HasOthersOf, IsAmong, Runs, Stamps, TellsOther, WroteOther}
use Rattle.tup_readers.proofs.Adding.{added_twice}
use Rattle.tup_readers.proofs.Entries.{entry_found, exact-decides, none_in}
use Rattle.tup_readers.proofs.Keeping.{none_some, some_same, true_false}

same_path : (q path : Names) → eq_by_cmp by_names q path ≡ true → q ≡ path
same_path q path e = (exact-decides by_names-total by_names-antisymmetric q path).0 e

other_path : (q path : Names) → eq_by_cmp by_names q path ≡ false → q ≡ path → ⊥
other_path q path e same = true_false (sym ((exact-decides by_names-total by_names-antisymmetric q path).1 same) ∙ e)

same_number : (n number : ℕ) → eq_by_cmp nat_cmp n number ≡ true → n ≡ number
same_number n number e = (exact-decides nat_cmp_total nat_cmp-IsAntisymmetric n number).0 e

other_number : (n number : ℕ) → eq_by_cmp nat_cmp n number ≡ false → n ≡ number → ⊥
other_number n number e same = true_false (sym ((exact-decides nat_cmp_total nat_cmp-IsAntisymmetric n number).1 same) ∙ e)

-- ---- an ask was told another stamp, or a file was written with another

module _ {G : Type 0} (tell : G → Option Stamp) (seen : Stamps) (told : List (Names × G)) where
  abbrev Other : List (Names × G) → Type 0
  Other list = (path : Names) × (given : G) × Contains list (path, given) × (tell given ≢ finite.get seen path)

  pub other_here : (i : ℕ) (one d : Names × G) → i < length told → one ≡ get_or told i d → (tell one.1 ≡ finite.get seen one.0 → ⊥) → Decides true (Other told)
  other_here i one d less here other = (λ _. (one.0, one.1, (i, less, get_or_default told i one d less ∙ sym here), other), λ _. refl)

  pub none_other : (i : ℕ) → length told ≤ i → (Other (take i told) → ⊥) → Decides false (Other told)
  none_other i whole none = (λ e. absurd (true_false (sym e)), λ h. absurd (none (subst Other (sym (take_all i told whole)) h)))

-- ---- a file has another stamp

pub put_elsewhere : (seen : Stamps) (path : Names) (stamp : Stamp) (q : Names) → (q ≡ path → ⊥) → finite.get (finite.insert seen path stamp) q ≡ finite.get seen q
put_elsewhere seen path stamp q apart = finite.get-insert by_names-total seen path stamp q ∙ either (eq_by_cmp by_names q path) refl
  where
    either : (b : Bool) → eq_by_cmp by_names q path ≡ b → cond b (Some stamp) (finite.get seen q) ≡ finite.get seen q
    either true e = absurd (apart (same_path q path e))
    either false e = refl

pub gone_elsewhere : (seen : Stamps) (path q : Names) → (q ≡ path → ⊥) → finite.get (finite.remove seen path) q ≡ finite.get seen q
gone_elsewhere seen path q apart = finite.get-remove by_names-total seen path q ∙ either (eq_by_cmp by_names q path) refl
  where
    either : (b : Bool) → eq_by_cmp by_names q path ≡ b → cond b None (finite.get seen q) ≡ finite.get seen q
    either true e = absurd (apart (same_path q path e))
    either false e = refl

module _ (g : GraphState) (later : Stamps) (path : Names) (old new : BTreeSet ℕ) where
  pub seen_moved : ((q : Names) → (q ≡ path → ⊥) → finite.get later q ≡ finite.get g.seen q) → HasAllOthers g.seen g.runs old → AddsAtLeast (IsUserIn g path) (IsAmong old) (IsAmong new) → HasAllOthers later g.runs new
  seen_moved elsewhere all added number run here other = elim other [ inl asks ↦ asked asks | inr wrote ↦ written wrote ]
    where
      asked : AskedOther later run.asks → IsAmong new number
      asked (q, given, in_it, differs) = either (eq_by_cmp by_names q path) refl
        where
          either : (b : Bool) → eq_by_cmp by_names q path ≡ b → IsAmong new number
          either true e = added number (inr (inl (run, given, here, subst (λ (p : Names). Contains run.asks (p, given)) (same_path q path e) in_it)))
          either false e = added number (inl (all number run here (inl (q, given, in_it, λ is. differs (is ∙ sym (elsewhere q (other_path q path e)))))))

      written : WroteOther later run.writes → IsAmong new number
      written (q, given, in_it, differs) = either (eq_by_cmp by_names q path) refl
        where
          either : (b : Bool) → eq_by_cmp by_names q path ≡ b → IsAmong new number
          either true e = added number (inr (inr (run, given, here, subst (λ (p : Names). Contains run.writes (p, given)) (same_path q path e) in_it)))
          either false e = added number (inl (all number run here (inr (q, given, in_it, λ is. differs (is ∙ sym (elsewhere q (other_path q path e)))))))

-- ---- a record goes, or comes

module _ (seen : Stamps) (runs : Runs) (number : ℕ) (old new : BTreeSet ℕ) where
  without : (n : ℕ) (b : Bool) → eq_by_cmp nat_cmp n number ≡ b → finite.get (finite.remove runs number) n ≡ cond b None (finite.get runs n)
  without n b e = finite.get-remove nat_cmp_total runs number n ∙ ap (λ c. cond c None (finite.get runs n)) e

  pub run_gone : HasAllOthers seen runs old → Takes (λ n. n ≡ number) (IsAmong old) (IsAmong new) → HasAllOthers seen (finite.remove runs number) new
  run_gone all takes n run here other = either (eq_by_cmp nat_cmp n number) refl
    where
      either : (b : Bool) → eq_by_cmp nat_cmp n number ≡ b → IsAmong new n
      either true e = absurd (none_some run (sym (without n true e) ∙ here))
      either false e = (takes n).1 (all n run (sym (without n false e) ∙ here) other, other_number n number e)

  pub run_put : (fresh : RunRecord) → HasAllOthers seen (finite.remove runs number) old → Adds (λ n. (n ≡ number) × TellsOther seen fresh) (IsAmong old) (IsAmong new) → HasAllOthers seen (finite.insert runs number fresh) new
  run_put fresh all added n run here other = either (eq_by_cmp nat_cmp n number) refl
    where
      within : (b : Bool) → eq_by_cmp nat_cmp n number ≡ b → finite.get (finite.insert runs number fresh) n ≡ cond b (Some fresh) (finite.get runs n)
      within b e = finite.get-insert nat_cmp_total runs number fresh n ∙ ap (λ c. cond c (Some fresh) (finite.get runs n)) e

      either : (b : Bool) → eq_by_cmp nat_cmp n number ≡ b → IsAmong new n
      either true e = (added n).1 (inr (same_number n number e, subst (TellsOther seen) (some_same run fresh (sym here ∙ within true e)) other))
      either false e = (added n).1 (inl (all n run (without n false e ∙ sym (within false e) ∙ here) other))

-- ---- one record after another

pub entry_looked : (seen : Stamps) (entries : List (ℕ × RunRecord)) (number : ℕ) (run : RunRecord) (old new : BTreeSet ℕ) → HasOthersOf seen entries old → Adds (λ n. (n ≡ number) × TellsOther seen run) (IsAmong old) (IsAmong new)
    → HasOthersOf seen (entries ++ (number, run) ∷ []) new
entry_looked seen entries number run old new all added n r h other = elim (Contains-push_cases entries (number, run) (n, r) h) [
  | inl before ↦ (added n).1 (inl (all n r before other))
  | inr last ↦ (added n).1 (inr (ap (λ (x : ℕ × RunRecord). x.0) (sym last), subst (TellsOther seen) (ap (λ (x : ℕ × RunRecord). x.1) (sym last)) other))
]

pub none_looked : (seen : Stamps) (numbers : BTreeSet ℕ) → HasOthersOf seen [] numbers
none_looked seen numbers n r h other = absurd (none_in (n, r) h)

pub all_looked : (seen : Stamps) (runs : Runs) (entries : List (ℕ × RunRecord)) (numbers : BTreeSet ℕ) → entries ≡ finite.entries runs → HasOthersOf seen entries numbers → HasAllOthers seen runs numbers
all_looked seen runs entries numbers are of n run here other =
    of n run (subst (λ (l : List (ℕ × RunRecord)). Contains l (n, run)) (sym are) (entry_found nat_cmp_total nat_cmp-IsAntisymmetric runs n run here)) other

pub nobody_runs : (seen : Stamps) (numbers : BTreeSet ℕ) → HasAllOthers seen finite.empty numbers
nobody_runs seen numbers n run here other = absurd (none_some run (sym (finite.get-empty nat_cmp n) ∙ here))

-- ---- numbers are added

pub no_numbers : (Old : ℕ → Type 0) → Adds (λ n. Contains [] n) Old Old
no_numbers Old n = (λ now. inl now, λ e. elim e [ inl old ↦ old | inr h ↦ absurd (none_in n h) ])

pub number_added : {Old Mid New : ℕ → Type 0} → (list : List ℕ) (number : ℕ) → Adds (Contains list) Old Mid → Adds (λ n. n ≡ number) Mid New → Adds (Contains (list ++ number ∷ [])) Old New
number_added list number = added_twice both
  where
    both : (n : ℕ) → Contains (list ++ number ∷ []) n ↔ (Contains list n ⊎ (n ≡ number))
    both n = (
      λ h. elim (Contains-push_cases list number n h) [ inl before ↦ inl before | inr last ↦ inr (sym last) ],
      λ e. elim e [
        | inl before ↦ Contains-append_left list (number ∷ []) n before
        | inr is ↦ subst (Contains (list ++ number ∷ [])) (sym is) (Contains-push list number)
      ],
    )
