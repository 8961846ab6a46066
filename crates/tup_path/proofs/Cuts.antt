-- Texts cut at their slashes, and where the parts lead.
use Rattle.std.proofs.Common.{◌≡◌, ◌≢◌, ℕ, ◌<◌, false, eqb, List, [], ◌∷◌, ◌++◌, length, get_or, All, Result, Err, inl, inr, ◌⊎◌, refl, ap, sym, ◌∙◌}
use Rattle.std.proofs.lemmas.Bool.{ne_eqb}
use Rattle.std.proofs.lemmas.Grind.{get_or_default_zero}
use Rattle.std.proofs.lemmas.List.Splits.{slice_split_none, slice_split_at}
use Rattle.tup_path.specs.Name.{Names}
use Rattle.tup_path.specs.Resolve.{parts, step, walk}
use Rattle.tup_path.proofs.Walks.{walk_off}
use Rattle.tup_path.specs.declared.fault.PathFault.{PathFault}
use Rattle.tup_path.specs.declared.fault.PathFault.TheVariants.{Memory}

no_slash : (bs : List ℕ) → ((i : ℕ) → i < length bs → get_or bs i 0 ≢ 47) → All (λ b. eqb b 47 ≡ false) bs
no_slash bs h = λ k d l. ne_eqb _ 47 (λ e. h k l (sym (get_or_default_zero bs k d l) ∙ e))

pub parts_last : (text : List ℕ) → ((i : ℕ) → i < length text → get_or text i 0 ≢ 47) → parts text ≡ text ∷ []
parts_last text h = slice_split_none (λ b. eqb b 47) text (no_slash text h)

pub parts_first : (text part more : List ℕ) → text ≡ part ++ (47 ∷ more) → ((i : ℕ) → i < length part → get_or part i 0 ≢ 47) → parts text ≡ part ∷ parts more
parts_first text part more e h = ap parts e ∙ slice_split_at (λ b. eqb b 47) part 47 more (no_slash part h) refl

-- where a walk stops, or lacks memory
pub walk_stops : (result start : Result Names PathFault) (dir : Names) (part : List ℕ) (more : List (List ℕ)) (fault : PathFault) → start ≡ walk dir (part ∷ more) → result ≡ Err fault
    → (fault ≡ Memory) ⊎ (step dir part ≡ Err fault) → (result ≡ Err Memory) ⊎ (result ≡ start)
walk_stops result start dir part more fault turn gone (inl memory) = inl (gone ∙ ap (λ f. Err f) memory)
walk_stops result start dir part more fault turn gone (inr off) = inr (gone ∙ sym (turn ∙ walk_off dir part more fault off))
