-- The folders on the way to an output, case by case.
use Rattle.std.proofs.Common.{◌≡◌, ℕ, ◌+◌, ◌-◌, ◌<◌, ◌≤◌, zero, suc, Bool, false, ◌||◌, if◌then◌else◌, List, [], ◌∷◌, ◌++◌, length, Option, Some, None, Result, Ok, Err, refl, sym, ap, ◌∙◌, arith, length-append}
use Rattle.std.specs.Result.{result_ok}
use Rattle.tup_path.specs.Name.{Names}
use Rattle.tup_path.specs.Resolve.{above}
use Rattle.tup_path.specs.declared.fault.PathFault.{PathFault}
use Rattle.tup_lex.specs.declared.kind.ParseKind.TheVariants.{ForeignOutput}
use Rattle.tup_rule.specs.declared.draft.Draft.{Draft}
use Rattle.tup_rule.specs.declared.question.Kind.{Kind}
use Rattle.tup_query.specs.declared.fault.ParseFault.{ParseFault}
use Rattle.tup_query.specs.Reads.{Reads, gives, and_then}
use Rattle.tup_query.specs.Ask.{kind_at}
use Rattle.tup_query.specs.Spot.{Spot, refused}
use Rattle.tup_rule_line.specs.Input.{is_file}
use Rattle.tup_rule_line.specs.Output.{is_taken, is_blocked, is_way_blocked, between}
use Rattle.tup_rule_line.proofs.Below.{above_is, top_alone}

-- ---- a folder: what is asked of it, one after another
abbrev pub is_here : List Draft → List Names → Names → Kind → Reads ParseFault Bool
is_here drafts outputs folder kind = gives (is_file kind || is_taken drafts outputs folder)

abbrev pub at_folder : List Draft → List Names → Names → Reads ParseFault Bool
at_folder drafts outputs folder = and_then (kind_at folder) (is_here drafts outputs folder)

abbrev pub unless_tupfile : Spot → List Draft → List Names → Names → Kind → Reads ParseFault Bool
unless_tupfile at drafts outputs folder kind = if is_file kind then refused at ForeignOutput else at_folder drafts outputs folder

abbrev pub by_tupfile : Spot → List Draft → List Names → Names → Names → Reads ParseFault Bool
by_tupfile at drafts outputs folder tupfile = and_then (kind_at tupfile) (unless_tupfile at drafts outputs folder)

-- ---- all folders on the way
-- the folder above a path, which has one name less
pub its_folder : (path folder : Names) → Some folder ≡ result_ok (above path) → (above path ≡ Ok folder) × (length path ≡ length folder + 1)
its_folder path folder e = by (above path) refl e
  where
    by : (found : Result Names PathFault) → above path ≡ found → Some folder ≡ result_ok found → (above path ≡ Ok folder) × (length path ≡ length folder + 1)
    by (Ok up) is e =
        let same : up ≡ folder = cc in
        let here : above path ≡ Ok folder = is ∙ ap Ok same in
        let named = above_is path folder here in
        (here, ap length named.1 ∙ length-append folder (named.0 ∷ []))
    by (Err fault) is e = absurd (cc)

-- a path that no folder stands above is the top
pub its_top : (path : Names) → None ≡ result_ok (above path) → path ≡ []
its_top path e = by (above path) refl e
  where
    by : (found : Result Names PathFault) → above path ≡ found → None ≡ result_ok found → path ≡ []
    by (Ok up) is e = absurd (cc)
    by (Err fault) is e = top_alone path fault is

-- no folder stands on the way to the top
pub way_top : (at : Spot) (drafts : List Draft) (outputs : List Names) (path : Names) (count : ℕ) → path ≡ [] → is_way_blocked at drafts outputs path count ≡ gives false
unfolding is_way_blocked
way_top at drafts outputs path zero top = refl
way_top at drafts outputs path (suc count) top = ap (λ p. is_way_blocked at drafts outputs p (suc count)) top

-- nor on the way to a path of the folder itself
pub way_near : (at : Spot) (drafts : List Draft) (outputs : List Names) (path folder : Names) → Some folder ≡ result_ok (above path) → length folder ≤ length at.dir
    → is_way_blocked at drafts outputs path (between at.dir path) ≡ gives false
unfolding is_way_blocked
way_near at drafts outputs path folder e near =
    let n : between at.dir path ≡ 0 = let deep = (its_folder path folder e).1 in omega arith in
    ap (is_way_blocked at drafts outputs path) n

-- further down stands the folder above the path, behind those above that
abbrev pub at_last : Spot → List Draft → List Names → Names → Bool → Reads ParseFault Bool
at_last at drafts outputs folder above = and_then (is_blocked at drafts outputs folder) (λ here. gives (above || here))

abbrev pub by_folder : Spot → List Draft → List Names → ℕ → Result Names PathFault → Reads ParseFault Bool
by_folder at drafts outputs count found = elim found as (λ _. Reads ParseFault Bool) [
  | Ok folder ↦ and_then (is_way_blocked at drafts outputs folder count) (at_last at drafts outputs folder)
  | Err fault ↦ gives false
]

pub way_more : (at : Spot) (drafts : List Draft) (outputs : List Names) (path folder : Names) → Some folder ≡ result_ok (above path) → length at.dir < length folder
    → is_way_blocked at drafts outputs path (between at.dir path) ≡ and_then (is_way_blocked at drafts outputs folder (between at.dir folder)) (at_last at drafts outputs folder)
unfolding is_way_blocked
way_more at drafts outputs path folder e deep =
    let its = its_folder path folder e in
    let n : between at.dir path ≡ suc (between at.dir folder) = let long = its.1 in omega arith in
    ap (is_way_blocked at drafts outputs path) n ∙ ap (by_folder at drafts outputs (between at.dir folder)) its.0
