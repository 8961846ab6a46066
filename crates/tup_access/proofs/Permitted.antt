-- What an answer of access tells: an ask that may be made, and a refusal that is never Good.
use Rattle.std.specs.Prelude.{◌≡◌, ◌≢◌, ℕ, ◌<◌, Bool, true, false, nat_le, if◌then◌else◌, List, Result, Ok, Err}
use Rattle.std.proofs.Common.{refl, sym, ap, ◌∙◌}
use Rattle.std.proofs.lemmas.Bool.{leb-false}
use Rattle.tup_path.specs.declared.fault.PathFault.{PathFault}
use Rattle.tup_path.specs.Name.{Names}
use Rattle.tup_path.specs.Resolve.{resolve}
use Rattle.tup_rule.specs.declared.rule.Rule.{Rule}
use Rattle.tup_access.specs.declared.verdict.Verdict.{Verdict}
use Rattle.tup_access.specs.declared.verdict.Verdict.TheVariants.{Good, IllegalRead, TooManyReads}
use Rattle.tup_access.specs.declared.verdict.Access.TheVariants.{Yes, No}
use Rattle.tup_access.specs.Access.{may_read, access}

-- an ask that may be: not one too many, and its text names a path that may be read
pub record IsAllowed (rules : List Rule) (rule : Rule) (before : ℕ) (text : List ℕ) (path : Names) : Type 0 where
  pub early : before < 65535
  pub named : resolve rule.dir text ≡ Ok path
  pub readable : may_read rules rule path ≡ true

pub access-Yes : (rules : List Rule) (rule : Rule) (before : ℕ) (text : List ℕ) (path : Names) → access rules rule before text ≡ Yes path → IsAllowed rules rule before text path
access-Yes rules rule before text path e = at_count (nat_le 65535 before) refl e
  where
    at_path : (named : Names) (b : Bool) → resolve rule.dir text ≡ Ok named → may_read rules rule named ≡ b → before < 65535 → (if b then Yes named else No (IllegalRead text)) ≡ Yes path → IsAllowed rules rule before text path
    at_path named true r m early q = let same : named ≡ path = cc in record { early = early; named = r ∙ ap Ok same; readable = ap (may_read rules rule) (sym same) ∙ m }
    at_path named false r m early q = cc

    at_resolve : (found : Result Names PathFault) → resolve rule.dir text ≡ found → before < 65535 → (elim found [ Err fault ↦ No (IllegalRead text) | Ok named ↦ if may_read rules rule named then Yes named else No (IllegalRead text) ]) ≡ Yes path → IsAllowed rules rule before text path
    at_resolve (Ok named) r early q = at_path named (may_read rules rule named) r refl early q
    at_resolve (Err fault) r early q = cc

    at_count : (late : Bool) → nat_le 65535 before ≡ late → (if late then No TooManyReads else elim (resolve rule.dir text) [ Err fault ↦ No (IllegalRead text) | Ok named ↦ if may_read rules rule named then Yes named else No (IllegalRead text) ]) ≡ Yes path → IsAllowed rules rule before text path
    at_count true l q = cc
    at_count false l q = at_resolve (resolve rule.dir text) refl (leb-false 65535 before l) q

-- a refusal isn't Good
pub access-No : (rules : List Rule) (rule : Rule) (before : ℕ) (text : List ℕ) (refusal : Verdict) → access rules rule before text ≡ No refusal → refusal ≢ Good
access-No rules rule before text refusal e good = by_count (nat_le 65535 before) (e ∙ ap No good)
  where
    by_path : (named : Names) (b : Bool) → (if b then Yes named else No (IllegalRead text)) ≡ No Good → ⊥
    by_path named true q = cc
    by_path named false q = cc

    by_resolve : (found : Result Names PathFault) → (elim found [ Err fault ↦ No (IllegalRead text) | Ok named ↦ if may_read rules rule named then Yes named else No (IllegalRead text) ]) ≡ No Good → ⊥
    by_resolve (Ok named) q = by_path named (may_read rules rule named) q
    by_resolve (Err fault) q = cc

    by_count : (late : Bool) → (if late then No TooManyReads else elim (resolve rule.dir text) [ Err fault ↦ No (IllegalRead text) | Ok named ↦ if may_read rules rule named then Yes named else No (IllegalRead text) ]) ≡ No Good → ⊥
    by_count true q = cc
    by_count false q = by_resolve (resolve rule.dir text) q
