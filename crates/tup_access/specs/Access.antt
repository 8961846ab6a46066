-- What a command may ask for. From the manual: any source, and a generated file only where it is declared.
use Rattle.std.specs.Prelude.{ℕ, Bool, not, ◌&&◌, nat_le, if◌then◌else◌, List, Ok, Err}
use Rattle.tup_path.specs.Name.{Names}
use Rattle.tup_path.specs.Resolve.{resolve}
use Rattle.tup_rule.specs.declared.rule.Rule.{Rule}
use Rattle.tup_rule.specs.Rule.{declares, writes, is_generated}
use Rattle.tup_access.specs.declared.verdict.Verdict.TheVariants.{IllegalRead, TooManyReads}
use Rattle.tup_access.specs.declared.verdict.Access.{Access}
use Rattle.tup_access.specs.declared.verdict.Access.TheVariants.{Yes, No}

-- whether a rule may read a path: a source, what it declares, or its own output
abbrev pub may_read : List Rule → Rule → Names → Bool
may_read rules rule path = not (is_generated rules path && not (declares rule path) && not (writes rule path))

-- whether a rule may ask for a text after so many asks (own: the 65,536th ask of a command is one too many)
abbrev pub access : List Rule → Rule → ℕ → List ℕ → Access
access rules rule before text =
    if nat_le 65535 before then No TooManyReads
    else elim (resolve rule.dir text) [
      | Err fault ↦ No (IllegalRead text)
      | Ok path ↦ if may_read rules rule path then Yes path else No (IllegalRead text)
    ]
