-- How a reason is printed (own): its root, and what each link leads to.
use Rattle.std.specs.Prelude.{ℕ, List, [], ◌++◌, Option, None, Some, codes, slice_get}
use Rattle.std.specs.List.{flat_map}
use Rattle.tup_path.specs.Show.{show}
use Rattle.tup_rule.specs.Rule.{label_of}
use Rattle.tup_rule.specs.declared.rule.Rule.{Rule}
use Rattle.tup_why.specs.declared.reason.Link.{Link}
use Rattle.tup_why.specs.declared.reason.Link.TheVariants.{Reads, Writes}
use Rattle.tup_why.specs.declared.reason.Reason.{Reason}
use Rattle.tup_why.specs.declared.reason.Root.{Root}
use Rattle.tup_why.specs.declared.reason.Root.TheVariants.{Changed, NewRule, Unfinished}

-- a rule with its label, `DIR: LABEL`
abbrev pub rule_text : Option Rule → List ℕ
rule_text (Some rule) = show rule.dir ++ (codes ": " ++ label_of rule)
rule_text None = []

-- a rule with its command, `DIR: COMMAND`
abbrev pub command_text : Option Rule → List ℕ
command_text (Some rule) = show rule.dir ++ (codes ": " ++ rule.text)
command_text None = []

-- where a chain begins: a rule there is told by its command, since that may be what is new of it
abbrev pub root_text : List Rule → Root → List ℕ
root_text rules (Changed path) = codes "changed " ++ show path
root_text rules (NewRule number) = codes "new " ++ command_text (slice_get rules number)
root_text rules (Unfinished number) = codes "unfinished " ++ command_text (slice_get rules number)

-- to what a link leads
abbrev pub link_text : List Rule → Link → List ℕ
link_text rules (Reads number) = codes " > " ++ rule_text (slice_get rules number)
link_text rules (Writes path) = codes " > " ++ show path

-- the chain: `ROOT > .. > DIR: LABEL`
abbrev pub chain_text : List Rule → Reason → List ℕ
chain_text rules reason = root_text rules reason.root ++ flat_map (link_text rules) reason.links
