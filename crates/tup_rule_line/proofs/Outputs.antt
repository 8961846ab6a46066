-- The output words of a rule, case by case.
use Rattle.std.proofs.Common.{◌≡◌, Bool, ℕ, ◌+◌, ◌<◌, ◌≤◌, ◌||◌, true, false, if◌then◌else◌, List, [], ◌∷◌, ◌++◌, length, get_or, drop, sym, ap, ◌∙◌}
use Rattle.std.proofs.lemmas.List.{at_drop_more, at_drop_all}
use Rattle.tup_path.specs.Name.{Names}
use Rattle.tup_lex.specs.declared.kind.ParseKind.TheVariants.{ForeignOutput, OutputIsSource, OutputIsDir}
use Rattle.tup_rule.specs.declared.draft.Draft.{Draft}
use Rattle.tup_rule.specs.declared.question.Kind.{Kind}
use Rattle.tup_rule.specs.declared.question.Kind.TheVariants.{Nothing, File, Dir}
use Rattle.tup_flags.specs.declared.parts.FlagParts.{FlagParts}
use Rattle.tup_query.specs.declared.fault.ParseFault.{ParseFault}
use Rattle.tup_query.specs.Reads.{Reads, gives, and_then}
use Rattle.tup_query.specs.Ask.{kind_at}
use Rattle.tup_query.specs.Spot.{Spot, refused}
use Rattle.tup_rule_line.specs.Output.{may_make, between, is_way_blocked, new_output, known_output, from_output, from_outputs}

pub outputs_more : (at : Spot) (parts : FlagParts) (drafts : List Draft) (outputs : List Names) (words : List (List ℕ)) (index : ℕ) (word : List ℕ) → index < length words → word ≡ get_or words index word
    → from_outputs at parts drafts outputs (drop index words) ≡ and_then (from_output at parts drafts outputs word) (λ path. from_outputs at parts drafts (outputs ++ path ∷ []) (drop (index + 1) words))
unfolding from_outputs
outputs_more at parts drafts outputs words index word within is =
    at_drop_more (from_outputs at parts drafts outputs) words index word within
    ∙ ap (λ (w : List ℕ). and_then (from_output at parts drafts outputs w) (λ path. from_outputs at parts drafts (outputs ++ path ∷ []) (drop (index + 1) words))) (sym is)

pub outputs_end : (at : Spot) (parts : FlagParts) (drafts : List Draft) (outputs : List Names) (words : List (List ℕ)) (index : ℕ) → length words ≤ index → from_outputs at parts drafts outputs (drop index words) ≡ gives outputs
unfolding from_outputs
outputs_end at parts drafts outputs words index past = at_drop_all (from_outputs at parts drafts outputs) words index past

abbrev pub at_kind : Spot → List Draft → List Names → Names → Bool → Reads ParseFault Names
at_kind at drafts outputs path blocked = and_then (kind_at path) (λ kind. new_output at drafts outputs path blocked kind)

abbrev pub on_way : Spot → List Draft → List Names → Names → Reads ParseFault Names
on_way at drafts outputs path = and_then (is_way_blocked at drafts outputs path (between at.dir path)) (λ blocked. at_kind at drafts outputs path blocked)

pub known-foreign : (at : Spot) (drafts : List Draft) (outputs : List Names) (path : Names) → may_make at.dir path ≡ false → known_output at drafts outputs path ≡ refused at ForeignOutput
unfolding known_output
known-foreign at drafts outputs path e = ap (λ b. if b then on_way at drafts outputs path else refused at ForeignOutput) e

pub known-own : (at : Spot) (drafts : List Draft) (outputs : List Names) (path : Names) → may_make at.dir path ≡ true → known_output at drafts outputs path ≡ on_way at drafts outputs path
unfolding known_output
known-own at drafts outputs path e = ap (λ b. if b then on_way at drafts outputs path else refused at ForeignOutput) e
