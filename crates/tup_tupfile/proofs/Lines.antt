-- The lines of a file, case by case.
use Rattle.std.proofs.Common.{◌≡◌, ◌⊎◌, inl, inr, Result, Ok, Err, ℕ, zero, suc, ◌+◌, ◌<◌, ◌≤◌, Bool, true, false, if◌then◌else◌, List, [], ◌∷◌, ◌++◌, length, get_or, drop, Option, Some, None, codes, refl, sym, ap, ◌∙◌, arith}
use Rattle.std.specs.Borrow.{Bor}
use Rattle.std.proofs.lemmas.List.{at_drop_more, at_drop_all}
use Rattle.tup_path.specs.Name.{Names, Content}
use Rattle.tup_lex.specs.declared.line.Line.{Line}
use Rattle.tup_lex.specs.declared.kind.ParseKind.TheVariants as kind
use Rattle.tup_rule.specs.declared.draft.Draft.{Draft}
use Rattle.tup_vars.specs.Branches.{turned, left, all_on}
use Rattle.tup_vars.specs.Table.{Entries}
use Rattle.tup_query.specs.declared.fault.ParseFault.{ParseFault}
use Rattle.tup_query.specs.declared.fault.ReadEnd.{ReadEnd}
use Rattle.tup_query.specs.declared.fault.ReadEnd.TheVariants.{Memory}
use Rattle.tup_tupfile.specs.declared.file.Held.{Held}
use Rattle.tup_tupfile.specs.declared.kind.LineKind.{LineKind}
use Rattle.tup_tupfile.specs.declared.kind.LineKind.TheVariants as slices
use Rattle.tup_tupfile.specs.declared.opening.Along.{Along}
use Rattle.tup_rule_line.specs.declared.state.State.{State}
use Rattle.tup_query.specs.Reads.{Reads, gives, and_then}
use Rattle.tup_query.specs.Spot.{Spot, spot, refused}
use Rattle.tup_rule_line.specs.State.{fresh}
use Rattle.tup_tupfile.specs.Kind.{Kind, Compares, Looks, Else, Endif, Complains, IncludesRules, Includes, Rules, Defines, Sets, kind_of, in_bytes}
use Rattle.tup_tupfile.specs.Opening.{along, at_levels, opening}
use Rattle.tup_tupfile.specs.Conditional.{compares, looked_up}
use Rattle.tup_tupfile.specs.Setting.{assigned}
use Rattle.tup_rule_line.specs.RuleLine.{ruled}
use Rattle.tup_rule_line.specs.MacroLine.{defined}
use Rattle.tup_query.specs.Text.{expanded}
use Rattle.tup_tupfile.specs.File.{held_in, included_file, lines_of, ended}
use Rattle.tup_tupfile.specs.Reading.{Opener, opened, included, ruled_by, ruled_below, ruled_down, complained, stated, plain_line, with_kind, with_lines, with_file, with_room, opener_of, drafts_in, reading}

-- a file that may include others where so many more may be open
pub room_by : (room : ℕ) (dir file : Names) (state : State) (content : Content) → with_room room dir file state content ≡ with_file (opener_of room dir) dir file state content
unfolding with_room opener_of
room_by zero dir file state content = refl
room_by (suc room) dir file state content = refl

-- what comes of a file's lines
abbrev pub behind_lines : Opener → Names → Names → State → List Line → Reads ParseFault State
behind_lines opener dir file state all = with_lines opener dir file (along [] state) all

pub file_by : (room : ℕ) (dir file : Names) (state : State) (content : Content) → with_room room dir file state content ≡ and_then (lines_of dir file content) (behind_lines (opener_of room dir) dir file state)
unfolding with_file
file_by room dir file state content = room_by room dir file state content

pub opened-none : (room : ℕ) (dir : Names) (at : Spot) (state : State) (held : Held) → room ≡ 0 → opened (opener_of room dir) at state held ≡ refused at kind.TooDeep
unfolding opened opener_of
opened-none zero dir at state held e = refl
opened-none (suc room) dir at state held e = absurd (omega (arith, e))

pub opened-room : (room less : ℕ) (dir : Names) (at : Spot) (state : State) (held : Held) → room ≡ suc less → opened (opener_of room dir) at state held ≡ with_room less dir held.path state held.content
unfolding opened opener_of
opened-room room less dir at state held e = ap (λ (r : ℕ). opened (opener_of r dir) at state held) e

pub lines_more : (opener : Opener) (dir file : Names) (before : Along) (lines : List Line) (index : ℕ) (line : Line) → index < length lines → line ≡ get_or lines index line
    → with_lines opener dir file before (drop index lines)
    ≡ and_then (with_kind opener (spot dir file line.number) before (kind_of line.text)) (λ next. with_lines opener dir file next (drop (index + 1) lines))
unfolding with_lines
lines_more opener dir file before lines index line within is =
    at_drop_more (with_lines opener dir file before) lines index line within
    ∙ ap (λ (l : Line). and_then (with_kind opener (spot dir file l.number) before (kind_of l.text)) (λ next. with_lines opener dir file next (drop (index + 1) lines))) (sym is)

pub lines_end : (opener : Opener) (dir file : Names) (before : Along) (lines : List Line) (index : ℕ) → length lines ≤ index → with_lines opener dir file before (drop index lines) ≡ ended dir file before
unfolding with_lines
lines_end opener dir file before lines index past = at_drop_all (with_lines opener dir file before) lines index past

pub below_more : (opener : Opener) (at : Spot) (state : State) (dir : Names) (names : Names) (index : ℕ) (name : List ℕ) → index < length names → name ≡ get_or names index name
    → ruled_below opener at state dir (drop index names) ≡ and_then (ruled_by opener at state (dir ++ name ∷ [])) (λ next. ruled_below opener at next (dir ++ name ∷ []) (drop (index + 1) names))
unfolding ruled_below
below_more opener at state dir names index name within is =
    at_drop_more (ruled_below opener at state dir) names index name within
    ∙ ap (λ (n : List ℕ). and_then (ruled_by opener at state (dir ++ n ∷ [])) (λ next. ruled_below opener at next (dir ++ n ∷ []) (drop (index + 1) names))) (sym is)

pub below_end : (opener : Opener) (at : Spot) (state : State) (dir : Names) (names : Names) (index : ℕ) → length names ≤ index → ruled_below opener at state dir (drop index names) ≡ gives state
unfolding ruled_below
below_end opener at state dir names index past = at_drop_all (ruled_below opener at state dir) names index past

-- what comes of a line that is stated
abbrev pub behind_stated : Along → State → Reads ParseFault Along
behind_stated before next = gives (along before.levels next)

pub plain-on : (opener : Opener) (at : Spot) (before : Along) (line : Kind) → all_on before.levels ≡ true → plain_line opener at before line ≡ and_then (stated opener at before.state line) (behind_stated before)
unfolding plain_line
plain-on opener at before line e = ap (λ b. if b then and_then (stated opener at before.state line) (behind_stated before) else gives before) e

pub plain-off : (opener : Opener) (at : Spot) (before : Along) (line : Kind) → all_on before.levels ≡ false → plain_line opener at before line ≡ gives before
unfolding plain_line
plain-off opener at before line e = ap (λ b. if b then and_then (stated opener at before.state line) (behind_stated before) else gives before) e

-- ---- one line, by its kind
pub kind-compares : (opener : Opener) (at : Spot) (before : Along) (line : Kind) (alike : Bool) (text : List ℕ) → line ≡ Compares alike text
    → with_kind opener at before line ≡ opening at before (compares at before.state.variables alike text)
unfolding with_kind
kind-compares opener at before line alike text e = ap (with_kind opener at before) e

pub kind-looks : (opener : Opener) (at : Spot) (before : Along) (line : Kind) (wanted : Bool) (name : List ℕ) → line ≡ Looks wanted name
    → with_kind opener at before line ≡ opening at before (looked_up at wanted name)
unfolding with_kind
kind-looks opener at before line wanted name e = ap (with_kind opener at before) e

pub kind-else : (opener : Opener) (at : Spot) (before : Along) (line : Kind) → line ≡ Else → with_kind opener at before line ≡ at_levels at before.state (turned before.levels)
unfolding with_kind
kind-else opener at before line e = ap (with_kind opener at before) e

pub kind-endif : (opener : Opener) (at : Spot) (before : Along) (line : Kind) → line ≡ Endif → with_kind opener at before line ≡ at_levels at before.state (left before.levels)
unfolding with_kind
kind-endif opener at before line e = ap (with_kind opener at before) e

pub kind-other : (opener : Opener) (at : Spot) (before : Along) (line : LineKind)
    → ((alike : Bool) (text : Bor (List ℕ)) → line ≡ slices.Compares alike text → ⊥) → ((wanted : Bool) (name : Bor (List ℕ)) → line ≡ slices.Looks wanted name → ⊥)
    → (line ≡ slices.Else → ⊥) → (line ≡ slices.Endif → ⊥) → with_kind opener at before (in_bytes line) ≡ plain_line opener at before (in_bytes line)
unfolding with_kind
kind-other opener at before (slices.Compares alike text) compares looks else_ endif = absurd (compares alike text refl)
kind-other opener at before (slices.Looks wanted name) compares looks else_ endif = absurd (looks wanted name refl)
kind-other opener at before slices.Else compares looks else_ endif = absurd (else_ refl)
kind-other opener at before slices.Endif compares looks else_ endif = absurd (endif refl)
kind-other opener at before (slices.Complains text) compares looks else_ endif = refl
kind-other opener at before slices.IncludesRules compares looks else_ endif = refl
kind-other opener at before (slices.Includes text) compares looks else_ endif = refl
kind-other opener at before (slices.Rules text) compares looks else_ endif = refl
kind-other opener at before (slices.Defines name body) compares looks else_ endif = refl
kind-other opener at before (slices.Sets name value) compares looks else_ endif = refl
kind-other opener at before slices.Unknown compares looks else_ endif = refl

-- ---- one line that is stated, by its kind
pub stated-complains : (opener : Opener) (at : Spot) (state : State) (line : Kind) (text : List ℕ) → line ≡ Complains text → stated opener at state line ≡ complained at state.variables text
unfolding stated
stated-complains opener at state line text e = ap (stated opener at state) e

pub stated-down : (opener : Opener) (at : Spot) (state : State) (line : Kind) → line ≡ IncludesRules → stated opener at state line ≡ ruled_down opener at state
unfolding stated
stated-down opener at state line e = ap (stated opener at state) e

pub stated-includes : (opener : Opener) (at : Spot) (state : State) (line : Kind) (text : List ℕ) → line ≡ Includes text → stated opener at state line ≡ included opener at state text
unfolding stated
stated-includes opener at state line text e = ap (stated opener at state) e

pub stated-rules : (opener : Opener) (at : Spot) (state : State) (line : Kind) (text : List ℕ) → line ≡ Rules text → stated opener at state line ≡ ruled at state text
unfolding stated
stated-rules opener at state line text e = ap (stated opener at state) e

pub stated-defines : (opener : Opener) (at : Spot) (state : State) (line : Kind) (name body : List ℕ) → line ≡ Defines name body → stated opener at state line ≡ defined at state name body
unfolding stated
stated-defines opener at state line name body e = ap (stated opener at state) e

pub stated-sets : (opener : Opener) (at : Spot) (state : State) (line : Kind) (name value : List ℕ) → line ≡ Sets name value → stated opener at state line ≡ assigned at state name value
unfolding stated
stated-sets opener at state line name value e = ap (stated opener at state) e

pub stated-other : (opener : Opener) (at : Spot) (state : State) (line : LineKind)
    → ((text : Bor (List ℕ)) → line ≡ slices.Complains text → ⊥) → (line ≡ slices.IncludesRules → ⊥) → ((text : Bor (List ℕ)) → line ≡ slices.Includes text → ⊥)
    → ((text : Bor (List ℕ)) → line ≡ slices.Rules text → ⊥) → ((name body : Bor (List ℕ)) → line ≡ slices.Defines name body → ⊥) → ((name value : Bor (List ℕ)) → line ≡ slices.Sets name value → ⊥)
    → stated opener at state (in_bytes line) ≡ refused at kind.UnknownLine
unfolding stated
stated-other opener at state (slices.Complains text) complains down includes rules defines sets = absurd (complains text refl)
stated-other opener at state slices.IncludesRules complains down includes rules defines sets = absurd (down refl)
stated-other opener at state (slices.Includes text) complains down includes rules defines sets = absurd (includes text refl)
stated-other opener at state (slices.Rules text) complains down includes rules defines sets = absurd (rules text refl)
stated-other opener at state (slices.Defines name body) complains down includes rules defines sets = absurd (defines name body refl)
stated-other opener at state (slices.Sets name value) complains down includes rules defines sets = absurd (sets name value refl)
stated-other opener at state (slices.Compares alike text) complains down includes rules defines sets = refl
stated-other opener at state (slices.Looks wanted name) complains down includes rules defines sets = refl
stated-other opener at state slices.Else complains down includes rules defines sets = refl
stated-other opener at state slices.Endif complains down includes rules defines sets = refl
stated-other opener at state slices.Unknown complains down includes rules defines sets = refl

-- ---- includes
-- what comes of a file that is included, and of one that may be there
abbrev pub behind_file : Opener → Spot → State → Held → Reads ParseFault State
behind_file opener at state held = opened opener at state held

pub include_by : (opener : Opener) (at : Spot) (state : State) (text : List ℕ) → included opener at state text ≡ and_then (included_file at state.variables text) (behind_file opener at state)
unfolding included
include_by opener at state text = refl

abbrev pub if_there : Opener → Spot → State → Option Held → Reads ParseFault State
if_there opener at state found = elim found as (λ _. Reads ParseFault State) [ Some held ↦ opened opener at state held | None ↦ gives state ]

pub ruled-by : (opener : Opener) (at : Spot) (state : State) (dir : Names) → ruled_by opener at state dir ≡ and_then (held_in dir (codes "Tuprules.tup")) (if_there opener at state)
unfolding ruled_by
ruled-by opener at state dir = refl

-- what comes of `Tuprules.tup` at the top
abbrev pub behind_top : Opener → Spot → State → Reads ParseFault State
behind_top opener at next = ruled_below opener at next [] at.dir

pub down_by : (opener : Opener) (at : Spot) (state : State) → ruled_down opener at state ≡ and_then (ruled_by opener at state []) (behind_top opener at)
unfolding ruled_down
down_by opener at state = refl

-- what comes of what a user says
abbrev pub behind_said : Spot → List ℕ → Reads ParseFault State
behind_said at said = refused at (kind.UserError said)

pub complained_by : (at : Spot) (variables : Entries) (text : List ℕ) → complained at variables text ≡ and_then (expanded at variables text) (behind_said at)
unfolding complained
complained_by at variables text = refl

-- ---- the Tupfile
pub new-state : (state : State) (made : Result State ReadEnd) → made ≡ Ok state → (made ≡ Err Memory) ⊎ (made ≡ Ok fresh) → state ≡ fresh
new-state state made is (inl e) = absurd (cc)
new-state state made is (inr e) = cc

abbrev pub drafts_behind : State → Reads ParseFault (List Draft)
drafts_behind state = gives state.drafts

pub drafts_by : (dir : Names) (held : Held) → drafts_in dir held ≡ and_then (with_room 63 dir held.path fresh held.content) drafts_behind
unfolding drafts_in
drafts_by dir held = refl

abbrev pub if_found : Names → Option Held → Reads ParseFault (List Draft)
if_found dir found = elim found as (λ _. Reads ParseFault (List Draft)) [ Some held ↦ drafts_in dir held | None ↦ gives [] ]

pub reading_by : (dir : Names) → reading dir ≡ and_then (held_in dir (codes "Tupfile")) (if_found dir)
unfolding reading
reading_by dir = refl
