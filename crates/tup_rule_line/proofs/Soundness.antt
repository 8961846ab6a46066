-- The rules that a line adds can be run in their order, behind those of the lines before.
use Rattle.std.proofs.Common.{◌≡◌, ◌≢◌, zero, suc, ◌-◌, ◌≤◌, ◌<◌, codes, ◌⊎◌, inl, inr, ℕ, ◌+◌, Bool, true, false, ◌||◌, cond, if◌then◌else◌, List, [], ◌∷◌, ◌++◌, length, get_or, map, fold, Option, Some, None, option_map, Result, Ok, Err, All, bytes_eq, refl, sym, ap, ◌∙◌, subst, append_assoc, append-nil, arith, length-append, not}
use Rattle.std.specs.List.{AllByRecursion, IsDistinct, filter_map, cons_option}
use Rattle.std.specs.Map.{set_value}
use Rattle.std.specs.BTreeSet.{insert_key}
use Rattle.std.specs.Option.{option_map_or}
use Rattle.std.specs.Result.{result_ok}
use Rattle.std.specs.Str.{chars}
use Rattle.std.proofs.lemmas.List.Elements.{All-nil, All-cons, All-head, All-tail, All-append, All-push, All-weaker, All-map}
use Rattle.std.specs.List.{list_any}
use Rattle.std.proofs.lemmas.Bool.{false≢true, and_parts}
use Rattle.std.proofs.lemmas.List.Folds.{list_any-append, list_any_at}
use Rattle.std.proofs.lemmas.Map.Views.{All-insert_key}
use Rattle.tup_path.specs.Name.{Names}
use Rattle.tup_path.specs.Order.{by_bytes, by_names, same_path}
use Rattle.tup_path.specs.Resolve.{below, above, resolve}
use Rattle.tup_path.specs.Tree.{IsBelow}
use Rattle.tup_path.specs.declared.fault.PathFault.{PathFault}
use Rattle.tup_path.proofs.Same.{same_path-decides}
use Rattle.tup_lex.specs.Word.{last_name}
use Rattle.tup_lex.specs.Blank.{trim}
use Rattle.tup_lex.specs.declared.kind.ParseKind.{ParseKind}
use Rattle.tup_lex.specs.declared.kind.ParseKind.TheVariants as fault
use Rattle.tup_rule.specs.Rule.{among}
use Rattle.tup_rule.specs.declared.draft.Draft.{Draft}
use Rattle.tup_rule.specs.declared.draft.GroupRef.{GroupRef}
use Rattle.tup_rule.specs.declared.question.Kind.{Kind}
use Rattle.tup_rule.specs.declared.question.Kind.TheVariants.{File, Dir, Nothing}
use Rattle.tup_rule.specs.declared.question.Question.{Question}
use Rattle.tup_rule.specs.declared.question.Question.TheVariants as question
use Rattle.tup_rule.specs.declared.question.Told.{Told}
use Rattle.tup_glob.specs.Match.{matches}
use Rattle.tup_glob.specs.declared.symbol.Symbol.{Symbol}
use Rattle.tup_flags.specs.declared.parts.FlagParts.{FlagParts}
use Rattle.tup_macro.specs.Gifts.{GiftsTo, members_of, with_gift}
use Rattle.tup_vars.specs.Branches.{left}
use Rattle.tup_macro.specs.declared.macros.Macro.{Macro}
use Rattle.tup_query.specs.declared.fault.ParseFault.{ParseFault}
use Rattle.tup_rule_line.specs.declared.found.Found.{Found}
use Rattle.tup_rule_line.specs.declared.found.Input.{Input}
use Rattle.tup_rule_line.specs.declared.job.Job.{Job}
use Rattle.tup_rule_line.specs.declared.job.Plan.{Plan}
use Rattle.tup_rule_line.specs.declared.job.Sources.{Sources}
use Rattle.tup_rule_line.specs.declared.state.State.{State}
use Rattle.tup_rule_line.specs.declared.words.Words.{Words}
use Rattle.tup_query.specs.Reads.{Reads, Ends, Asks, gives, and_then, outcome}
use Rattle.tup_query.specs.Ask.{asks, names_in, kind_at, names_at}
use Rattle.tup_query.specs.Spot.{Spot, refused}
use Rattle.tup_query.specs.Text.{taken}
use Rattle.tup_rule_line.specs.State.{made_by, is_made}
use Rattle.tup_rule_line.specs.Folder.{name_in, led, led_to_folder, bin_name, is_group, group_in}
use Rattle.tup_rule_line.specs.Flagged.{flagged_text, bare_parts}
use Rattle.tup_rule_line.specs.Below.{is_below}
use Rattle.tup_rule_line.specs.Output.{may_make, is_reserved, is_taken, is_above_one, is_blocked, is_way_blocked, between, new_output, known_output, from_output, from_outputs}
use Rattle.tup_rule_line.specs.Found.{input, inputs_alone, one_input, one_group, nothing_found, paths_of, with_input, has_path, with_found}
use Rattle.tup_rule_line.specs.Glob.{is_glob, in_order, names_among, names_of_files, matched_input, matching, glob_of, matched_in, globbed}
use Rattle.tup_rule_line.specs.Input.{is_file, known_input, literal, from_bin, from_group, from_files, from_other, from_word, from_words}
use Rattle.tup_rule_line.specs.Job.{one_job, whole_job, gives_nothing, jobs_of, flag_parts, in_extra, in_command, spoken, draft_of, with_text, with_extra, with_outputs, drafted, with_gifts, with_draft, with_job, with_jobs}
use Rattle.tup_rule_line.specs.RuleLine.{given_to, plan_with, plan_of, planned, with_words, words_in, ruled}
use Rattle.tup_rule_line.specs.MacroLine.{body_in, one_more, with_body, defined}
use Rattle.tup_rule_line.specs.Sound.{told_at, NamesFiles, MayTake, AreFlat, MayMake, IsSound, AreSound}
use Rattle.tup_rule_line.proofs.Below.{last_item, below_is, below_so, below_longer, below_named, nothing_below, not_below_itself, above_is, top_alone, passes_in, made_among}
use Rattle.tup_rule_line.proofs.Ways.{is_here, at_folder, unless_tupfile, by_tupfile, at_last, by_folder}
use Rattle.tup_rule_line.proofs.Folders.{name_in_some, name_in_none, below-ok}
use Rattle.tup_rule_line.proofs.Rules.{behind_group, behind_order, behind_inputs, behind_plan, behind_words, behind_body, behind_macros}

-- ---- what a process gives where each question is answered so
abbrev pub Brings : {A : Type 0} → (Question → Told) → Reads ParseFault A → (A → Type 0) → Type 0
Brings {A} answers reads P = (value : A) → outcome answers reads ≡ Ok value → P value

pub brings_then : {A B : Type 0} (answers : Question → Told) (reads : Reads ParseFault A) (next : A → Reads ParseFault B) (P : A → Type 0) (Q : B → Type 0)
    → Brings answers reads P → ((value : A) → P value → Brings answers (next value) Q) → Brings answers (and_then reads next) Q
unfolding and_then
brings_then answers (Ends (Ok given)) next P Q first second = second given (first given refl)
brings_then answers (Ends (Err refusal)) next P Q first second = λ value e. absurd (cc)
brings_then answers (Asks asked goes_on) next P Q first second = brings_then answers (goes_on (answers asked)) next P Q first second

-- what follows something of which nothing has to be known
pub brings_behind : {A B : Type 0} (answers : Question → Told) (reads : Reads ParseFault A) (next : A → Reads ParseFault B) (Q : B → Type 0)
    → ((value : A) → Brings answers (next value) Q) → Brings answers (and_then reads next) Q
brings_behind answers reads next Q second = brings_then answers reads next (λ value. Unit {0}) Q (λ value e. tt) (λ value known. second value)

pub brings_gives : {A : Type 0} (answers : Question → Told) (value : A) (P : A → Type 0) → P value → Brings answers (gives value) P
brings_gives answers value P p found e = let same : value ≡ found = cc in subst P same p

pub brings_refused : (A : Type 0) (answers : Question → Told) (at : Spot) (kind : ParseKind) (P : A → Type 0) → Brings answers (refused {A = A} at kind) P
brings_refused A answers at kind P found e = absurd (cc)

-- what is among paths that are all such is such
all_at : (P : Names → Type 0) (paths : List Names) (path : Names) → All P paths → among path paths ≡ true → P path
all_at P [] path all e = absurd (false≢true e)
all_at P (first ∷ more) path all e = by (λ there. all_at P more path (All-tail P first more all) there) (same_path path first) refl e
  where
    by : (among path more ≡ true → P path) → (b : Bool) → same_path path first ≡ b → (b || among path more) ≡ true → P path
    by behind true same e = subst P (sym ((same_path-decides path first).0 same)) (All-head P first more all)
    by behind false apart e = behind e

brings_kind : (answers : Question → Told) (path : Names) → Brings answers (kind_at path) (λ kind. kind ≡ told_at answers path)
unfolding asks and_then
brings_kind answers path kind e = let same : told_at answers path ≡ kind = cc in sym same

brings_names : (answers : Question → Told) (dir : Names) → Brings answers (names_at dir) (λ names. names ≡ names_in (answers (question.Names dir)))
unfolding asks and_then
brings_names answers dir names e = let same : names_in (answers (question.Names dir)) ≡ names = cc in sym same

-- ---- truths
or_left : (a b : Bool) → (a || b) ≡ false → a ≡ false
or_left true b e = absurd (cc)
or_left false b e = refl

or_behind : (a b : Bool) → (a || b) ≡ false → b ≡ false
or_behind true b e = absurd (cc)
or_behind false b e = e

or_true : (a b : Bool) → a ≡ true → (a || b) ≡ true
or_true true b e = refl
or_true false b e = absurd (cc)

-- ---- paths
-- a path that has a name in a folder stands there under this name
pub name_in-own : (dir path : Names) (name : List ℕ) → name_in dir path ≡ Some name → path ≡ dir ++ name ∷ []
name_in-own dir path name e = by (last_item path)
  where
    in_it : (folder : Names) (last : List ℕ) (same : Bool) → same_path dir folder ≡ same → cond same (Some last) None ≡ Some name → folder ++ last ∷ [] ≡ dir ++ name ∷ []
    in_it folder last true same e =
        let here : dir ≡ folder = (same_path-decides dir folder).0 same in
        let named : last ≡ name = cc in
        ap (λ (f : Names). f ++ last ∷ []) (sym here) ∙ ap (λ (n : List ℕ). dir ++ n ∷ []) named
    in_it folder last false same e = absurd (cc)

    by : (path ≡ []) ⊎ ((folder : Names) × (last : List ℕ) × (path ≡ folder ++ last ∷ [])) → path ≡ dir ++ name ∷ []
    by (inl top) = let none : name_in dir path ≡ None = name_in_none dir path (ap length top) in absurd (cc)
    by (inr (folder, last, is)) =
        let long : length folder + 1 ≡ length path = omega (arith, ap length is, length-append folder (last ∷ [])) in
        is ∙ in_it folder last (same_path dir folder) refl (sym (name_in_some dir path folder last (is, long)) ∙ e)

ok_of : (led : Result Names PathFault) (path : Names) → result_ok led ≡ Some path → Ok path ≡ led
ok_of (Ok led) path e = let same : led ≡ path = cc in ap Ok (sym same)
ok_of (Err refusal) path e = absurd (cc)

below-own : (dir : Names) (name : List ℕ) (path : Names) → result_ok (below dir name) ≡ Some path → path ≡ dir ++ name ∷ []
below-own dir name path e = below-ok dir name path (inr (ok_of (below dir name) path e))

-- ---- paths that are named once
other_way : (one other : Names) → same_path one other ≡ false → same_path other one ≡ false
other_way one other apart = by (same_path other one) refl
  where
    by : (same : Bool) → same_path other one ≡ same → same ≡ false
    by true is = let wrong : true ≡ false = sym ((same_path-decides one other).1 (sym ((same_path-decides other one).0 is))) ∙ apart in wrong
    by false is = refl

behind_all : (P : Names → Type 0) (paths : List Names) (path : Names) → AllByRecursion P paths → P path → AllByRecursion P (paths ++ path ∷ [])
behind_all P [] path all is = (is, tt)
behind_all P (first ∷ paths) path (here, all) is = (here, behind_all P paths path all is)

-- one more behind others
once_more : (paths : List Names) (path : Names) → IsDistinct same_path paths → among path paths ≡ false → IsDistinct same_path (paths ++ path ∷ [])
unfolding IsDistinct
once_more [] path once new = (tt, tt)
once_more (first ∷ paths) path (others, once) new = (
  behind_all (λ other. same_path first other ≡ false) paths path others (other_way path first (or_left (same_path path first) (among path paths) new)),
  once_more paths path once (or_behind (same_path path first) (among path paths) new),
)

-- ---- what rules make
made_more : (drafts : List Draft) (draft : Draft) (path : Names) → is_made drafts path ≡ true → is_made (drafts ++ draft ∷ []) path ≡ true
made_more drafts draft path e =
    list_any-append (λ (d : Draft). among path d.outputs) drafts (draft ∷ []) ∙ or_true (is_made drafts path) (is_made (draft ∷ []) path) e

or_right : (a b : Bool) → b ≡ true → (a || b) ≡ true
or_right true b e = refl
or_right false b e = e

made_last : (drafts : List Draft) (draft : Draft) (path : Names) → among path draft.outputs ≡ true → is_made (drafts ++ draft ∷ []) path ≡ true
made_last drafts draft path e =
    list_any-append (λ (d : Draft). among path d.outputs) drafts (draft ∷ [])
    ∙ or_right (is_made drafts path) (is_made (draft ∷ []) path) (or_true (among path draft.outputs) false e)

all_among : (paths : List Names) → All (λ path. among path paths ≡ true) paths
all_among paths k d within = list_any_at (same_path (get_or paths k d)) paths k d within ((same_path-decides (get_or paths k d) (get_or paths k d)).1 refl)

pub made_all : (drafts : List Draft) → All (λ path. is_made drafts path ≡ true) (made_by drafts)
made_all [] = All-nil (λ path. is_made [] path ≡ true)
made_all (draft ∷ more) =
    All-append (λ path. is_made (draft ∷ more) path ≡ true) draft.outputs (made_by more)
    (All-weaker (λ path. among path draft.outputs ≡ true) (λ path. is_made (draft ∷ more) path ≡ true) (λ path e. or_true (among path draft.outputs) (is_made more path) e) draft.outputs (all_among draft.outputs))
    (All-weaker (λ path. is_made more path ≡ true) (λ path. is_made (draft ∷ more) path ≡ true) (λ path e. or_right (among path draft.outputs) (is_made more path) e) (made_by more) (made_all more))

takes_more : (answers : Question → Told) (drafts : List Draft) (draft : Draft) (path : Names) → MayTake answers drafts path → MayTake answers (drafts ++ draft ∷ []) path
takes_more answers drafts draft path (inl file) = inl file
takes_more answers drafts draft path (inr made) = inr (made_more drafts draft path made)

-- one more rule behind others
sound_more : (answers : Question → Told) (dir : Names) (before drafts : List Draft) (draft : Draft)
    → AreSound answers dir before drafts → IsSound answers dir (before ++ drafts) draft → AreSound answers dir before (drafts ++ draft ∷ [])
sound_more answers dir before [] draft all one = (subst (λ (b : List Draft). IsSound answers dir b draft) (append-nil before) one, tt)
sound_more answers dir before (first ∷ more) draft (is, all) one =
    (is, sound_more answers dir (before ++ first ∷ []) more draft all (subst (λ (b : List Draft). IsSound answers dir b draft) (sym (append_assoc before (first ∷ []) more)) one))

-- ---- bins
-- all that was given to bins is such
abbrev pub AllGiven : (Names → Type 0) → GiftsTo (List ℕ) → Type 0
AllGiven P gifts = All (λ (gift : List ℕ × List Names). All P gift.1) gifts

members-given : (P : Names → Type 0) (gifts : GiftsTo (List ℕ)) (name : List ℕ) (members : List Names) → AllGiven P gifts → members_of bytes_eq gifts name ≡ Some members → All P members
members-given P [] name members all e = absurd (cc)
members-given P (gift ∷ gifts) name members all e = by (members-given P gifts name members (All-tail (λ (g : List ℕ × List Names). All P g.1) gift gifts all)) (bytes_eq name gift.0) e
  where
    by : (members_of bytes_eq gifts name ≡ Some members → All P members) → (here : Bool) → cond here (Some gift.1) (members_of bytes_eq gifts name) ≡ Some members → All P members
    by more true e = let same : gift.1 ≡ members = cc in subst (All P) same (All-head (λ (g : List ℕ × List Names). All P g.1) gift gifts all)
    by more false e = more e

set-given : (P : Names → Type 0) (name : List ℕ) (gifts : GiftsTo (List ℕ)) (members : List Names) → AllGiven P gifts → All P members → AllGiven P (set_value (bytes_eq name) gifts members)
set-given P name [] members all is = All-nil (λ (g : List ℕ × List Names). All P g.1)
set-given P name (gift ∷ gifts) members all is =
    by (set-given P name gifts members (All-tail (λ (g : List ℕ × List Names). All P g.1) gift gifts all) is) (bytes_eq name gift.0)
  where
    by : AllGiven P (set_value (bytes_eq name) gifts members) → (here : Bool) → AllGiven P (cond here ((gift.0, members) ∷ gifts) (gift ∷ set_value (bytes_eq name) gifts members))
    by more true = All-cons (λ (g : List ℕ × List Names). All P g.1) (gift.0, members) gifts is (All-tail (λ (g : List ℕ × List Names). All P g.1) gift gifts all)
    by more false =
        All-cons (λ (g : List ℕ × List Names). All P g.1) gift (set_value (bytes_eq name) gifts members) (All-head (λ (g : List ℕ × List Names). All P g.1) gift gifts all) more

gift-given : (P : Names → Type 0) (gifts : GiftsTo (List ℕ)) (name : List ℕ) (path : Names) → AllGiven P gifts → P path → AllGiven P (with_gift bytes_eq gifts name path)
gift-given P gifts name path all is = by (members_of bytes_eq gifts name) refl
  where
    by : (found : Option (List Names)) → members_of bytes_eq gifts name ≡ found
        → AllGiven P (option_map_or (λ (members : List Names). set_value (bytes_eq name) gifts (insert_key by_names members path)) found (gifts ++ (name, path ∷ []) ∷ []))
    by None e = All-push (λ (g : List ℕ × List Names). All P g.1) gifts (name, path ∷ []) all (All-cons P path [] is (All-nil P))
    by (Some members) e = set-given P name gifts (insert_key by_names members path) all (All-insert_key by_names path P members (members-given P gifts name members all e) is)

gifts-given : (P : Names → Type 0) (name : List ℕ) (gifts : GiftsTo (List ℕ)) (paths : List Names) → AllGiven P gifts → All P paths → AllGiven P (fold (λ all path. with_gift bytes_eq all name path) gifts paths)
gifts-given P name gifts [] all is = all
gifts-given P name gifts (path ∷ paths) all is =
    gifts-given P name (with_gift bytes_eq gifts name path) paths (gift-given P gifts name path all (All-head P path paths is)) (All-tail P path paths is)

bin-given : (P : Names → Type 0) (bin : Option (List ℕ)) (gifts : GiftsTo (List ℕ)) (paths : List Names) → AllGiven P gifts → All P paths → AllGiven P (with_gifts gifts bin paths)
bin-given P None gifts paths all is = all
bin-given P (Some name) gifts paths all is = gifts-given P name gifts paths all is

-- ---- the state of a reading: its rules are sound, and what bins hold is made by them
pub record IsSoundState (answers : Question → Told) (dir : Names) (state : State) : Type 0 where
  pub drafts : AreSound answers dir [] state.drafts
  pub bins : AllGiven (λ path. is_made state.drafts path ≡ true) state.bins

-- ---- outputs
-- where a text of one name leads
one_name : (dir path : Names) → resolve dir (codes "Tupfile") ≡ Ok path → path ≡ dir ++ codes "Tupfile" ∷ []
one_name dir path e = by (below dir (codes "Tupfile")) refl e
  where
    by : (found : Result Names PathFault) → below dir (codes "Tupfile") ≡ found → (elim found as (λ _. Result Names PathFault) [ Ok next ↦ Ok next | Err refusal ↦ Err refusal ]) ≡ Ok path → path ≡ dir ++ codes "Tupfile" ∷ []
    by (Ok next) is e = let same : next ≡ path = cc in below-ok dir (codes "Tupfile") path (inr (ap Ok (sym same) ∙ sym is))
    by (Err refusal) is e = absurd (cc)

brings_tupfile : (answers : Question → Told) (at : Spot) (dir : Names) → Brings answers (led at fault.ForeignOutput dir (codes "Tupfile")) (λ path. path ≡ dir ++ codes "Tupfile" ∷ [])
unfolding taken
brings_tupfile answers at dir path e = by (resolve dir (codes "Tupfile")) refl e
  where
    by : (found : Result Names PathFault) → resolve dir (codes "Tupfile") ≡ found → outcome answers (taken at (λ (f : PathFault). fault.ForeignOutput) found) ≡ Ok path → path ≡ dir ++ codes "Tupfile" ∷ []
    by (Ok next) is e = let same : next ≡ path = cc in one_name dir path (is ∙ ap Ok same)
    by (Err refusal) is e = absurd (cc)

-- a folder may stand on the way to an output
abbrev IsOpen : (Question → Told) → List Draft → List Names → Names → Bool → Type 0
IsOpen answers drafts outputs folder blocked =
    (told_at answers (folder ++ codes "Tupfile" ∷ []) ≢ File) × (blocked ≡ false → (told_at answers folder ≢ File) × (is_taken drafts outputs folder ≡ false))

no_file : (kind : Kind) → is_file kind ≡ false → kind ≢ File
no_file File e is = absurd (cc)
no_file Nothing e is = absurd (cc)
no_file Dir e is = absurd (cc)

brings_blocked : (answers : Question → Told) (at : Spot) (drafts : List Draft) (outputs : List Names) (folder : Names) → Brings answers (is_blocked at drafts outputs folder) (IsOpen answers drafts outputs folder)
unfolding is_blocked
brings_blocked answers at drafts outputs folder =
    brings_then answers (led at fault.ForeignOutput folder (codes "Tupfile")) (by_tupfile at drafts outputs folder) (λ path. path ≡ folder ++ codes "Tupfile" ∷ []) (IsOpen answers drafts outputs folder)
    (brings_tupfile answers at folder)
    (λ tupfile is. brings_then answers (kind_at tupfile) (unless_tupfile at drafts outputs folder) (λ kind. kind ≡ told_at answers tupfile) (IsOpen answers drafts outputs folder) (brings_kind answers tupfile)
    (λ kind told. none kind (λ file. told ∙ subst (λ (p : Names). told_at answers p ≡ File) (sym is) file) (is_file kind) refl))
  where
    none : (kind : Kind) → (told_at answers (folder ++ codes "Tupfile" ∷ []) ≡ File → kind ≡ File) → (b : Bool) → is_file kind ≡ b
        → Brings answers (if b then refused at fault.ForeignOutput else at_folder drafts outputs folder) (IsOpen answers drafts outputs folder)
    none kind so true is = brings_refused Bool answers at fault.ForeignOutput (IsOpen answers drafts outputs folder)
    none kind so false is = brings_then answers (kind_at folder) (is_here drafts outputs folder) (λ here. here ≡ told_at answers folder) (IsOpen answers drafts outputs folder)
        (brings_kind answers folder)
        (λ here told. brings_gives answers (is_file here || is_taken drafts outputs folder) (IsOpen answers drafts outputs folder)
        ((λ file. no_file kind is (so file)), λ free. ((λ file. no_file here (or_left (is_file here) (is_taken drafts outputs folder) free) (told ∙ file)), or_behind (is_file here) (is_taken drafts outputs folder) free)))

-- each folder on the way to a path, down from so many below, may stand there
abbrev IsOpenWay : (Question → Told) → List Draft → List Names → Names → ℕ → Bool → Type 0
IsOpenWay answers drafts outputs path count blocked =
    (folder : Names) → is_below folder path ≡ true → length path ≤ length folder + count → IsOpen answers drafts outputs folder blocked

-- the folder of a path and what lies above that are all that is above the path
open_one : (answers : Question → Told) (drafts : List Draft) (outputs : List Names) (path upper : Names) (name : List ℕ) (count : ℕ) (blocked here : Bool) → path ≡ upper ++ name ∷ []
    → IsOpenWay answers drafts outputs upper count blocked → IsOpen answers drafts outputs upper here → IsOpenWay answers drafts outputs path (suc count) (blocked || here)
open_one answers drafts outputs path upper name count blocked here is above_it at_it folder under long =
    by (same_path folder upper) refl (sym (below_named folder upper name) ∙ ap (is_below folder) (sym is) ∙ under)
  where
    by : (same : Bool) → same_path folder upper ≡ same → (same || is_below folder upper) ≡ true → IsOpen answers drafts outputs folder (blocked || here)
    by true same e =
        let it : folder ≡ upper = (same_path-decides folder upper).0 same in
        subst (λ f. IsOpen answers drafts outputs f (blocked || here)) (sym it) (at_it.0, λ free. at_it.1 (or_behind blocked here free))
    by false apart e =
        let shorter : length path ≡ length upper + 1 = ap length is ∙ length-append upper (name ∷ []) in
        let above_one = above_it folder e (omega (arith, shorter, long)) in
        (above_one.0, λ both. above_one.1 (or_left blocked here both))

brings_folder : (answers : Question → Told) (at : Spot) (drafts : List Draft) (outputs : List Names) (path : Names) (count : ℕ)
    → ((folder : Names) → Brings answers (is_way_blocked at drafts outputs folder count) (IsOpenWay answers drafts outputs folder count)) → (found : Result Names PathFault) → above path ≡ found
    → Brings answers (by_folder at drafts outputs count found) (IsOpenWay answers drafts outputs path (suc count))
brings_folder answers at drafts outputs path count above_it (Ok folder) e =
    let named = above_is path folder e in
    brings_then answers (is_way_blocked at drafts outputs folder count) (at_last at drafts outputs folder) (IsOpenWay answers drafts outputs folder count) (IsOpenWay answers drafts outputs path (suc count))
    (above_it folder)
    (λ blocked way. brings_then answers (is_blocked at drafts outputs folder) (λ here. gives (blocked || here)) (IsOpen answers drafts outputs folder) (IsOpenWay answers drafts outputs path (suc count))
    (brings_blocked answers at drafts outputs folder)
    (λ here at_it. brings_gives answers (blocked || here) (IsOpenWay answers drafts outputs path (suc count)) (open_one answers drafts outputs path folder named.0 count blocked here named.1 way at_it)))
brings_folder answers at drafts outputs path count above_it (Err refusal) e =
    brings_gives answers false (IsOpenWay answers drafts outputs path (suc count))
    (λ folder under long. absurd (false≢true (sym (nothing_below folder) ∙ ap (is_below folder) (sym (top_alone path refusal e)) ∙ under)))

brings_way : (answers : Question → Told) (at : Spot) (drafts : List Draft) (outputs : List Names) (path : Names) (count : ℕ)
    → Brings answers (is_way_blocked at drafts outputs path count) (IsOpenWay answers drafts outputs path count)
unfolding is_way_blocked
brings_way answers at drafts outputs path zero =
    brings_gives answers false (IsOpenWay answers drafts outputs path 0) (λ folder under long. absurd (let less = below_longer folder path under in omega arith))
brings_way answers at drafts outputs path (suc count) = brings_folder answers at drafts outputs path count (λ folder. brings_way answers at drafts outputs folder count) (above path) refl

abbrev by_kind : Spot → List Draft → List Names → Names → Bool → Kind → Reads ParseFault Names
by_kind at drafts outputs path blocked kind = elim kind as (λ _. Reads ParseFault Names) [
  | File ↦ refused at fault.OutputIsSource
  | Dir ↦ refused at fault.OutputIsDir
  | Nothing ↦ if blocked || is_above_one drafts outputs path then refused at fault.OutputBelowFile else gives path
]

-- a path may be an output, by what stands at it and on the way
pub record IsFree (drafts : List Draft) (outputs : List Names) (path : Names) (blocked : Bool) (kind : Kind) (found : Names) : Type 0 where
  pub it : path ≡ found
  pub nothing : kind ≡ Nothing
  pub new : is_taken drafts outputs path ≡ false
  pub way : blocked ≡ false
  pub alone : is_above_one drafts outputs path ≡ false

brings_new : (answers : Question → Told) (at : Spot) (drafts : List Draft) (outputs : List Names) (path : Names) (blocked : Bool) (kind : Kind)
    → Brings answers (new_output at drafts outputs path blocked kind) (IsFree drafts outputs path blocked kind)
brings_new answers at drafts outputs path blocked kind = by (is_taken drafts outputs path) kind refl
  where
    free : (stands : Bool) → (blocked || is_above_one drafts outputs path) ≡ stands → is_taken drafts outputs path ≡ false
        → Brings answers (if stands then refused at fault.OutputBelowFile else gives path) (IsFree drafts outputs path blocked Nothing)
    free true stands e = brings_refused Names answers at fault.OutputBelowFile (IsFree drafts outputs path blocked Nothing)
    free false stands e =
        brings_gives answers path (IsFree drafts outputs path blocked Nothing)
        (record { it = refl; nothing = refl; new = e; way = or_left blocked (is_above_one drafts outputs path) stands; alone = or_behind blocked (is_above_one drafts outputs path) stands })

    by : (there : Bool) (kind : Kind) → is_taken drafts outputs path ≡ there
        → Brings answers (if there then refused at fault.DuplicateOutput else by_kind at drafts outputs path blocked kind) (IsFree drafts outputs path blocked kind)
    by true kind e = brings_refused Names answers at fault.DuplicateOutput (IsFree drafts outputs path blocked kind)
    by false File e = brings_refused Names answers at fault.OutputIsSource (IsFree drafts outputs path blocked File)
    by false Dir e = brings_refused Names answers at fault.OutputIsDir (IsFree drafts outputs path blocked Dir)
    by false Nothing e = free (blocked || is_above_one drafts outputs path) refl e

-- a path may be one more output of a rule that makes some already
pub record MayMakeMore (answers : Question → Told) (dir : Names) (drafts : List Draft) (outputs : List Names) (path : Names) : Type 0 where
  pub may : MayMake answers dir drafts path
  pub new : among path outputs ≡ false
  pub apart : (other : Names) → among other outputs ≡ true → IsBelow dir other → (IsBelow other path → ⊥) × (IsBelow path other → ⊥)

-- paths may be the outputs of a rule
pub record MayMakeAll (answers : Question → Told) (dir : Names) (drafts : List Draft) (outputs : List Names) : Type 0 where
  pub all : All (MayMake answers dir drafts) outputs
  pub once : IsDistinct same_path outputs
  pub flat : AreFlat outputs

brings_known : (answers : Question → Told) (at : Spot) (drafts : List Draft) (outputs : List Names) (path : Names)
    → Brings answers (known_output at drafts outputs path) (MayMakeMore answers at.dir drafts outputs)
unfolding known_output
brings_known answers at drafts outputs path = by (may_make at.dir path) refl
  where
    -- a folder on the way is one of those that were looked at
    near : (folder : Names) → IsBelow at.dir folder → length path ≤ length folder + (between at.dir path)
    near folder under = let longer = below_longer at.dir folder (below_so at.dir folder under) in omega arith

    clear : (blocked : Bool) → IsOpenWay answers drafts outputs path (between at.dir path) blocked → blocked ≡ false → is_above_one drafts outputs path ≡ false
        → (other : Names) → is_taken drafts outputs other ≡ true → IsBelow at.dir other → (IsBelow other path → ⊥) × (IsBelow path other → ⊥)
    clear blocked way unblocked alone other taken under = (
      (λ above_it. false≢true (sym ((way other (below_so other path above_it) (near other under)).1 unblocked).1 ∙ taken)),
      (λ below_it. false≢true (sym alone ∙ above_one other taken (below_so path other below_it))),
    )
      where
        above_one : (other : Names) → is_taken drafts outputs other ≡ true → is_below path other ≡ true → is_above_one drafts outputs path ≡ true
        above_one other taken under = over (is_made drafts other) refl taken
          where
            over : (made : Bool) → is_made drafts other ≡ made → (made || among other outputs) ≡ true → is_above_one drafts outputs path ≡ true
            over true made taken = or_true (list_any (is_below path) (made_by drafts)) (list_any (is_below path) outputs) (passes_in (is_below path) (made_by drafts) other (made_among drafts other ∙ made) under)
            over false made taken = or_right (list_any (is_below path) (made_by drafts)) (list_any (is_below path) outputs) (passes_in (is_below path) outputs other taken under)

    made : is_below at.dir path ≡ true → (blocked : Bool) → IsOpenWay answers drafts outputs path (between at.dir path) blocked → (kind : Kind) → kind ≡ told_at answers path
        → Brings answers (new_output at drafts outputs path blocked kind) (MayMakeMore answers at.dir drafts outputs)
    made under blocked way kind is found e =
        let free = brings_new answers at drafts outputs path blocked kind found e in
        let apart = clear blocked way free.way free.alone in
        subst (MayMakeMore answers at.dir drafts outputs) free.it (record {
          may = record {
            below = below_is at.dir path under;
            way = λ folder over above_it. (let here = way folder (below_so folder path above_it) (near folder over) in (here.0, (here.1 free.way).0));
            free = sym is ∙ free.nothing;
            new = or_left (is_made drafts path) (among path outputs) free.new;
            apart = λ other made. apart other (or_true (is_made drafts other) (among other outputs) made);
          };
          new = or_behind (is_made drafts path) (among path outputs) free.new;
          apart = λ other there. apart other (or_right (is_made drafts other) (among other outputs) there);
        })

    by : (may : Bool) → may_make at.dir path ≡ may
        → Brings answers (if may then and_then (is_way_blocked at drafts outputs path (between at.dir path)) (λ blocked. and_then (kind_at path) (λ kind. new_output at drafts outputs path blocked kind)) else refused at fault.ForeignOutput)
        (MayMakeMore answers at.dir drafts outputs)
    by true may =
        brings_then answers (is_way_blocked at drafts outputs path (between at.dir path)) (λ blocked. and_then (kind_at path) (λ kind. new_output at drafts outputs path blocked kind)) (IsOpenWay answers drafts outputs path (between at.dir path)) (MayMakeMore answers at.dir drafts outputs)
        (brings_way answers at drafts outputs path (between at.dir path))
        (λ blocked way. brings_then answers (kind_at path) (λ kind. new_output at drafts outputs path blocked kind) (λ kind. kind ≡ told_at answers path) (MayMakeMore answers at.dir drafts outputs)
        (brings_kind answers path) (made (and_parts (is_below at.dir path) (not (is_reserved path)) may).0 blocked way))
    by false may = brings_refused Names answers at fault.ForeignOutput (MayMakeMore answers at.dir drafts outputs)

-- a path that is one of these or the last
among_more : (paths : List Names) (path other : Names) → among other (paths ++ path ∷ []) ≡ true → (among other paths ≡ true) ⊎ (other ≡ path)
among_more paths path other e = by (among other paths) refl (sym (list_any-append (same_path other) paths (path ∷ [])) ∙ e)
  where
    last : (b : Bool) → (b || false) ≡ true → b ≡ true
    last true e = refl
    last false e = e

    by : (b : Bool) → among other paths ≡ b → (b || (same_path other path || false)) ≡ true → (among other paths ≡ true) ⊎ (other ≡ path)
    by true there e = inl there
    by false new e = inr ((same_path-decides other path).0 (last (same_path other path) e))

one_more_output : (answers : Question → Told) (dir : Names) (drafts : List Draft) (outputs : List Names) (path : Names) → MayMakeAll answers dir drafts outputs → MayMakeMore answers dir drafts outputs path
    → MayMakeAll answers dir drafts (outputs ++ path ∷ [])
one_more_output answers dir drafts outputs path some may = record {
  all = All-push (MayMake answers dir drafts) outputs path some.all may.may;
  once = once_more outputs path some.once may.new;
  flat = λ one other here there. by one other (among_more outputs path one here) (among_more outputs path other there);
}
  where
    under : (other : Names) → among other outputs ≡ true → IsBelow dir other
    under other there = (all_at (MayMake answers dir drafts) outputs other some.all there).below

    by : (one other : Names) → (among one outputs ≡ true) ⊎ (one ≡ path) → (among other outputs ≡ true) ⊎ (other ≡ path) → IsBelow one other → ⊥
    by one other (inl here) (inl there) = some.flat one other here there
    by one other (inl here) (inr last) = λ over. (may.apart one here (under one here)).0 (subst (IsBelow one) last over)
    by one other (inr last) (inl there) = λ over. (may.apart other there (under other there)).1 (subst (λ p. IsBelow p other) last over)
    by one other (inr last) (inr same) = λ over. false≢true (sym (not_below_itself path) ∙ below_so path path (subst (IsBelow path) same (subst (λ p. IsBelow p other) last over)))

brings_output : (answers : Question → Told) (at : Spot) (parts : FlagParts) (drafts : List Draft) (outputs : List Names) (word : List ℕ)
    → Brings answers (from_output at parts drafts outputs word) (MayMakeMore answers at.dir drafts outputs)
unfolding from_output
brings_output answers at parts drafts outputs word =
    brings_behind answers (flagged_text at parts word) (λ text. and_then (led at fault.ForeignOutput at.dir text) (λ path. known_output at drafts outputs path)) (MayMakeMore answers at.dir drafts outputs)
    (λ text. brings_behind answers (led at fault.ForeignOutput at.dir text) (λ path. known_output at drafts outputs path) (MayMakeMore answers at.dir drafts outputs)
    (λ path. brings_known answers at drafts outputs path))

brings_outputs : (answers : Question → Told) (at : Spot) (parts : FlagParts) (drafts : List Draft) (outputs : List Names) (words : List (List ℕ)) → MayMakeAll answers at.dir drafts outputs
    → Brings answers (from_outputs at parts drafts outputs words) (MayMakeAll answers at.dir drafts)
unfolding from_outputs
brings_outputs answers at parts drafts outputs [] all = brings_gives answers outputs (MayMakeAll answers at.dir drafts) all
brings_outputs answers at parts drafts outputs (word ∷ more) all =
    brings_then answers (from_output at parts drafts outputs word) (λ path. from_outputs at parts drafts (outputs ++ path ∷ []) more) (MayMakeMore answers at.dir drafts outputs) (MayMakeAll answers at.dir drafts)
    (brings_output answers at parts drafts outputs word)
    (λ path may. brings_outputs answers at parts drafts (outputs ++ path ∷ []) more (one_more_output answers at.dir drafts outputs path all may))

no_outputs : (answers : Question → Told) (dir : Names) (drafts : List Draft) → MayMakeAll answers dir drafts []
unfolding IsDistinct
no_outputs answers dir drafts = record { all = All-nil (MayMake answers dir drafts); once = tt; flat = λ one other there. absurd (false≢true there) }

-- a command keeps to it, whatever it says
brings_text : (answers : Question → Told) (at : Spot) (words : Words) (group : Option GroupRef) (drafts : List Draft) (parts : FlagParts) (outputs : List Names)
    → All (MayTake answers drafts) parts.inputs → All (MayTake answers drafts) parts.order → MayMakeAll answers at.dir drafts outputs
    → Brings answers (with_text at words group parts outputs) (IsSound answers at.dir drafts)
unfolding with_text
brings_text answers at words group drafts parts outputs takes order makes =
    brings_behind answers (spoken at parts words.command) (λ said. gives (draft_of at group parts outputs said)) (IsSound answers at.dir drafts)
    (λ said. brings_gives answers (draft_of at group parts outputs said) (IsSound answers at.dir drafts) (record { inputs = takes; order = order; outputs = makes.all; once = makes.once; flat = makes.flat }))

brings_extra : (answers : Question → Told) (at : Spot) (words : Words) (group : Option GroupRef) (drafts : List Draft) (parts : FlagParts)
    → All (MayTake answers drafts) parts.inputs → All (MayTake answers drafts) parts.order → MayMakeAll answers at.dir drafts parts.outputs
    → Brings answers (with_extra at words group drafts parts) (IsSound answers at.dir drafts)
unfolding with_extra
brings_extra answers at words group drafts parts takes order some =
    brings_then answers (from_outputs at parts drafts parts.outputs words.extra) (λ all. with_text at words group (in_command parts) all) (MayMakeAll answers at.dir drafts) (IsSound answers at.dir drafts)
    (brings_outputs answers at parts drafts parts.outputs words.extra some)
    (λ all makes. brings_text answers at words group drafts (in_command parts) all takes order makes)

brings_drafted : (answers : Question → Told) (at : Spot) (words : Words) (sources : Sources) (drafts : List Draft) (job : Job)
    → All (MayTake answers drafts) job.inputs → All (MayTake answers drafts) sources.order
    → Brings answers (drafted at words sources drafts job) (IsSound answers at.dir drafts)
unfolding drafted with_outputs
brings_drafted answers at words sources drafts job takes order =
    let parts = flag_parts at words.foreach sources job in
    brings_then answers (from_outputs at parts drafts [] words.outputs) (λ plain. with_extra at words sources.gives drafts (in_extra parts plain)) (MayMakeAll answers at.dir drafts) (IsSound answers at.dir drafts)
    (brings_outputs answers at parts drafts [] words.outputs (no_outputs answers at.dir drafts))
    (λ plain some. brings_extra answers at words sources.gives drafts (in_extra parts plain) takes order some)

-- ---- inputs
-- all that was found may be taken
abbrev pub TakesFound : (Question → Told) → List Draft → Found → Type 0
TakesFound answers drafts found = All (λ (i : Input). MayTake answers drafts i.path) found.inputs

takes_file : (answers : Question → Told) (drafts : List Draft) (path : Names) (kind : Kind) → kind ≡ told_at answers path → (is_file kind || is_made drafts path) ≡ true → MayTake answers drafts path
takes_file answers drafts path File is e = inl (sym is)
takes_file answers drafts path Dir is e = inr e
takes_file answers drafts path Nothing is e = inr e

brings_input : (answers : Question → Told) (at : Spot) (drafts : List Draft) (path : Names) (kind : Kind) → kind ≡ told_at answers path → Brings answers (known_input at drafts path kind) (TakesFound answers drafts)
brings_input answers at drafts path kind is = by (is_file kind || is_made drafts path) refl
  where
    by : (there : Bool) → (is_file kind || is_made drafts path) ≡ there → Brings answers (if there then gives (one_input path) else refused at fault.MissingInput) (TakesFound answers drafts)
    by true e =
        brings_gives answers (one_input path) (TakesFound answers drafts)
        (All-cons (λ (i : Input). MayTake answers drafts i.path) (input path None) [] (takes_file answers drafts path kind is e) (All-nil (λ (i : Input). MayTake answers drafts i.path)))
    by false e = brings_refused Found answers at fault.MissingInput (TakesFound answers drafts)

brings_literal : (answers : Question → Told) (at : Spot) (drafts : List Draft) (word : List ℕ) → Brings answers (literal at drafts word) (TakesFound answers drafts)
unfolding literal
brings_literal answers at drafts word =
    brings_behind answers (led at fault.MissingInput at.dir word) (λ path. and_then (kind_at path) (λ kind. known_input at drafts path kind)) (TakesFound answers drafts)
    (λ path. brings_then answers (kind_at path) (λ kind. known_input at drafts path kind) (λ kind. kind ≡ told_at answers path) (TakesFound answers drafts) (brings_kind answers path)
    (λ kind is. brings_input answers at drafts path kind is))

brings_bin : (answers : Question → Told) (at : Spot) (drafts : List Draft) (bins : GiftsTo (List ℕ)) (name : List ℕ) → AllGiven (λ path. is_made drafts path ≡ true) bins
    → Brings answers (from_bin at bins name) (TakesFound answers drafts)
unfolding from_bin
brings_bin answers at drafts bins name all = by (members_of bytes_eq bins name) refl
  where
    by : (found : Option (List Names)) → members_of bytes_eq bins name ≡ found
        → Brings answers (elim found as (λ _. Reads ParseFault Found) [ Some paths ↦ gives (inputs_alone (map (λ (path : Names). input path None) paths)) | None ↦ refused at fault.NoSuchBin ]) (TakesFound answers drafts)
    by None e = brings_refused Found answers at fault.NoSuchBin (TakesFound answers drafts)
    by (Some paths) e =
        brings_gives answers (inputs_alone (map (λ (path : Names). input path None) paths)) (TakesFound answers drafts)
        (All-map (λ (i : Input). MayTake answers drafts i.path) (λ (path : Names). input path None) paths
        (All-weaker (λ path. is_made drafts path ≡ true) (MayTake answers drafts) (λ path made. inr made) paths (members-given (λ path. is_made drafts path ≡ true) bins name paths all e)))

brings_group : (answers : Question → Told) (at : Spot) (drafts : List Draft) (word : List ℕ) → Brings answers (from_group at word) (TakesFound answers drafts)
unfolding from_group
brings_group answers at drafts word =
    brings_behind answers (led_to_folder at fault.MissingInput word) (λ dir. gives (one_group (group_in dir word))) (TakesFound answers drafts)
    (λ dir. brings_gives answers (one_group (group_in dir word)) (TakesFound answers drafts) (All-nil (λ (i : Input). MayTake answers drafts i.path)))

-- a name whose file in a folder may be taken
abbrev pub TakesName : (Question → Told) → List Draft → Names → List ℕ → Type 0
TakesName answers drafts dir name = MayTake answers drafts (dir ++ name ∷ [])

pub ordered-all : (P : List ℕ → Type 0) (some names : List (List ℕ)) → All P some → All P names → All P (fold (insert_key by_bytes) some names)
ordered-all P some [] all more = all
ordered-all P some (name ∷ names) all more =
    ordered-all P (insert_key by_bytes some name) names (All-insert_key by_bytes name P some all (All-head P name names more)) (All-tail P name names more)

-- the names of outputs in a folder
names-made : (answers : Question → Told) (drafts : List Draft) (dir : Names) (paths : List Names) → All (λ path. is_made drafts path ≡ true) paths → All (TakesName answers drafts dir) (names_among dir paths)
names-made answers drafts dir [] all = All-nil (TakesName answers drafts dir)
names-made answers drafts dir (path ∷ paths) all = by (names-made answers drafts dir paths (All-tail (λ path. is_made drafts path ≡ true) path paths all)) (name_in dir path) refl
  where
    by : All (TakesName answers drafts dir) (names_among dir paths) → (found : Option (List ℕ)) → name_in dir path ≡ found → All (TakesName answers drafts dir) (cons_option found (names_among dir paths))
    by rest None e = rest
    by rest (Some name) e =
        All-cons (TakesName answers drafts dir) name (names_among dir paths)
        (inr (ap (is_made drafts) (sym (name_in-own dir path name e)) ∙ All-head (λ path. is_made drafts path ≡ true) path paths all)) rest

brings_files : (answers : Question → Told) (drafts : List Draft) (dir : Names) → NamesFiles answers → Brings answers (names_of_files drafts dir) (All (TakesName answers drafts dir))
unfolding names_of_files
brings_files answers drafts dir files =
    brings_then answers (names_at dir) (λ names. gives (in_order (names ++ names_among dir (made_by drafts)))) (λ names. names ≡ names_in (answers (question.Names dir))) (All (TakesName answers drafts dir))
    (brings_names answers dir)
    (λ names is. brings_gives answers (in_order (names ++ names_among dir (made_by drafts))) (All (TakesName answers drafts dir))
    (ordered-all (TakesName answers drafts dir) [] (names ++ names_among dir (made_by drafts)) (All-nil (TakesName answers drafts dir))
    (All-append (TakesName answers drafts dir) names (names_among dir (made_by drafts))
    (subst (All (TakesName answers drafts dir)) (sym is) (All-weaker (λ name. told_at answers (dir ++ name ∷ []) ≡ File) (TakesName answers drafts dir) (λ name file. inl file) (names_in (answers (question.Names dir))) (files dir)))
    (names-made answers drafts dir (made_by drafts) (made_all drafts)))))

matching-all : (answers : Question → Told) (drafts : List Draft) (dir : Names) (symbols : List Symbol) (names : List (List ℕ)) → All (TakesName answers drafts dir) names
    → All (λ (i : Input). MayTake answers drafts i.path) (filter_map (matching dir symbols) names)
matching-all answers drafts dir symbols [] all = All-nil (λ (i : Input). MayTake answers drafts i.path)
matching-all answers drafts dir symbols (name ∷ names) all =
    by (matching-all answers drafts dir symbols names (All-tail (TakesName answers drafts dir) name names all)) (matches symbols (chars name)) (result_ok (below dir name)) refl
  where
    by : All (λ (i : Input). MayTake answers drafts i.path) (filter_map (matching dir symbols) names) → (here : Bool) (path : Option Names) → result_ok (below dir name) ≡ path
        → All (λ (i : Input). MayTake answers drafts i.path) (cons_option (if here then option_map (matched_input symbols name) path else None) (filter_map (matching dir symbols) names))
    by rest true None e = rest
    by rest true (Some path) e =
        All-cons (λ (i : Input). MayTake answers drafts i.path) (matched_input symbols name path) (filter_map (matching dir symbols) names)
        (subst (MayTake answers drafts) (sym (below-own dir name path e)) (All-head (TakesName answers drafts dir) name names all)) rest
    by rest false path e = rest

brings_glob : (answers : Question → Told) (at : Spot) (drafts : List Draft) (word : List ℕ) → NamesFiles answers → Brings answers (globbed at drafts word) (TakesFound answers drafts)
unfolding globbed matched_in
brings_glob answers at drafts word files =
    brings_behind answers (glob_of at (last_name word)) (λ symbols. and_then (led_to_folder at fault.MissingInput word) (λ dir. matched_in drafts symbols dir)) (TakesFound answers drafts)
    (λ symbols. brings_behind answers (led_to_folder at fault.MissingInput word) (λ dir. matched_in drafts symbols dir) (TakesFound answers drafts)
    (λ dir. brings_then answers (names_of_files drafts dir) (λ names. gives (inputs_alone (filter_map (matching dir symbols) names))) (All (TakesName answers drafts dir)) (TakesFound answers drafts)
    (brings_files answers drafts dir files)
    (λ names all. brings_gives answers (inputs_alone (filter_map (matching dir symbols) names)) (TakesFound answers drafts) (matching-all answers drafts dir symbols names all))))

brings_file_word : (answers : Question → Told) (at : Spot) (drafts : List Draft) (word : List ℕ) → NamesFiles answers → Brings answers (from_files at drafts word) (TakesFound answers drafts)
unfolding from_files
brings_file_word answers at drafts word files =
    brings_behind answers (flagged_text at (bare_parts at.dir) word) (λ text. if is_glob text then globbed at drafts text else literal at drafts text) (TakesFound answers drafts)
    (λ text. by text (is_glob text))
  where
    by : (text : List ℕ) (glob : Bool) → Brings answers (if glob then globbed at drafts text else literal at drafts text) (TakesFound answers drafts)
    by text true = brings_glob answers at drafts text files
    by text false = brings_literal answers at drafts text

brings_other : (answers : Question → Told) (at : Spot) (drafts : List Draft) (word : List ℕ) → NamesFiles answers → Brings answers (from_other at drafts word) (TakesFound answers drafts)
unfolding from_other
brings_other answers at drafts word files = by (is_group word)
  where
    by : (group : Bool) → Brings answers (if group then from_group at word else from_files at drafts word) (TakesFound answers drafts)
    by true = brings_group answers at drafts word
    by false = brings_file_word answers at drafts word files

brings_word : (answers : Question → Told) (at : Spot) (state : State) (word : List ℕ) → NamesFiles answers → IsSoundState answers at.dir state → Brings answers (from_word at state word) (TakesFound answers state.drafts)
unfolding from_word
brings_word answers at state word files is = by (bin_name word)
  where
    by : (bin : Option (List ℕ))
        → Brings answers (elim bin as (λ _. Reads ParseFault Found) [ Some name ↦ from_bin at state.bins name | None ↦ from_other at state.drafts word ]) (TakesFound answers state.drafts)
    by (Some name) = brings_bin answers at state.drafts state.bins name is.bins
    by None = brings_other answers at state.drafts word files

with_input-all : (P : Names → Type 0) (inputs : List Input) (one : Input) → All (λ (i : Input). P i.path) inputs → P one.path → All (λ (i : Input). P i.path) (with_input inputs one)
with_input-all P inputs one all is = by (has_path inputs one.path)
  where
    by : (there : Bool) → All (λ (i : Input). P i.path) (if there then inputs else inputs ++ one ∷ [])
    by true = all
    by false = All-push (λ (i : Input). P i.path) inputs one all is

with_inputs-all : (P : Names → Type 0) (inputs more : List Input) → All (λ (i : Input). P i.path) inputs → All (λ (i : Input). P i.path) more → All (λ (i : Input). P i.path) (fold with_input inputs more)
with_inputs-all P inputs [] all is = all
with_inputs-all P inputs (one ∷ more) all is =
    with_inputs-all P (with_input inputs one) more (with_input-all P inputs one all (All-head (λ (i : Input). P i.path) one more is)) (All-tail (λ (i : Input). P i.path) one more is)

brings_words : (answers : Question → Told) (at : Spot) (state : State) (found : Found) (words : List (List ℕ)) → NamesFiles answers → IsSoundState answers at.dir state → TakesFound answers state.drafts found
    → Brings answers (from_words at state found words) (TakesFound answers state.drafts)
unfolding from_words
brings_words answers at state found [] files is all = brings_gives answers found (TakesFound answers state.drafts) all
brings_words answers at state found (word ∷ more) files is all =
    brings_then answers (from_word at state word) (λ next. from_words at state (with_found found next) more) (TakesFound answers state.drafts) (TakesFound answers state.drafts)
    (brings_word answers at state word files is)
    (λ next some. brings_words answers at state (with_found found next) more files is (with_inputs-all (MayTake answers state.drafts) found.inputs next.inputs all some))

-- ---- commands
-- all that a command takes may be taken
abbrev pub TakesJob : (Question → Told) → List Draft → Job → Type 0
TakesJob answers drafts job = All (MayTake answers drafts) job.inputs

paths-all : (P : Names → Type 0) (inputs : List Input) → All (λ (i : Input). P i.path) inputs → All P (paths_of inputs)
paths-all P inputs all = All-map P (λ (i : Input). i.path) inputs all

jobs-all : (answers : Question → Told) (drafts : List Draft) (words : Words) (inputs : List Input) → All (λ (i : Input). MayTake answers drafts i.path) inputs → All (TakesJob answers drafts) (jobs_of words inputs)
jobs-all answers drafts words inputs all = by words.foreach (gives_nothing words.inputs inputs)
  where
    by : (foreach nothing : Bool) → All (TakesJob answers drafts) (if foreach then map one_job inputs else if nothing then [] else whole_job inputs ∷ [])
    by true nothing =
        All-map (TakesJob answers drafts) one_job inputs
        (All-weaker (λ (i : Input). MayTake answers drafts i.path) (λ (i : Input). TakesJob answers drafts (one_job i))
        (λ i may. All-cons (MayTake answers drafts) i.path [] may (All-nil (MayTake answers drafts))) inputs all)
    by false true = All-nil (TakesJob answers drafts)
    by false false = All-cons (TakesJob answers drafts) (whole_job inputs) [] (paths-all (MayTake answers drafts) inputs all) (All-nil (TakesJob answers drafts))

kept-sound : (answers : Question → Told) (dir : Names) (bin : Option (List ℕ)) (state : State) (draft : Draft) → IsSoundState answers dir state → IsSound answers dir state.drafts draft
    → IsSoundState answers dir (with_draft state bin draft)
kept-sound answers dir bin state draft is sound =
    record {
      drafts = sound_more answers dir [] state.drafts draft is.drafts sound;
      bins = bin-given (λ path. is_made (state.drafts ++ draft ∷ []) path ≡ true) bin state.bins draft.outputs
          (All-weaker (λ (g : List ℕ × List Names). All (λ path. is_made state.drafts path ≡ true) g.1) (λ (g : List ℕ × List Names). All (λ path. is_made (state.drafts ++ draft ∷ []) path ≡ true) g.1)
          (λ g all. All-weaker (λ path. is_made state.drafts path ≡ true) (λ path. is_made (state.drafts ++ draft ∷ []) path ≡ true) (made_more state.drafts draft) g.1 all) state.bins is.bins)
          (All-weaker (λ path. among path draft.outputs ≡ true) (λ path. is_made (state.drafts ++ draft ∷ []) path ≡ true) (made_last state.drafts draft) draft.outputs (all_among draft.outputs));
    }

-- what is left of a rule's commands: what they take may be taken behind each state that is reached
abbrev pub GoesOn : (Question → Told) → Names → Sources → List Job → State → Type 0
GoesOn answers dir sources jobs state = IsSoundState answers dir state × All (MayTake answers state.drafts) sources.order × All (TakesJob answers state.drafts) jobs

more-taken : (answers : Question → Told) (drafts : List Draft) (draft : Draft) (paths : List Names) → All (MayTake answers drafts) paths → All (MayTake answers (drafts ++ draft ∷ [])) paths
more-taken answers drafts draft paths all = All-weaker (MayTake answers drafts) (MayTake answers (drafts ++ draft ∷ [])) (takes_more answers drafts draft) paths all

brings_job : (answers : Question → Told) (at : Spot) (words : Words) (sources : Sources) (state : State) (job : Job) (more : List Job) → GoesOn answers at.dir sources (job ∷ more) state
    → Brings answers (with_job at words sources state job) (GoesOn answers at.dir sources more)
unfolding with_job
brings_job answers at words sources state job more (is, order, jobs) =
    brings_then answers (drafted at words sources state.drafts job) (λ draft. gives (with_draft state words.bin draft)) (IsSound answers at.dir state.drafts) (GoesOn answers at.dir sources more)
    (brings_drafted answers at words sources state.drafts job (All-head (TakesJob answers state.drafts) job more jobs) order)
    (λ draft sound. brings_gives answers (with_draft state words.bin draft) (GoesOn answers at.dir sources more) (
      kept-sound answers at.dir words.bin state draft is sound,
      more-taken answers state.drafts draft sources.order order,
      All-weaker (TakesJob answers state.drafts) (TakesJob answers (state.drafts ++ draft ∷ []))
          (λ j takes. more-taken answers state.drafts draft j.inputs takes) more (All-tail (TakesJob answers state.drafts) job more jobs),
    ))

brings_jobs : (answers : Question → Told) (at : Spot) (words : Words) (sources : Sources) (state : State) (jobs : List Job) → GoesOn answers at.dir sources jobs state
    → Brings answers (with_jobs at words sources state jobs) (IsSoundState answers at.dir)
unfolding with_jobs
brings_jobs answers at words sources state [] (is, order, jobs) = brings_gives answers state (IsSoundState answers at.dir) is
brings_jobs answers at words sources state (job ∷ more) goes =
    brings_then answers (with_job at words sources state job) (λ next. with_jobs at words sources next more) (GoesOn answers at.dir sources more) (IsSoundState answers at.dir)
    (brings_job answers at words sources state job more goes) (λ next on. brings_jobs answers at words sources next more on)

-- ---- lines
-- all that a rule's commands take may be taken
abbrev TakesPlan : (Question → Told) → List Draft → Plan → Type 0
TakesPlan answers drafts plan = All (MayTake answers drafts) plan.sources.order × All (TakesJob answers drafts) plan.jobs

brings_plan : (answers : Question → Told) (at : Spot) (state : State) (words : Words) → NamesFiles answers → IsSoundState answers at.dir state → Brings answers (planned at state words) (TakesPlan answers state.drafts)
unfolding planned plan_of
brings_plan answers at state words files is =
    brings_then answers (from_words at state nothing_found words.inputs) (behind_inputs at state words) (TakesFound answers state.drafts) (TakesPlan answers state.drafts)
    (brings_words answers at state nothing_found words.inputs files is (All-nil (λ (i : Input). MayTake answers state.drafts i.path)))
    (λ inputs takes. brings_then answers (from_words at state nothing_found words.order) (behind_order at words inputs) (TakesFound answers state.drafts) (TakesPlan answers state.drafts)
    (brings_words answers at state nothing_found words.order files is (All-nil (λ (i : Input). MayTake answers state.drafts i.path)))
    (λ order may. brings_behind answers (given_to at words.group) (behind_group words inputs order) (TakesPlan answers state.drafts)
    (λ group. brings_gives answers (plan_with words inputs order group) (TakesPlan answers state.drafts)
    (paths-all (MayTake answers state.drafts) order.inputs may, jobs-all answers state.drafts words inputs.inputs takes))))

pub brings_ruled : (answers : Question → Told) (at : Spot) (state : State) (line : List ℕ) → NamesFiles answers → IsSoundState answers at.dir state → Brings answers (ruled at state line) (IsSoundState answers at.dir)
unfolding ruled with_words
brings_ruled answers at state line files is =
    brings_behind answers (words_in at state line) (behind_words at state) (IsSoundState answers at.dir)
    (λ words. brings_then answers (planned at state words) (behind_plan at state words) (TakesPlan answers state.drafts) (IsSoundState answers at.dir)
    (brings_plan answers at state words files is)
    (λ plan takes. brings_jobs answers at words plan.sources state plan.jobs (is, takes.0, takes.1)))

-- a line that makes no rule and gives nothing to a bin
pub same-sound : (answers : Question → Told) (dir : Names) (state next : State) → next.drafts ≡ state.drafts → next.bins ≡ state.bins → IsSoundState answers dir state → IsSoundState answers dir next
same-sound answers dir state next drafts bins is = record {
  drafts = subst (AreSound answers dir []) (sym drafts) is.drafts;
  bins = subst (λ (d : List Draft). AllGiven (λ path. is_made d path ≡ true) next.bins) (sym drafts) (subst (AllGiven (λ path. is_made state.drafts path ≡ true)) (sym bins) is.bins);
}

brings_body : (answers : Question → Told) (at : Spot) (state : State) (name : List ℕ) (body : Macro) → IsSoundState answers at.dir state → Brings answers (with_body at state name body) (IsSoundState answers at.dir)
unfolding with_body
brings_body answers at state name body is =
    brings_behind answers (one_more at state.macros name body) (behind_macros state) (IsSoundState answers at.dir)
    (λ macros. brings_gives answers (record state { macros = macros }) (IsSoundState answers at.dir) (same-sound answers at.dir state (record state { macros = macros }) refl refl is))

pub brings_defined : (answers : Question → Told) (at : Spot) (state : State) (left right : List ℕ) → IsSoundState answers at.dir state → Brings answers (defined at state left right) (IsSoundState answers at.dir)
unfolding defined
brings_defined answers at state left right is =
    brings_behind answers (body_in at state.variables (trim left) right) (behind_body at state (trim left)) (IsSoundState answers at.dir) (λ body. brings_body answers at state (trim left) body is)
