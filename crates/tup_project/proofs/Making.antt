-- The rules of a folder's reading make files below the folder, where no source stands and none below, and no file and no folder with a
-- Tupfile is on the way.
use Rattle.std.proofs.Common.{◌≡◌, ◌≢◌, ℕ, Bool, true, false, cond, List, [], ◌∷◌, ◌++◌, get_or, Option, Some, None, Ok, All, refl, sym, ap, ◌∙◌, subst}
use Rattle.std.specs.Cmp.{eq_by_cmp_equiv}
use Rattle.std.specs.FinMap as finite
use Rattle.std.specs.List.{cons_option, Contains, IsDistinct}
use Rattle.std.specs.Result.{result_ok}
use Rattle.std.proofs.lemmas.List.Elements.{All-nil, All-cons, All-head, All-tail, All-append, All-weaker, All-contains_itself}
use Rattle.std.proofs.lemmas.Map.Views.{list_any-from_Contains}
use Rattle.tup_path.specs.Name.{Names}
use Rattle.tup_path.specs.Order.{by_names, by_names-total, same_path}
use Rattle.tup_path.specs.Resolve.{above}
use Rattle.tup_path.specs.Tree.{Tree, IsBelow}
use Rattle.tup_path.proofs.Same.{same_path-decides}
use Rattle.tup_rule.specs.declared.draft.Draft.{Draft}
use Rattle.tup_rule.specs.declared.question.Kind.{Kind}
use Rattle.tup_rule.specs.declared.question.Kind.TheVariants.{Nothing, File, Dir}
use Rattle.tup_rule.specs.declared.question.Question.{Question}
use Rattle.tup_rule.specs.declared.question.Reading.{Reading}
use Rattle.tup_rule.specs.declared.question.Told.{Told}
use Rattle.tup_vars.specs.Table.{Entries}
use Rattle.tup_query.specs.Log.{Says}
use Rattle.tup_query.specs.Reads.{outcome}
use Rattle.tup_query.proofs.Runs.{ran_outcome}
use Rattle.tup_rule_line.specs.Folder.{name_in}
use Rattle.tup_rule_line.specs.Glob.{names_among}
use Rattle.tup_rule_line.specs.Sound.{told_at, NamesFiles, MayMake, AreFlat, AreSound}
use Rattle.tup_rule_line.specs.State.{made_by, is_made}
use Rattle.tup_rule_line.proofs.Soundness.{made_all, ordered-all, name_in-own}
use Rattle.tup_tupfile.specs.Reading.{reading}
use Rattle.tup_tupfile.proofs.Soundness.{reading-sound}
use Rattle.tup_readings.specs.Answers.{Readings, drafts_of, other_drafts, seen_drafts, made_kind, answer}
use Rattle.tup_readings.specs.Readings.{IsReadingOver, AreReadings}
use Rattle.tup_readings.specs.Sources.{is_source, has_below, tupfile, has_tupfile, home}
use Rattle.tup_readings.proofs.More.{get_more}
use Rattle.tup_readings.proofs.Told.{kind_is}
use Rattle.tup_project.proofs.Standing.{home_of, home_on_way}

nothing_parts : (source folder : Bool) (rest : Kind) → cond source File (cond folder Dir rest) ≡ Nothing → (source ≡ false) × (folder ≡ false)
nothing_parts true folder rest e = cc
nothing_parts false true rest e = cc
nothing_parts false false rest e = (refl, refl)

-- a fact of each file in a folder is one of its names
named : (P : List ℕ → Type 0) (dir : Names) (paths : List Names) → All (λ path. (name : List ℕ) → path ≡ dir ++ name ∷ [] → P name) paths → All P (names_among dir paths)
named P dir [] all = All-nil P
named P dir (path ∷ paths) all = by (named P dir paths (All-tail (λ path. (name : List ℕ) → path ≡ dir ++ name ∷ [] → P name) path paths all)) (name_in dir path) refl
  where
    by : All P (names_among dir paths) → (found : Option (List ℕ)) → name_in dir path ≡ found → All P (cons_option found (names_among dir paths))
    by rest None e = rest
    by rest (Some name) e =
        All-cons P name (names_among dir paths) (All-head (λ path. (name : List ℕ) → path ≡ dir ++ name ∷ [] → P name) path paths all name (name_in-own dir path name e)) rest

module _ (sources : Tree) where
  -- a rule of a folder makes a file below the folder where no source stands and none below, and which no rule before it makes. The
  -- folder's rules alone may make it, no source stands on the way, and no output of a rule before it lies there or below the file
  pub record MakesHere (dir : Names) (before : List Draft) (path : Names) : Type 0 where
    pub home : home_of sources path ≡ Some dir
    pub no_file : (folder : Names) → IsBelow dir folder → IsBelow folder path → is_source sources folder ≡ false
    pub no_source : is_source sources path ≡ false
    pub no_folder : has_below (finite.keys sources) path ≡ false
    pub new : is_made before path ≡ false
    pub apart : (other : Names) → is_made before other ≡ true → IsBelow dir other → (IsBelow other path → ⊥) × (IsBelow path other → ⊥)

  -- and so does each of some rules behind others
  abbrev pub AllMakeHere : Names → List Draft → List Draft → Type 0
  AllMakeHere dir before [] = Unit {0}
  AllMakeHere dir before (draft ∷ more) =
      (All (MakesHere dir before) draft.outputs × (IsDistinct same_path draft.outputs × AreFlat draft.outputs)) × AllMakeHere dir (before ++ draft ∷ []) more

  -- the readings of folders keep to that
  abbrev pub AllKeepTo : Readings → Type 0
  AllKeepTo readings = (dir : Names) (left : Reading) → finite.get readings dir ≡ Some left → AllMakeHere dir [] left.drafts

  -- where nothing stands
  abbrev pub IsFree : Names → Type 0
  IsFree path = (is_source sources path ≡ false) × (has_below (finite.keys sources) path ≡ false)

  all_free : (dir : Names) (before drafts : List Draft) → AllMakeHere dir before drafts → All IsFree (made_by drafts)
  all_free dir before [] all = All-nil IsFree
  all_free dir before (draft ∷ more) ((here, once), rest) =
      All-append IsFree draft.outputs (made_by more) (All-weaker (MakesHere dir before) IsFree (λ path makes. (makes.no_source, makes.no_folder)) draft.outputs here)
      (all_free dir (before ++ draft ∷ []) more rest)

module _ (sources : Tree) (settings : Entries) where
  module _ (readings : Readings) (reader : Names) where
    abbrev answers : Question → Told
    answers = answer sources settings readings reader

    -- where no file is told to stand no source does
    not_told : (path : Names) → told_at answers path ≢ File → is_source sources path ≡ false
    not_told path not_file = by (is_source sources path) refl
      where
        by : (b : Bool) → is_source sources path ≡ b → is_source sources path ≡ false
        by false e = e
        by true e = absurd (not_file
            (ap (λ b. cond b File (cond (has_below (finite.keys sources) path) Dir (elim (result_ok (above path)) as (λ _. Kind) [ Some dir ↦ made_kind sources readings reader dir path | None ↦ Nothing ]))) e))

    makes_here : has_tupfile sources reader ≡ true → (before : List Draft) (path : Names) → MayMake answers reader before path → MakesHere sources reader before path
    makes_here has before path may =
        let free = nothing_parts (is_source sources path) (has_below (finite.keys sources) path)
        (elim (result_ok (above path)) as (λ _. Kind) [ Some dir ↦ made_kind sources readings reader dir path | None ↦ Nothing ]) may.free in
        record {
          home = home_on_way sources reader path has may.below (λ folder below over. not_told (tupfile folder) (may.way folder below over).0);
          no_file = λ folder below over. not_told folder (may.way folder below over).1;
          no_source = free.0;
          no_folder = free.1;
          new = may.new;
          apart = may.apart;
        }

    all_make : has_tupfile sources reader ≡ true → (before drafts : List Draft) → AreSound answers reader before drafts → AllMakeHere sources reader before drafts
    all_make has before [] sound = tt
    all_make has before (draft ∷ more) (is, rest) = (
      (All-weaker (MayMake answers reader before) (MakesHere sources reader before) (makes_here has before) draft.outputs is.outputs, (is.once, is.flat)),
      all_make has (before ++ draft ∷ []) more rest,
    )

    -- ---- names that are told are those of files

    abbrev IsFileIn : Names → Names → Type 0
    IsFileIn dir path = (name : List ℕ) → path ≡ dir ++ name ∷ [] → told_at answers (dir ++ name ∷ []) ≡ File

    source_file : (dir path : Names) → Contains (finite.keys sources) path → IsFileIn dir path
    source_file dir path has name is =
        let there : is_source sources path ≡ true = source_there path has in
        ap (told_at answers) (sym is)
        ∙ ap (λ b. cond b File (cond (has_below (finite.keys sources) path) Dir (elim (result_ok (above path)) as (λ _. Kind) [ Some dir ↦ made_kind sources readings reader dir path | None ↦ Nothing ]))) there
      where
        source_there : (path : Names) → Contains (finite.keys sources) path → is_source sources path ≡ true
        source_there path has = finite.contains_key-keys sources path ∙ list_any-from_Contains (eq_by_cmp_equiv by_names-total) path (finite.keys sources) has

    made_file : (dir : Names) (drafts : List Draft) (path : Names) → seen_drafts sources readings reader dir ≡ drafts → is_made drafts path ≡ true → IsFree sources path → IsFileIn dir path
    made_file dir drafts path seen made free name is =
        ap (told_at answers) (sym is) ∙ sym (kind_is sources readings reader path dir name free.0 free.1 is)
        ∙ ap (λ (ds : List Draft). cond (is_made ds path) File Nothing) seen ∙ ap (λ b. cond b File Nothing) made

    seen_free : AllKeepTo sources readings → (dir : Names) → All (IsFree sources) (made_by (seen_drafts sources readings reader dir))
    seen_free keep dir = in_home (home sources dir)
      where
        at : (folder : Names) (found : Option Reading) → finite.get readings folder ≡ found → All (IsFree sources) (made_by (elim found as (λ _. List Draft) [ Some left ↦ left.drafts | None ↦ [] ]))
        at folder None e = All-nil (IsFree sources)
        at folder (Some left) e = all_free sources folder [] left.drafts (keep folder left e)

        by : (folder : Names) (own : Bool) → All (IsFree sources) (made_by (cond own [] (drafts_of readings folder)))
        by folder true = All-nil (IsFree sources)
        by folder false = at folder (finite.get readings folder) refl

        in_home : (found : Option Names) → All (IsFree sources) (made_by (elim found as (λ _. List Draft) [ Some folder ↦ other_drafts readings reader folder | None ↦ [] ]))
        in_home None = All-nil (IsFree sources)
        in_home (Some folder) = by folder (same_path reader folder)

    pub names_files : AllKeepTo sources readings → NamesFiles answers
    names_files keep dir =
        let drafts = seen_drafts sources readings reader dir in
        ordered-all (λ name. told_at answers (dir ++ name ∷ []) ≡ File) [] (names_among dir (finite.keys sources ++ made_by drafts)) (All-nil (λ name. told_at answers (dir ++ name ∷ []) ≡ File))
        (named (λ name. told_at answers (dir ++ name ∷ []) ≡ File) dir (finite.keys sources ++ made_by drafts)
        (All-append (IsFileIn dir) (finite.keys sources) (made_by drafts)
        (All-weaker (Contains (finite.keys sources)) (IsFileIn dir) (source_file dir) (finite.keys sources) (All-contains_itself (finite.keys sources)))
        (λ k d within. made_file dir drafts (get_or (made_by drafts) k d) refl (made_all drafts k d within) (seen_free keep dir k d within))))

    reading_keeps : has_tupfile sources reader ≡ true → AllKeepTo sources readings → (left : Reading) → IsReadingOver sources settings readings reader left → AllMakeHere sources reader [] left.drafts
    reading_keeps has keep left over =
        let says : Says answers over.log = λ question told e. sym (over.answered question told e).1 in
        let comes : outcome answers (reading reader) ≡ Ok left.drafts = ran_outcome [] over.log (reading reader) (Ok left.drafts) answers over.ran says in
        all_make has [] left.drafts (reading-sound answers reader (names_files keep) left.drafts comes)

  pub all_keep : (order : List Names) (readings : Readings) → AreReadings sources settings order readings → AllKeepTo sources readings
  all_keep [] readings is dir left e =
      let wrong : Some left ≡ None = sym e ∙ ap (λ r. finite.get r dir) is ∙ finite.get-empty by_names dir in
      cc
  all_keep (new ∷ earlier) readings (before, last, are, has, is_new, over, is) dir left e =
      by (all_keep earlier before are) (same_path dir new) refl (sym (get_more before new last dir) ∙ sym (ap (λ r. finite.get r dir) is) ∙ e)
    where
      by : AllKeepTo sources before → (b : Bool) → same_path dir new ≡ b → cond b (Some last) (finite.get before dir) ≡ Some left → AllMakeHere sources dir [] left.drafts
      by keep false at got = keep dir left got
      by keep true at got =
          let here : new ≡ dir = sym ((same_path-decides dir new).0 at) in
          let left_is : last ≡ left = cc in
          subst (λ (d : Names). AllMakeHere sources d [] left.drafts) here (subst (λ (l : Reading). AllMakeHere sources new [] l.drafts) left_is (reading_keeps before new has keep last over))
