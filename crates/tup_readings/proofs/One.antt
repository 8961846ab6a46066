-- That a folder has one reading, and that what is met first is one thing.
use Rattle.std.proofs.Common.{◌≡◌, ◌⊎◌, inl, inr, Bool, true, false, cond, not, ◌&&◌, ◌||◌, List, [], ◌∷◌, ◌++◌, Option, Some, None, Ok, IsSome, is_some, refl, sym, ap, ◌∙◌, subst}
use Rattle.std.specs.Prelude.{is_none, option_and_then}
use Rattle.std.specs.FinMap as finite
use Rattle.std.specs.Result.{result_ok}
use Rattle.tup_path.specs.Name.{Names}
use Rattle.tup_path.specs.Order.{by_names, by_names-total, by_names-antisymmetric, same_path}
use Rattle.tup_path.specs.Resolve.{above}
use Rattle.tup_path.specs.Tree.{Tree}
use Rattle.tup_path.proofs.Same.{same_path-decides}
use Rattle.tup_rule.specs.declared.draft.Draft.{Draft}
use Rattle.tup_rule.specs.declared.question.Kind.{Kind}
use Rattle.tup_rule.specs.declared.question.Kind.TheVariants.{Nothing, File, Dir}
use Rattle.tup_rule.specs.declared.question.Question.{Question}
use Rattle.tup_rule.specs.declared.question.Question.TheVariants as asks
use Rattle.tup_rule.specs.declared.question.Reading.{Reading}
use Rattle.tup_rule.specs.declared.question.Told.TheVariants as told
use Rattle.tup_vars.specs.Table.{Entries}
use Rattle.tup_query.specs.Log.{Log, noted_log}
use Rattle.tup_rule_line.specs.Glob.{names_among, in_order}
use Rattle.tup_rule_line.specs.State.{made_by, is_made}
use Rattle.tup_tupfile.specs.Reading.{reading}
use Rattle.tup_readings.specs.Sources.{is_source, has_below, has_tupfile, home}
use Rattle.tup_readings.specs.Answers.{Readings, drafts_of, other_drafts, seen_drafts, made_kind, is_unread, unread, awaited, answer}
use Rattle.tup_readings.specs.Readings.{IsAnswered, IsReadingOver, AreReadings, AreSomeReadings, AreAllReadings}
use Rattle.tup_readings.proofs.More.{get_more}
use Rattle.tup_readings.proofs.Alike.{ToldAlike, runs_alike}

module _ (sources : Tree) (settings : Entries) where
  -- ---- readings that agree

  -- readings that have the same of each folder that both have
  abbrev Agree : Readings → Readings → Type 0
  Agree one other = (dir : Names) (x y : Reading) → finite.get one dir ≡ Some x → finite.get other dir ≡ Some y → x ≡ y

  -- only folders with a Tupfile are read
  abbrev pub AreOfTupfiles : Readings → Type 0
  AreOfTupfiles readings = (dir : Names) (x : Reading) → finite.get readings dir ≡ Some x → has_tupfile sources dir ≡ true

  pub of_tupfiles : (order : List Names) (readings : Readings) → AreReadings sources settings order readings → AreOfTupfiles readings
  of_tupfiles [] readings is dir x e =
      let wrong : Some x ≡ None = sym e ∙ ap (λ r. finite.get r dir) is ∙ finite.get-empty by_names dir in
      cc
  of_tupfiles (new ∷ earlier) readings (before, left, are, has, is_new, over, is) dir x e =
      kept (of_tupfiles earlier before are dir x) (same_path dir new) refl (sym (get_more before new left dir) ∙ sym (ap (λ r. finite.get r dir) is) ∙ e)
    where
      kept : (finite.get before dir ≡ Some x → has_tupfile sources dir ≡ true) → (b : Bool) → same_path dir new ≡ b → cond b (Some left) (finite.get before dir) ≡ Some x → has_tupfile sources dir ≡ true
      kept more true at got = ap (has_tupfile sources) ((same_path-decides dir new).0 at) ∙ has
      kept more false at got = more got

  read_or_not : (sources_has own : Bool) (found : Option Reading) → own ≡ false → (not own && sources_has && is_none found) ≡ false → (sources_has ≡ false) ⊎ IsSome found
  read_or_not false own found off e = inl refl
  read_or_not true true found off e = let wrong : true ≡ false = off in cc
  read_or_not true false (Some x) off e = inr refl
  read_or_not true false None off e = cc

  -- two folders' readings that agree show the same rules where none waits
  other_alike : (one other : Readings) → Agree one other → AreOfTupfiles one → AreOfTupfiles other → (reader dir : Names)
      → unread sources one reader dir ≡ None → unread sources other reader dir ≡ None → other_drafts one reader dir ≡ other_drafts other reader dir
  other_alike one other agree here there reader dir e f = by (same_path reader dir) refl
    where
      flat : (b : Bool) → cond b (Some dir) None ≡ None → b ≡ false
      flat true e = cc
      flat false e = refl

      off_one : is_unread sources one reader dir ≡ false
      off_one = flat (is_unread sources one reader dir) e

      off_other : is_unread sources other reader dir ≡ false
      off_other = flat (is_unread sources other reader dir) f

      at : (x y : Option Reading) → finite.get one dir ≡ x → finite.get other dir ≡ y → (has_tupfile sources dir ≡ false) ⊎ IsSome x → (has_tupfile sources dir ≡ false) ⊎ IsSome y
          → elim x as (λ _. List Draft) [ Some reading ↦ reading.drafts | None ↦ [] ] ≡ elim y as (λ _. List Draft) [ Some reading ↦ reading.drafts | None ↦ [] ]
      at None None p q m n = refl
      at (Some x) (Some y) p q m n = ap (λ (r : Reading). r.drafts) (agree dir x y p q)
      at (Some x) None p q m (inl none) = let wrong : true ≡ false = sym (here dir x p) ∙ none in cc
      at (Some x) None p q m (inr some) = let wrong : false ≡ true = some in cc
      at None (Some y) p q (inl none) n = let wrong : true ≡ false = sym (there dir y q) ∙ none in cc
      at None (Some y) p q (inr some) n = let wrong : false ≡ true = some in cc

      by : (own : Bool) → same_path reader dir ≡ own → cond own [] (drafts_of one dir) ≡ cond own [] (drafts_of other dir)
      by true own = refl
      by false own = at (finite.get one dir) (finite.get other dir) refl refl
          (read_or_not (has_tupfile sources dir) (same_path reader dir) (finite.get one dir) own off_one)
          (read_or_not (has_tupfile sources dir) (same_path reader dir) (finite.get other dir) own off_other)

  seen_alike : (one other : Readings) → Agree one other → AreOfTupfiles one → AreOfTupfiles other → (reader dir : Names)
      → awaited sources one reader (asks.Names dir) ≡ None → awaited sources other reader (asks.Names dir) ≡ None → seen_drafts sources one reader dir ≡ seen_drafts sources other reader dir
  seen_alike one other agree here there reader dir = at (home sources dir)
    where
      at : (found : Option Names) → option_and_then (unread sources one reader) found ≡ None → option_and_then (unread sources other reader) found ≡ None
          → elim found as (λ _. List Draft) [ Some home ↦ other_drafts one reader home | None ↦ [] ] ≡ elim found as (λ _. List Draft) [ Some home ↦ other_drafts other reader home | None ↦ [] ]
      at None e f = refl
      at (Some home) e f = other_alike one other agree here there reader home e f

  answers_alike : (one other : Readings) → Agree one other → AreOfTupfiles one → AreOfTupfiles other → (reader : Names) (question : Question)
      → awaited sources one reader question ≡ None → awaited sources other reader question ≡ None → answer sources settings one reader question ≡ answer sources settings other reader question
  answers_alike one other agree here there reader (asks.Content path) e f = refl
  answers_alike one other agree here there reader (asks.Config name) e f = refl
  answers_alike one other agree here there reader (asks.Names dir) e f =
      ap (λ (drafts : List Draft). told.Names (in_order (names_among dir (finite.keys sources ++ made_by drafts)))) (seen_alike one other agree here there reader dir e f)
  answers_alike one other agree here there reader (asks.Kind path) e f = ap (λ k. told.Kind k) (by (is_source sources path) (has_below (finite.keys sources) path) e f)
    where
      at : (up : Option Names) → option_and_then (unread sources one reader) (option_and_then (home sources) up) ≡ None → option_and_then (unread sources other reader) (option_and_then (home sources) up) ≡ None
          → elim up as (λ _. Kind) [ Some dir ↦ made_kind sources one reader dir path | None ↦ Nothing ] ≡ elim up as (λ _. Kind) [ Some dir ↦ made_kind sources other reader dir path | None ↦ Nothing ]
      at None e f = refl
      at (Some dir) e f = ap (λ (drafts : List Draft). cond (is_made drafts path) File Nothing) (seen_alike one other agree here there reader dir e f)

      by : (a b : Bool) → option_and_then (unread sources one reader) (cond (a || b) None (option_and_then (home sources) (result_ok (above path)))) ≡ None
          → option_and_then (unread sources other reader) (cond (a || b) None (option_and_then (home sources) (result_ok (above path)))) ≡ None
          → cond a File (cond b Dir (elim (result_ok (above path)) as (λ _. Kind) [ Some dir ↦ made_kind sources one reader dir path | None ↦ Nothing ]))
          ≡ cond a File (cond b Dir (elim (result_ok (above path)) as (λ _. Kind) [ Some dir ↦ made_kind sources other reader dir path | None ↦ Nothing ]))
      by true b e f = refl
      by false true e f = refl
      by false false e f = at (result_ok (above path)) e f

  logs_alike : (one other : Readings) → Agree one other → AreOfTupfiles one → AreOfTupfiles other → (reader : Names) (log more : Log)
      → IsAnswered sources settings one reader log → IsAnswered sources settings other reader more → ToldAlike log more
  logs_alike one other agree here there reader log more p q question a b e f =
      let x = p question a e in
      let y = q question b f in
      x.1 ∙ answers_alike one other agree here there reader question x.0 y.0 ∙ sym y.1

  -- a folder's reading in some readings, with those before it
  pub record IsReadIn (dir : Names) (left : Reading) : Type 0 where
    pub before : Readings
    pub order : List Names
    pub are : AreReadings sources settings order before
    pub over : IsReadingOver sources settings before dir left

  read_in : (order : List Names) (readings : Readings) → AreReadings sources settings order readings → (dir : Names) (x : Reading) → finite.get readings dir ≡ Some x → IsReadIn dir x
  read_in [] readings is dir x e =
      let wrong : Some x ≡ None = sym e ∙ ap (λ r. finite.get r dir) is ∙ finite.get-empty by_names dir in
      cc
  read_in (new ∷ earlier) readings (before, left, are, has, is_new, over, is) dir x e =
      kept (read_in earlier before are dir x) (same_path dir new) refl (sym (get_more before new left dir) ∙ sym (ap (λ r. finite.get r dir) is) ∙ e)
    where
      kept : (finite.get before dir ≡ Some x → IsReadIn dir x) → (b : Bool) → same_path dir new ≡ b → cond b (Some left) (finite.get before dir) ≡ Some x → IsReadIn dir x
      kept more false at got = more got
      kept more true at got =
          let is_left : left ≡ x = cc in
          record { before = before; order = earlier; are = are; over = subst (IsReadingOver sources settings before dir) is_left (subst (λ d. IsReadingOver sources settings before d left) (sym ((same_path-decides dir new).0 at)) over) }

  same_reading : (x y : Reading) → x.drafts ≡ y.drafts → x.asked ≡ y.asked → x ≡ y
  same_reading x y p q = λ i. record { drafts = p i; asked = q i }

  -- two readings of one folder, over readings that agree, are one
  over_alike : (one other : Readings) → Agree one other → AreOfTupfiles one → AreOfTupfiles other → (dir : Names) (x y : Reading)
      → IsReadingOver sources settings one dir x → IsReadingOver sources settings other dir y → x ≡ y
  over_alike one other agree here there dir x y p q =
      let both = runs_alike [] p.log q.log (reading dir) (Ok x.drafts) (Ok y.drafts) (logs_alike one other agree here there dir p.log q.log p.answered q.answered) p.ran q.ran in
      let ends = both.1 in
      let drafts : x.drafts ≡ y.drafts = cc in
      same_reading x y drafts (p.noted ∙ ap noted_log both.0 ∙ sym q.noted)

  agreeing : (order order' : List Names) (one other : Readings) → AreReadings sources settings order one → AreReadings sources settings order' other → Agree one other
  agreeing [] order' one other is are dir x y e f =
      let wrong : Some x ≡ None = sym e ∙ ap (λ r. finite.get r dir) is ∙ finite.get-empty by_names dir in
      cc
  agreeing (new ∷ earlier) order' one other (before, left, are, has, is_new, over, is) others dir x y e f =
      kept (λ got. agreeing earlier order' before other are others dir x y got f)
      (λ there. agreeing earlier there.order before there.before are there.are) (same_path dir new) refl (sym (get_more before new left dir) ∙ sym (ap (λ r. finite.get r dir) is) ∙ e)
    where
      kept : (finite.get before dir ≡ Some x → x ≡ y) → ((there : IsReadIn dir y) → Agree before there.before) → (b : Bool) → same_path dir new ≡ b → cond b (Some left) (finite.get before dir) ≡ Some x → x ≡ y
      kept more agree false at got = more got
      kept more agree true at got =
          let is_left : left ≡ x = cc in
          let there = read_in order' other others dir y f in
          sym is_left ∙ over_alike before there.before (agree there) (of_tupfiles earlier before are) (of_tupfiles there.order there.before there.are)
          dir left y (subst (λ d. IsReadingOver sources settings before d left) (sym ((same_path-decides dir new).0 at)) over) there.over

  -- readings of some folders agree
  pub readings_agree : (one other : Readings) → AreSomeReadings sources settings one → AreSomeReadings sources settings other → Agree one other
  readings_agree one other p q = agreeing p.0 q.0 one other p.1 q.1

  -- what was told of a folder over readings of some folders
  pub told_alike : (one other : Readings) → AreSomeReadings sources settings one → AreSomeReadings sources settings other → (reader : Names) (log more : Log)
      → IsAnswered sources settings one reader log → IsAnswered sources settings other reader more → ToldAlike log more
  told_alike one other p q reader log more x y = logs_alike one other (readings_agree one other p q) (of_tupfiles p.0 one p.1) (of_tupfiles q.0 other q.1) reader log more x y

  -- a folder's reading among those of some folders
  pub reading_in : (readings : Readings) → AreSomeReadings sources settings readings → (dir : Names) (x : Reading) → finite.get readings dir ≡ Some x → IsReadIn dir x
  reading_in readings some dir x e = read_in some.0 readings some.1 dir x e

  -- those of all folders are the same
  pub all_readings_are_one : (one other : Readings) → AreAllReadings sources settings one → AreAllReadings sources settings other → one ≡ other
  all_readings_are_one one other p q = finite.same_map by_names-total by_names-antisymmetric one other (λ dir. by dir (finite.get one dir) (finite.get other dir) refl refl)
    where
      missing : (readings : Readings) (dir : Names) (x : Reading) (mine : Readings) → AreAllReadings sources settings readings → AreSomeReadings sources settings mine → finite.get mine dir ≡ Some x → finite.get readings dir ≡ None → ⊥
      missing readings dir x mine all some e none =
          let wrong : false ≡ true = sym (ap (λ (r : Option Reading). is_some r) none) ∙ all.all dir (of_tupfiles some.0 mine some.1 dir x e) in
          cc

      by : (dir : Names) (x y : Option Reading) → finite.get one dir ≡ x → finite.get other dir ≡ y → x ≡ y
      by dir None None e f = refl
      by dir (Some x) (Some y) e f = ap (λ r. Some r) (readings_agree one other p.some q.some dir x y e f)
      by dir (Some x) None e f = absurd (missing other dir x one q p.some e f)
      by dir None (Some y) e f = absurd (missing one dir y other p q.some f e)
