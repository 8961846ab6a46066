-- What is told to a reading.
use Rattle.std.proofs.Common.{◌≡◌, ◌⊎◌, inl, inr, ℕ, false, cond, ◌||◌, List, [], ◌∷◌, ◌++◌, fold, Option, Some, None, Result, Err, Bor, is_some, sym, ap, ◌∙◌, subst}
use Rattle.std.specs.Prelude.{codes, unwrap_or, option_and_then}
use Rattle.std.specs.BTreeSet.{insert_key}
use Rattle.std.specs.FinMap as finite
use Rattle.std.specs.Option.{option_copied}
use Rattle.std.specs.Result.{result_ok}
use Rattle.std.proofs.lemmas.List.Elements.{filter_map-append}
use Rattle.tup_path.specs.Name.{Names, Content}
use Rattle.tup_path.specs.Order.{by_bytes}
use Rattle.tup_path.specs.Resolve.{above}
use Rattle.tup_path.specs.Tree.{Tree}
use Rattle.tup_lex.specs.declared.kind.ParseKind.{ParseKind}
use Rattle.tup_rule.specs.declared.draft.Draft.{Draft}
use Rattle.tup_rule.specs.declared.question.Kind.{Kind}
use Rattle.tup_rule.specs.declared.question.Kind.TheVariants.{Nothing, File, Dir}
use Rattle.tup_rule.specs.declared.question.Question.TheVariants as asks
use Rattle.tup_vars.specs.Config.{config_of}
use Rattle.tup_vars.specs.Table.{Entries}
use Rattle.tup_vars.specs.declared.fault.ConfigFault.{ConfigFault}
use Rattle.tup_vars.specs.declared.fault.ConfigFault.TheVariants as config
use Rattle.tup_rule_line.specs.Folder.{name_in}
use Rattle.tup_rule_line.specs.Glob.{names_among, in_order}
use Rattle.tup_rule_line.specs.State.{made_by}
use Rattle.tup_rule_line.proofs.Globs.{in_order-more}
use Rattle.tup_readings.specs.declared.fault.FoldersFault.{FoldersFault}
use Rattle.tup_readings.specs.declared.fault.FoldersFault.TheVariants.{Parse}
use Rattle.tup_readings.specs.Sources.{is_source, has_below, home, names_in_folder, settings_of}
use Rattle.tup_readings.specs.Answers.{Readings, other_drafts, seen_drafts, names_in, made_kind, kind_at, unread, awaited}
use Rattle.tup_readings.specs.Readings.{IsConfig}
use Rattle.tup_readings.proofs.Below.{above_named}

-- the names of the sources in a folder, and those of the outputs there
pub names_told : (sources : Tree) (readings : Readings) (reader dir : Names) (drafts : List Draft) (keys made listed : List (List ℕ)) → listed ≡ made
    → made ≡ fold (insert_key by_bytes) keys (names_among dir (made_by drafts)) → keys ≡ names_in_folder (finite.keys sources) dir → drafts ≡ seen_drafts sources readings reader dir
    → listed ≡ names_in sources readings reader dir
names_told sources readings reader dir drafts keys made listed is added before seen =
    is ∙ added ∙ ap (λ (names : List (List ℕ)). fold (insert_key by_bytes) names (names_among dir (made_by drafts))) before
    ∙ sym (in_order-more None (names_among dir (finite.keys sources)) (names_among dir (made_by drafts)))
    ∙ ap in_order (sym (filter_map-append (name_in dir) (finite.keys sources) (made_by drafts)))
    ∙ ap (λ (ds : List Draft). in_order (names_among dir (finite.keys sources ++ made_by ds))) seen

-- where the home of a folder is found, its rules are those that are seen there, and an answer about the folder waits for it
module _ (sources : Tree) (readings : Readings) (reader dir : Names) (found : Option Names) (is : found ≡ home sources dir) where
  pub seen_is : elim found as (λ _. List Draft) [ Some home ↦ other_drafts readings reader home | None ↦ [] ] ≡ seen_drafts sources readings reader dir
  seen_is = ap (λ (folder : Option Names). elim folder as (λ _. List Draft) [ Some home ↦ other_drafts readings reader home | None ↦ [] ]) is

  pub waits_for_home : option_and_then (unread sources readings reader) found ≡ awaited sources readings reader (asks.Names dir)
  waits_for_home = ap (option_and_then (unread sources readings reader)) is

no_source : {A : Type 0} (found : Option (Bor A)) (there : Option A) → option_copied found ≡ there → is_some found ≡ false → is_some there ≡ false
no_source None there e off = ap is_some (sym e)
no_source (Some x) there e off = cc

pub not_a_source : (sources : Tree) (path : Names) (found : Option (Bor Content)) → option_copied found ≡ finite.get sources path → is_some found ≡ false → is_source sources path ≡ false
not_a_source sources path found e off = no_source found (finite.get sources path) e off

module _ (sources : Tree) (readings : Readings) (reader path dir : Names) (name : List ℕ) (no_file : is_source sources path ≡ false) (no_dir : has_below (finite.keys sources) path ≡ false) (is : path ≡ dir ++ name ∷ []) where
  up : result_ok (above path) ≡ Some dir
  up = ap (λ p. result_ok (above p)) is ∙ above_named dir name

  pub kind_is : made_kind sources readings reader dir path ≡ kind_at sources readings reader path
  kind_is = sym (
      ap (λ b. cond b File (cond (has_below (finite.keys sources) path) Dir (elim (result_ok (above path)) as (λ _. Kind) [ Some dir ↦ made_kind sources readings reader dir path | None ↦ Nothing ]))) no_file
      ∙ ap (λ b. cond b Dir (elim (result_ok (above path)) as (λ _. Kind) [ Some dir ↦ made_kind sources readings reader dir path | None ↦ Nothing ])) no_dir
      ∙ ap (λ (folder : Option Names). elim folder as (λ _. Kind) [ Some dir ↦ made_kind sources readings reader dir path | None ↦ Nothing ]) up)

  pub kind_waits : awaited sources readings reader (asks.Kind path) ≡ awaited sources readings reader (asks.Names dir)
  kind_waits =
      ap (λ b. option_and_then (unread sources readings reader) (cond (b || has_below (finite.keys sources) path) None (option_and_then (home sources) (result_ok (above path))))) no_file
      ∙ ap (λ b. option_and_then (unread sources readings reader) (cond b None (option_and_then (home sources) (result_ok (above path))))) no_dir
      ∙ ap (λ (folder : Option Names). option_and_then (unread sources readings reader) (option_and_then (home sources) folder)) up

-- ---- what tup.config sets

pub config_told : (path top : Names) (end : ConfigFault) (found : Result Entries ConfigFault) (line : ℕ) (kind : ParseKind) → path ≡ codes "tup.config" ∷ [] → top ≡ [] → end ≡ config.At line kind
    → (◌≡◌ {A = Result Entries ConfigFault} (Err end) (Err config.Memory)) ⊎ (Err end ≡ found) → IsConfig found (Err (Parse (record { dir = top; file = path; line = line; kind = kind })))
config_told path top end found line kind file dir end_is (inl e) =
    let ends : end ≡ config.Memory = cc in
    let wrong : config.At line kind ≡ config.Memory = sym end_is ∙ ends in
    cc
config_told path top end found line kind file dir end_is (inr e) =
    inr (
      config.At line kind,
      sym e ∙ ap (λ (f : ConfigFault). Err f) end_is,
      ap (λ (d : Names). Parse (record { dir = d; file = path; line = line; kind = kind })) dir ∙ ap (λ (f : Names). Parse (record { dir = []; file = f; line = line; kind = kind })) file,
    )

pub settings_given : (sources : Tree) (path : Names) (found : Option Content) (content : Content) (result : Result Entries FoldersFault) → path ≡ codes "tup.config" ∷ [] → found ≡ finite.get sources path
    → content ≡ unwrap_or found [] → IsConfig (config_of content) result → IsConfig (settings_of sources) result
settings_given sources path found content result file there is given =
    subst (λ (c : Result Entries ConfigFault). IsConfig c result) (ap config_of (is ∙ ap (λ (f : Option Content). unwrap_or f []) (there ∙ ap (finite.get sources) file))) given
