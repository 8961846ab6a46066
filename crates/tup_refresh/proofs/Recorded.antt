-- True records of readings are readings.
use Rattle.std.proofs.Common.{◌≡◌, ◌⊎◌, inl, inr, Bool, true, false, cond, List, [], ◌∷◌, ◌++◌, Option, Some, None, Ok, Err, IsTrue, refl, sym, ap, ◌∙◌, subst, append_assoc, append-nil}
use Rattle.std.specs.Prelude.{bytes_eq}
use Rattle.std.specs.FinMap as finite
use Rattle.std.specs.List.{Contains}
use Rattle.std.specs.Option.{option_map}
use Rattle.std.proofs.lemmas.Bool.{and_parts}
use Rattle.std.proofs.lemmas.List.Elements.{All-contains}
use Rattle.std.proofs.lemmas.List.Folds.{list_any_at}
use Rattle.std.proofs.lemmas.Slice.Eq.{bytes_eq-Decides}
use Rattle.tup_path.specs.Name.{Names, Content}
use Rattle.tup_path.specs.Tree.{Tree}
use Rattle.tup_stamp.specs.declared.Stamp.{Stamp}
use Rattle.tup_stamp.specs.Stamp.{stamp}
use Rattle.tup_site.specs.Known.{knows, IsKnown, KnowsTree}
use Rattle.tup_rule.specs.declared.draft.Draft.{Draft}
use Rattle.tup_rule.specs.declared.question.Question.{Question}
use Rattle.tup_rule.specs.declared.question.Question.TheVariants as asks
use Rattle.tup_rule.specs.declared.question.Reading.{Reading}
use Rattle.tup_rule.specs.declared.question.Told.{Told}
use Rattle.tup_rule.specs.declared.question.Told.TheVariants as told
use Rattle.tup_query.specs.declared.fault.ParseFault.{ParseFault}
use Rattle.tup_query.specs.Log.{Log, fits, told_before, Step, Ran}
use Rattle.tup_query.specs.Reads.{Reads, Ends, Asks}
use Rattle.tup_query.proofs.Runs.{told_more, told_new}
use Rattle.tup_tupfile.specs.Reading.{reading}
use Rattle.tup_graph.specs.Graph.{GraphState}
use Rattle.tup_graph.specs.Records.{Language, GoesOnReading, IsToldKnown, IsTrueReading}
use Rattle.tup_refresh.specs.Language.{known_or, stands_at, all_fit, ReadsTupfiles}
use Rattle.tup_refresh.specs.Refresh.{AreTrue, IsTrueBeside}
use Rattle.tup_refresh.proofs.Ending.{kept_is}

-- ---- where a process stands

-- behind what it was told first a process asks just the others
abbrev Goes : {A : Type 0} → Reads ParseFault A → Log → Log → Type 0
Goes reads before [] = Unit {0}
Goes reads before (one ∷ more) = (stands_at before reads ≡ Some (inl one.0)) × Goes reads (before ++ one ∷ []) more

told_on : (before rest : Log) (question : Question) (given : Told) → told_before before question ≡ Some given → told_before (before ++ rest) question ≡ Some given
told_on before [] question given e = ap (λ l. told_before l question) (append-nil before) ∙ e
told_on before (one ∷ rest) question given e =
    ap (λ l. told_before l question) (sym (append_assoc before (one ∷ []) rest)) ∙ told_on (before ++ one ∷ []) rest question given (told_more before one question given e)

module _ {A : Type 0} (question : Question) (goes_on : Told → Reads ParseFault A) where
  where_known : (log : Log) (found : Option Told) → told_before log question ≡ found → stands_at log (Asks question goes_on) ≡ known_or found (λ given. stands_at log (goes_on given)) (Some (inl question))
  where_known log found e = ap (λ (found : Option Told). known_or found (λ given. stands_at log (goes_on given)) (Some (inl question))) e

  goes_known : (given : Told) (before rest : Log) → told_before before question ≡ Some given → Goes (Asks question goes_on) before rest → Goes (goes_on given) before rest
  goes_known given before [] e goes = tt
  goes_known given before (one ∷ more) e goes =
      (sym (where_known before (Some given) e) ∙ goes.0, goes_known given (before ++ one ∷ []) more (told_more before one question given e) goes.1)

-- a process that is told so much by its own questions, and then is at its end, runs so
ran_so : {A : Type 0} (reads : Reads ParseFault A) (before rest : Log) (value : A) → all_fit rest ≡ true → Goes reads before rest → stands_at (before ++ rest) reads ≡ Some (inr value) → Ran before reads (before ++ rest) (Ok value)
ran_so (Ends (Ok given)) before [] value fit goes is = let same : value ≡ given = cc in (append-nil before, ap (λ v. Ok v) same)
ran_so (Ends (Ok given)) before (one ∷ rest) value fit goes is = let wrong = goes.0 in cc
ran_so (Ends (Err fault)) before rest value fit goes is = cc
ran_so (Asks question goes_on) before rest value fit goes is =
    by (told_before before question) refl
    (λ given e. ran_so (goes_on given) before rest value fit (goes_known question goes_on given before rest e goes) (sym (where_known question goes_on (before ++ rest) (Some given) (told_on before rest question given e)) ∙ is))
    (λ one more. ran_so (goes_on one.1) (before ++ one ∷ []) more value)
  where
    new : (rest : Log) → told_before before question ≡ None → all_fit rest ≡ true → Goes (Asks question goes_on) before rest → stands_at (before ++ rest) (Asks question goes_on) ≡ Some (inr value)
        → ((one : Question × Told) (more : Log) → all_fit more ≡ true → Goes (goes_on one.1) (before ++ one ∷ []) more → stands_at ((before ++ one ∷ []) ++ more) (goes_on one.1) ≡ Some (inr value) → Ran (before ++ one ∷ []) (goes_on one.1) ((before ++ one ∷ []) ++ more) (Ok value))
        → (given : Told) × (fits question given ≡ true) × Ran (before ++ (question, given) ∷ []) (goes_on given) (before ++ rest) (Ok value)
    new [] e fit goes is runs =
        let stood : stands_at (before ++ []) (Asks question goes_on) ≡ Some (inl question) = where_known question goes_on (before ++ []) None (ap (λ l. told_before l question) (append-nil before) ∙ e) in
        let wrong : Some (inl question) ≡ Some (inr value) = sym stood ∙ is in
        cc
    new (one ∷ more) e fit goes is runs = (
      one.1,
      ap (λ q. fits q one.1) same ∙ fits_all.0,
      subst (λ (l : Log). Ran l (goes_on one.1) (before ++ one ∷ more) (Ok value)) (λ i. before ++ (sym same i, one.1) ∷ [])
          (subst (λ (l : Log). Ran (before ++ one ∷ []) (goes_on one.1) l (Ok value)) (append_assoc before (one ∷ []) more)
          (runs one more fits_all.1 (goes_known question goes_on one.1 (before ++ one ∷ []) more known goes.1)
          (sym (where_known question goes_on ((before ++ one ∷ []) ++ more) (Some one.1) (told_on (before ++ one ∷ []) more question one.1 known))
          ∙ ap (λ (l : Log). stands_at l (Asks question goes_on)) (append_assoc before (one ∷ []) more) ∙ is))),
    )
      where
        same : question ≡ one.0
        same = let both : Some (inl question) ≡ Some (inl one.0) = sym (where_known question goes_on before None e) ∙ goes.0 in cc

        fits_all : (fits one.0 one.1 ≡ true) × (all_fit more ≡ true)
        fits_all = and_parts (fits one.0 one.1) (all_fit more) fit

        known : told_before (before ++ one ∷ []) question ≡ Some one.1
        known = subst (λ q. told_before (before ++ one ∷ []) q ≡ Some one.1) (sym same) (told_new before one.0 one.1 (subst (λ q. told_before before q ≡ None) same e))

    by : (found : Option Told) → told_before before question ≡ found → ((given : Told) → told_before before question ≡ Some given → Ran before (goes_on given) (before ++ rest) (Ok value))
        → ((one : Question × Told) (more : Log) → all_fit more ≡ true → Goes (goes_on one.1) (before ++ one ∷ []) more → stands_at ((before ++ one ∷ []) ++ more) (goes_on one.1) ≡ Some (inr value) → Ran (before ++ one ∷ []) (goes_on one.1) ((before ++ one ∷ []) ++ more) (Ok value))
        → Step question (λ given. Ran before (goes_on given) (before ++ rest) (Ok value)) (λ given. Ran (before ++ (question, given) ∷ []) (goes_on given) (before ++ rest) (Ok value)) (told_before before question)
    by (Some given) e old runs = subst (Step question (λ given. Ran before (goes_on given) (before ++ rest) (Ok value)) (λ given. Ran (before ++ (question, given) ∷ []) (goes_on given) (before ++ rest) (Ok value))) (sym e) (old given e)
    by None e old runs = subst (Step question (λ given. Ran before (goes_on given) (before ++ rest) (Ok value)) (λ given. Ran (before ++ (question, given) ∷ []) (goes_on given) (before ++ rest) (Ok value))) (sym e) (new rest e fit goes is runs)

-- ---- contents

-- a content among some is known
pub known_there : (known : List Content) (content : Content) → Contains known content → IsTrue (knows known content)
known_there known content (k, less, here) = list_any_at (bytes_eq content) known k content less ((bytes_eq-Decides content _).1 (sym here))

-- a known content with the stamp of a known file's is that file's
same_content : (known : List Content) (sources : Tree) → IsKnown known → KnowsTree known sources → (path : Names) (content : Option Content) → IsToldKnown known (told.Content content)
    → option_map stamp content ≡ option_map stamp (finite.get sources path) → content ≡ finite.get sources path
same_content known sources is tree path content there e = by content there e (finite.get sources path) refl
  where
    by : (content : Option Content) → IsToldKnown known (told.Content content) → option_map stamp content ≡ option_map stamp (finite.get sources path)
        → (found : Option Content) → finite.get sources path ≡ found → content ≡ finite.get sources path
    by None there e None none = sym none
    by None there e (Some found) here =
        let wrong : None ≡ Some (stamp found) = e ∙ ap (option_map stamp) here in
        cc
    by (Some content) there e None none =
        let wrong : Some (stamp content) ≡ None = e ∙ ap (option_map stamp) none in
        cc
    by (Some content) there e (Some found) here =
        let stamps : Some (stamp content) ≡ Some (stamp found) = e ∙ ap (option_map stamp) here in
        let one : stamp content ≡ stamp found = the (stamp content) (stamp found) stamps in
        ap (λ c. Some c) (is content found (known_there known content there) (tree path found here) one) ∙ sym here
      where
        the : (a b : Stamp) → Some a ≡ Some b → a ≡ b
        the a b e = cc

-- ---- records

module _ (language : Language) (known : List Content) (reads : ReadsTupfiles language) where
  -- what a folder's language says, where all fits
  says : (dir : Names) (log : Log) (next : Question ⊎ List Draft) → language.next dir log ≡ Some next → (all_fit log ≡ true) × (stands_at log (reading dir) ≡ Some next)
  says dir log next e = by (all_fit log) refl (sym (reads dir log) ∙ e)
    where
      by : (b : Bool) → all_fit log ≡ b → cond b (stands_at log (reading dir)) None ≡ Some next → (all_fit log ≡ true) × (stands_at log (reading dir) ≡ Some next)
      by true fit e = (fit, e)
      by false fit e = cc

  goes_so : (dir : Names) (before rest : Log) → GoesOnReading language dir before rest → Goes (reading dir) before rest
  goes_so dir before [] goes = tt
  goes_so dir before (one ∷ more) goes = ((says dir before (inl one.0) goes.0).1, goes_so dir (before ++ one ∷ []) more goes.1)

  pub true_beside : (sources : Tree) → IsKnown known → KnowsTree known sources → (dir : Names) (left : Reading) → IsTrueReading language known dir left → IsTrueBeside sources dir left
  true_beside sources is tree dir left record_is =
      let end = says dir record_is.told_so (inr left.drafts) record_is.leaves in
      record {
        log = record_is.told_so;
        ran = ran_so (reading dir) [] record_is.told_so left.drafts end.0 (goes_so dir [] record_is.told_so record_is.just) end.1;
        noted = sym record_is.recorded;
        contents = λ path content there e. same_content known sources is tree path content (All-contains (λ (one : Question × Told). IsToldKnown known one.1) record_is.told_so (asks.Content path, told.Content content) record_is.contents there) e;
      }

  pub records_serve : (sources : Tree) (g : GraphState) → IsKnown known → KnowsTree known sources → ((dir : Names) (left : Reading) → finite.get g.readings dir ≡ Some left → IsTrueReading language known dir left) → AreTrue sources g
  records_serve sources g is tree records dir left kept = true_beside sources is tree dir left (records dir left (kept_is g dir left kept))
