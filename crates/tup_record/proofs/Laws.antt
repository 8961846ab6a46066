-- The laws of records, kind by kind.
use Rattle.std.proofs.Common.{◌≡◌, ◌≢◌, ℕ, true, false, cond, eqb, List, [], ◌∷◌, ◌++◌, Result, Ok, Err, inl, inr, refl, sym, ap, subst, ◌∙◌}
use Rattle.std.specs.Prelude.{IfOk}
use Rattle.std.proofs.lemmas.Bool.{eqb-true}
use Rattle.tup_field.specs.declared.fault.RecordFault.{RecordFault}
use Rattle.tup_field.specs.declared.fault.RecordFault.TheVariants.{Short, Trailing, Memory}
use Rattle.tup_field.specs.Format.{Format, IsBytes, IsExact, ◌>>=◌}
use Rattle.tup_field.specs.Parts.{number, empty, ◌&◌, option}
use Rattle.tup_field.specs.PartsLaws.{number-exact, empty-exact, pair-exact, option-exact}
use Rattle.tup_field.specs.Rules.{rule, reading}
use Rattle.tup_field.specs.RulesLaws.{rule-exact, reading-exact}
use Rattle.tup_field.specs.Steps.{bind_ok, ok_is, behind}
use Rattle.tup_field.specs.Values.{path, stamp}
use Rattle.tup_field.specs.ValuesLaws.{path-exact, stamp-exact}
use Rattle.tup_record.specs.declared.record.Record.{Record}
use Rattle.tup_record.specs.declared.record.Record.TheVariants.{Seen, Reading, Rule, Run, Owned, Create, Modify}
use Rattle.tup_record.specs.Fields.{run, state}
use Rattle.tup_record.specs.FieldLaws.{run-exact, state-exact}
use Rattle.tup_record.specs.Reading.{Gives, whole, parts, Kinds, no_kind, kind, kinds, record_at}
use Rattle.tup_record.specs.Spelling.{key_of, value_of, Fits, IsSpelled}
use Rattle.tup_record.proofs.Ends.{whole_again, whole_short, whole_left, whole_found}

-- ---- what is read is spelled so
record AreKinds (some : Kinds) : Type 0 where
  found : (mark : ℕ) (key value : List ℕ) (r : Record) → IsBytes key → IsBytes value → some mark key value ≡ Ok r → IsSpelled (mark ∷ key) value r

no_kinds : AreKinds no_kind
no_kinds = record { found = λ mark key value r k v e. absurd (cc) }

module _ {K V : Type 0} (own : ℕ) (f : Format K) (g : Format V) (make : K → V → Record) (others : Kinds) where
  abbrev of_kind : List ℕ → List ℕ → Result Record RecordFault
  of_kind key value = parts f g key value >>= λ x. Ok (make x.0 x.1)

  with_kind : IsExact f → IsExact g → ((k : K) (v : V) → f.Fits k → g.Fits v → IsSpelled (own ∷ f.spelling k) (g.spelling v) (make k v)) → AreKinds others → AreKinds (kind own f g make others)
  with_kind first second spelled more = record {
    found = λ mark key value r kb vb e.
        (elim (eqb mark own) as (λ t. eqb mark own ≡ t → cond t (of_kind key value) (others mark key value) ≡ Ok r → IsSpelled (mark ∷ key) value r) [
          | true ↦ λ same got.
              let x = bind_ok (parts f g key value) (λ x. Ok (make x.0 x.1)) r got in
              let k = bind_ok (whole f key) (λ k. whole g value >>= λ v. Ok (k, v)) x.0 x.1 in
              let v = bind_ok (whole g value) (λ v. Ok (k.0, v)) x.0 k.2 in
              let one = whole_found f first key k.0 kb k.1 in
              let two = whole_found g second value v.0 vb v.1 in
              let is = spelled k.0 v.0 one.0 two.0 in
              let pair : (k.0, v.0) ≡ x.0 = ok_is (k.0, v.0) x.0 v.2 in
              let made : make k.0 v.0 ≡ r = ap (λ (y : K × V). make y.0 y.1) pair ∙ ok_is (make x.0.0 x.0.1) r x.2 in
              let front : mark ∷ key ≡ own ∷ f.spelling k.0 = ap (λ (m : ℕ). m ∷ key) (eqb-true mark own same) ∙ ap (λ (t : List ℕ). own ∷ t) one.1 in
              subst (IsSpelled (mark ∷ key) value) made (is.0, front ∙ is.1, two.1 ∙ is.2)
          | false ↦ λ same got. more.found mark key value r kb vb got
        ]) refl e;
  }

kinds_7 : AreKinds (kind 7 number empty (λ n nothing. Modify n) no_kind)
kinds_7 = with_kind 7 number empty (λ n nothing. Modify n) no_kind number-exact empty-exact (λ n v k f. ((k, tt), refl, refl)) no_kinds

kinds_6 : AreKinds (kind 6 path empty (λ dir nothing. Create dir) (kind 7 number empty (λ n nothing. Modify n) no_kind))
kinds_6 = with_kind 6 path empty (λ dir nothing. Create dir) _ path-exact empty-exact (λ dir v k f. ((k, tt), refl, refl)) kinds_7

all_kinds : AreKinds kinds
all_kinds =
    with_kind 1 path stamp (λ p s. Seen p s) _ path-exact stamp-exact (λ p s k v. ((k, v), refl, refl))
    (with_kind 2 path reading (λ dir r. Reading dir r) _ path-exact reading-exact (λ dir r k v. ((k, v), refl, refl))
    (with_kind 3 number (number & rule) (λ n x. Rule n x.0 x.1) _ number-exact (pair-exact number rule number-exact rule-exact) (λ n x k v. ((k, v), refl, refl))
    (with_kind 4 number run (λ n r. Run n r) _ number-exact run-exact (λ n r k v. ((k, v), refl, refl))
    (with_kind 5 path (option number & state) (λ p x. Owned p x.0 x.1) _ path-exact (pair-exact (option number) state (option-exact number number-exact) state-exact) (λ p x k v. ((k, v), refl, refl)) kinds_6))))

record_found : (key value : List ℕ) (r : Record) → IsBytes key → IsBytes value → record_at key value ≡ Ok r → IsSpelled key value r
record_found [] value r kb vb e = absurd (cc)
record_found (mark ∷ key) value r kb vb e = all_kinds.found mark key value r (behind (mark ∷ []) key (mark ∷ key) refl kb) vb e

abbrev decoded : Record → Result Record RecordFault
decoded r = Ok r

pub is_found : (key value : List ℕ) (result : Result Record RecordFault) → IsBytes key → IsBytes value → Gives result (record_at key value) → IfOk result (IsSpelled key value)
is_found key value (Ok r) kb vb (inl memory) = absurd (let no : decoded r ≡ Err Memory = memory in cc)
is_found key value (Ok r) kb vb (inr e) = record_found key value r kb vb (sym e)
is_found key value (Err fault) kb vb given = tt

-- ---- what is spelled so is read, and what is cut off or left behind a spelling is refused
record IsRead (key value : List ℕ) (r : Record) : Type 0 where
  again : record_at key value ≡ Ok r
  short_key : (front more other : List ℕ) → more ≢ [] → key ≡ front ++ more → record_at front other ≡ Err Short
  short_value : (front more : List ℕ) → more ≢ [] → value ≡ front ++ more → record_at key front ≡ Err Short
  trailing_key : (more other : List ℕ) → more ≢ [] → record_at (key ++ more) other ≡ Err Trailing
  trailing_value : (more : List ℕ) → more ≢ [] → record_at key (value ++ more) ≡ Err Trailing

module _ {K V : Type 0} (own : ℕ) (f : Format K) (g : Format V) (make : K → V → Record) (first : IsExact f) (second : IsExact g) (same : (key value : List ℕ) → kinds own key value ≡ (parts f g key value >>= λ x. Ok (make x.0 x.1))) where
  abbrev made : Result (K × V) RecordFault → Result Record RecordFault
  made r = r >>= λ x. Ok (make x.0 x.1)

  abbrev paired : K → V → Result (K × V) RecordFault
  paired k v = Ok (k, v)

  abbrev behind_key : List ℕ → K → Result (K × V) RecordFault
  behind_key value k = whole g value >>= paired k

  -- what the whole key or the whole value tells
  key_refused : (key value : List ℕ) (fault : RecordFault) → whole f key ≡ Err fault → kinds own key value ≡ Err fault
  key_refused key value fault e = same key value ∙ ap (λ (r : Result K RecordFault). made (r >>= behind_key value)) e

  value_is : (key value : List ℕ) (k : K) (v : Result V RecordFault) → whole f key ≡ Ok k → whole g value ≡ v → kinds own key value ≡ made (v >>= paired k)
  value_is key value k v one two =
      same key value ∙ ap (λ (r : Result K RecordFault). made (r >>= behind_key value)) one ∙ ap (λ (r : Result V RecordFault). made (r >>= paired k)) two

  key_cut : (k : K) (front more other : List ℕ) → f.Fits k → more ≢ [] → own ∷ f.spelling k ≡ front ++ more → record_at front other ≡ Err Short
  key_cut k [] more other fits some e = refl
  key_cut k (mark ∷ front) more other fits some e =
      let head : own ≡ mark = cc in
      let tail : f.spelling k ≡ front ++ more = cc in
      subst (λ (m : ℕ). kinds m front other ≡ Err Short) head (key_refused front other Short (whole_short f first k front more fits some tail))

  kind_reads : (k : K) (v : V) → f.Fits k → g.Fits v → IsRead (own ∷ f.spelling k) (g.spelling v) (make k v)
  kind_reads k v kf vf = record {
    again = value_is (f.spelling k) (g.spelling v) k (Ok v) (whole_again f first k kf) (whole_again g second v vf);
    short_key = λ front more other some e. key_cut k front more other kf some e;
    short_value = λ front more some e. value_is (f.spelling k) front k (Err Short) (whole_again f first k kf) (whole_short g second v front more vf some e);
    trailing_key = λ more other some. key_refused (f.spelling k ++ more) other Trailing (whole_left f first k more kf some);
    trailing_value = λ more some. value_is (f.spelling k) (g.spelling v ++ more) k (Err Trailing) (whole_again f first k kf) (whole_left g second v more vf some);
  }

all_read : (r : Record) → Fits r → IsRead (key_of r) (value_of r) r
all_read (Seen p s) fits = kind_reads 1 path stamp (λ p s. Seen p s) path-exact stamp-exact (λ key value. refl) p s fits.0 fits.1
all_read (Reading dir r) fits = kind_reads 2 path reading (λ dir r. Reading dir r) path-exact reading-exact (λ key value. refl) dir r fits.0 fits.1
all_read (Rule n place r) fits =
    kind_reads 3 number (number & rule) (λ n x. Rule n x.0 x.1) number-exact (pair-exact number rule number-exact rule-exact) (λ key value. refl) n (place, r) fits.0 fits.1
all_read (Run n r) fits = kind_reads 4 number run (λ n r. Run n r) number-exact run-exact (λ key value. refl) n r fits.0 fits.1
all_read (Owned p maker s) fits =
    kind_reads 5 path (option number & state) (λ p x. Owned p x.0 x.1) path-exact (pair-exact (option number) state (option-exact number number-exact) state-exact) (λ key value. refl) p (maker, s) fits.0 fits.1
all_read (Create dir) fits = kind_reads 6 path empty (λ dir nothing. Create dir) path-exact empty-exact (λ key value. refl) dir tt fits.0 tt
all_read (Modify n) fits = kind_reads 7 number empty (λ n nothing. Modify n) number-exact empty-exact (λ key value. refl) n tt fits.0 tt

-- ---- the clauses
gives : (result x y : Result Record RecordFault) → Gives result x → x ≡ y → Gives result y
gives result x y (inl memory) e = inl memory
gives result x y (inr is) e = inr (is ∙ e)

module _ (key value : List ℕ) (result : Result Record RecordFault) (given : Gives result (record_at key value)) (r : Record) (fits : Fits r) where
  pub only : key ≡ key_of r → value ≡ value_of r → Gives result (Ok r)
  only k v = gives result (record_at key value) (Ok r) given (ap (λ (t : List ℕ). record_at t value) k ∙ ap (record_at (key_of r)) v ∙ (all_read r fits).again)

  pub short_key : (more : List ℕ) → more ≢ [] → key_of r ≡ key ++ more → Gives result (Err Short)
  short_key more some k = gives result (record_at key value) (Err Short) given ((all_read r fits).short_key key more value some k)

  pub short_value : (more : List ℕ) → more ≢ [] → key ≡ key_of r → value_of r ≡ value ++ more → Gives result (Err Short)
  short_value more some k v = gives result (record_at key value) (Err Short) given (ap (λ (t : List ℕ). record_at t value) k ∙ (all_read r fits).short_value value more some v)

  pub trailing_key : (more : List ℕ) → more ≢ [] → key ≡ key_of r ++ more → Gives result (Err Trailing)
  trailing_key more some k = gives result (record_at key value) (Err Trailing) given (ap (λ (t : List ℕ). record_at t value) k ∙ (all_read r fits).trailing_key more value some)

  pub trailing_value : (more : List ℕ) → more ≢ [] → key ≡ key_of r → value ≡ value_of r ++ more → Gives result (Err Trailing)
  trailing_value more some k v =
      gives result (record_at key value) (Err Trailing) given (ap (λ (t : List ℕ). record_at t value) k ∙ ap (record_at (key_of r)) v ∙ (all_read r fits).trailing_value more some)
