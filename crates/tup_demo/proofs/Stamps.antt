-- The two contents of the project have two stamps, as their digests begin with different bytes.
use Rattle.std.proofs.Common.{◌≡◌, ◌⊎◌, inl, inr, ℕ, ◌||◌, Bool, true, false, List, [], ◌∷◌, IsTrue, bytes_eq, refl, sym, ap, ◌∙◌, arith}
use Rattle.std.proofs.lemmas.Slice.Eq.{bytes_eq-Decides}
use Rattle.std.specs.Prelude.{slice_index}
use Rattle.sha2.specs.Sha256.{sha256, digest_bytes, hash_after, compress, rounds, schedule, first_words}
use Rattle.tup_path.specs.Name.{Content}
use Rattle.tup_stamp.specs.Stamp.{stamp}
use Rattle.tup_stamp.specs.declared.Stamp.{Stamp}
use Rattle.tup_site.specs.History.{contents_of}
use Rattle.tup_site.specs.Known.{knows, IsKnown}
use Rattle.tup_demo.specs.Project.{demo_files, demo_source, demo_tupfile}

source_begins : slice_index (sha256 demo_source) 0 ≡ 0x98
unfolding sha256 digest_bytes hash_after compress rounds schedule first_words
source_begins = refl

tupfile_begins : slice_index (sha256 demo_tupfile) 0 ≡ 0x02
unfolding sha256 digest_bytes hash_after compress rounds schedule first_words
tupfile_begins = refl

apart : stamp demo_source ≡ stamp demo_tupfile → ⊥
apart same =
    let bytes : slice_index (sha256 demo_source) 0 ≡ slice_index (sha256 demo_tupfile) 0 = ap (λ (s : Stamp). slice_index s.0 0) same in
    let wrong : ◌≡◌ {A = ℕ} 0x98 0x02 = sym source_begins ∙ bytes ∙ tupfile_begins in
    omega (arith, wrong)

which : (content : Content) → IsTrue (knows (contents_of demo_files) content) → (content ≡ demo_tupfile) ⊎ (content ≡ demo_source)
which content = by (bytes_eq content demo_tupfile) (bytes_eq content demo_source) refl refl
  where
    by : (x y : Bool) → bytes_eq content demo_tupfile ≡ x → bytes_eq content demo_source ≡ y → (x || (y || false)) ≡ true → (content ≡ demo_tupfile) ⊎ (content ≡ demo_source)
    by true y here there h = inl ((bytes_eq-Decides content demo_tupfile).0 here)
    by false true here there h = inr ((bytes_eq-Decides content demo_source).0 there)
    by false false here there h = cc

pub known : IsKnown (contents_of demo_files)
known a b ka kb same = both (which a ka) (which b kb)
  where
    both : (a ≡ demo_tupfile) ⊎ (a ≡ demo_source) → (b ≡ demo_tupfile) ⊎ (b ≡ demo_source) → a ≡ b
    both (inl x) (inl y) = x ∙ sym y
    both (inl x) (inr y) = absurd (apart (sym (ap stamp y) ∙ sym same ∙ ap stamp x))
    both (inr x) (inl y) = absurd (apart (sym (ap stamp x) ∙ same ∙ ap stamp y))
    both (inr x) (inr y) = x ∙ sym y
