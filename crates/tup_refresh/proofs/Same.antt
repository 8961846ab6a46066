-- The test of two answers as they are kept says whether they are the same.
use Rattle.std.proofs.Common.{◌≡◌, Bool, Some, None, refl, ap}
use Rattle.std.specs.Bool.{Decides}
use Rattle.std.specs.Cmp.Lexicographic.{bytes_decides}
use Rattle.std.proofs.lemmas.Bool.Decides.{Decides-at}
use Rattle.tup_path.proofs.Same.{same_path-decides}
use Rattle.tup_stamp.specs.declared.Stamp.{Stamp}
use Rattle.tup_stamp.specs.contracts.StampPartialEq.TheImpl as stamps
use Rattle.tup_rule.specs.declared.question.Kind.{Kind as KindOf}
use Rattle.tup_rule.specs.declared.question.Kind.TheVariants.{Nothing, File, Dir}
use Rattle.tup_rule.specs.declared.question.Noted.{Noted}
use Rattle.tup_rule.specs.declared.question.Noted.TheVariants.{Content, Config, Names, Kind}
use Rattle.tup_rule.specs.contracts.question.KindPartialEq.TheImpl as kinds
use Rattle.tup_rule.specs.contracts.question.NotedPartialEq.TheImpl as noted

stamp_decides : (x y : Stamp) → Decides (stamps.eq-value.it x y) (x ≡ y)
stamp_decides x y = (λ e. (λ i. record { 0 = (bytes_decides x.0 y.0).0 e i }), λ e. (bytes_decides x.0 y.0).1 (ap (λ (s : Stamp). s.0) e))

kind_decides : (x y : KindOf) → Decides (kinds.eq-value.it x y) (x ≡ y)
kind_decides Nothing Nothing = (λ e. refl, λ e. refl)
kind_decides Nothing File = (λ e. cc, λ e. cc)
kind_decides Nothing Dir = (λ e. cc, λ e. cc)
kind_decides File Nothing = (λ e. cc, λ e. cc)
kind_decides File File = (λ e. refl, λ e. refl)
kind_decides File Dir = (λ e. cc, λ e. cc)
kind_decides Dir Nothing = (λ e. cc, λ e. cc)
kind_decides Dir File = (λ e. cc, λ e. cc)
kind_decides Dir Dir = (λ e. refl, λ e. refl)

abbrev pub same : Noted → Noted → Bool
same one other = noted.eq-value.it one other

noted_decides : (one other : Noted) → Decides (same one other) (one ≡ other)
noted_decides (Content None) (Content None) = (λ e. refl, λ e. refl)
noted_decides (Content None) (Content (Some x')) = (λ e. cc, λ e. cc)
noted_decides (Content None) (Config None) = (λ e. cc, λ e. cc)
noted_decides (Content None) (Config (Some x')) = (λ e. cc, λ e. cc)
noted_decides (Content None) (Names x') = (λ e. cc, λ e. cc)
noted_decides (Content None) (Kind x') = (λ e. cc, λ e. cc)
noted_decides (Content (Some x)) (Content None) = (λ e. cc, λ e. cc)
noted_decides (Content (Some x)) (Content (Some x')) = (λ e. ap (λ s. Content (Some s)) ((stamp_decides x x').0 e), λ e. (stamp_decides x x').1 (let h : x ≡ x' = cc in h))
noted_decides (Content (Some x)) (Config None) = (λ e. cc, λ e. cc)
noted_decides (Content (Some x)) (Config (Some x')) = (λ e. cc, λ e. cc)
noted_decides (Content (Some x)) (Names x') = (λ e. cc, λ e. cc)
noted_decides (Content (Some x)) (Kind x') = (λ e. cc, λ e. cc)
noted_decides (Config None) (Content None) = (λ e. cc, λ e. cc)
noted_decides (Config None) (Content (Some x')) = (λ e. cc, λ e. cc)
noted_decides (Config None) (Config None) = (λ e. refl, λ e. refl)
noted_decides (Config None) (Config (Some x')) = (λ e. cc, λ e. cc)
noted_decides (Config None) (Names x') = (λ e. cc, λ e. cc)
noted_decides (Config None) (Kind x') = (λ e. cc, λ e. cc)
noted_decides (Config (Some x)) (Content None) = (λ e. cc, λ e. cc)
noted_decides (Config (Some x)) (Content (Some x')) = (λ e. cc, λ e. cc)
noted_decides (Config (Some x)) (Config None) = (λ e. cc, λ e. cc)
noted_decides (Config (Some x)) (Config (Some x')) = (λ e. ap (λ s. Config (Some s)) ((bytes_decides x x').0 e), λ e. (bytes_decides x x').1 (let h : x ≡ x' = cc in h))
noted_decides (Config (Some x)) (Names x') = (λ e. cc, λ e. cc)
noted_decides (Config (Some x)) (Kind x') = (λ e. cc, λ e. cc)
noted_decides (Names x) (Content None) = (λ e. cc, λ e. cc)
noted_decides (Names x) (Content (Some x')) = (λ e. cc, λ e. cc)
noted_decides (Names x) (Config None) = (λ e. cc, λ e. cc)
noted_decides (Names x) (Config (Some x')) = (λ e. cc, λ e. cc)
noted_decides (Names x) (Names x') = (λ e. ap Names ((same_path-decides x x').0 e), λ e. (same_path-decides x x').1 (let h : x ≡ x' = cc in h))
noted_decides (Names x) (Kind x') = (λ e. cc, λ e. cc)
noted_decides (Kind x) (Content None) = (λ e. cc, λ e. cc)
noted_decides (Kind x) (Content (Some x')) = (λ e. cc, λ e. cc)
noted_decides (Kind x) (Config None) = (λ e. cc, λ e. cc)
noted_decides (Kind x) (Config (Some x')) = (λ e. cc, λ e. cc)
noted_decides (Kind x) (Names x') = (λ e. cc, λ e. cc)
noted_decides (Kind x) (Kind x') = (λ e. ap Kind ((kind_decides x x').0 e), λ e. (kind_decides x x').1 (let h : x ≡ x' = cc in h))

pub noted_tells : (one other : Noted) (r : Bool) → r ≡ same one other → Decides r (one ≡ other)
noted_tells one other r e = Decides-at r (same one other) e (noted_decides one other)
