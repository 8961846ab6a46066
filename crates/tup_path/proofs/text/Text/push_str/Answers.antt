use Rattle.std.proofs.Common.{◌≡◌, ℕ, Bool, true, false, List, ◌++◌, if◌then◌else◌, IsUtf8, is_ok, sym, subst}
use Rattle.std.proofs.lemmas.Str.{IsUtf8-append}
use Rattle.tup_path.specs.Body.{bytes_in}
use Rattle.tup_path.specs.declared.text.Body.{Body}
use Rattle.tup_path.proofs.text.Text.push_str.Goals as goal

-- a text stays one, grown or not
grown-IsUtf8 : (ok : Bool) (old more new : List ℕ) → IsUtf8 old → IsUtf8 more → new ≡ (if ok then old ++ more else old) → IsUtf8 new
grown-IsUtf8 true old more new was is grown = subst IsUtf8 (sym grown) (IsUtf8-append old more was is)
grown-IsUtf8 false old more new was is same = subst IsUtf8 (sym same) was

pub invariant_of-self : goal.invariant_of-self
invariant_of-self c = (
  grown-IsUtf8 (is_ok c.extend_from_slice.result) c.in-Long.bytes.items _ _ (subst (λ (b : Body). IsUtf8 (bytes_in b)) c.in-Long.is c.self.invariant.0)
      c.as_bytes.ensures.utf8 c.extend_from_slice.ensures.items,
  tt,
)

pub invariant_of-self-4 : goal.invariant_of-self-4
invariant_of-self-4 c =
    (subst IsUtf8 (sym c.in_ok-bytes.ensures) (IsUtf8-append _ _ (subst IsUtf8 (sym c.as_bytes-2.ensures.bytes) c.as_bytes-2.ensures.utf8) c.as_bytes-3.ensures.utf8), tt)
