use Rattle.std.proofs.Common.{◌≡◌, false, true, refl, sym, ◌∙◌, inl, inr, arith}
use Rattle.std.proofs.lemmas.Bool.{false≢true}
use Rattle.std.proofs.lemmas.Result.{IfOk-weaker}
use Rattle.tup_apart.proofs.Under.{none_over_top, shorter, under_either, under_folder, under_further}
use Rattle.tup_apart.proofs.place.+is_under_file.Goals as goal

pub returns-in_default : goal.returns-in_default
returns-in_default t c = (
  λ (wrong : false ≡ true). absurd (false≢true wrong),
  λ under. absurd (none_over_top c.args.nodes.now c.args.makers.now c.args.path.now (sym c.in_default.is ∙ c.in_ok-folder.ensures) under),
)

pub returns-then-is_file : goal.returns-then-is_file
returns-then-is_file t c = (
  λ _. under_folder c.args.nodes.now c.args.makers.now c.args.path.now c.in-Some.folder (sym c.in-Some.is ∙ c.in_ok-folder.ensures) (c.is_file.ensures.0 c.if-is_file.true),
  λ _. refl,
)

pub is_under_file-requires : goal.is_under_file-requires
is_under_file-requires t c = (omega (arith, shorter c.args.path.now c.in-Some.folder (sym c.in-Some.is ∙ c.in_ok-folder.ensures)), tt)

pub returns : goal.returns
returns t c =
    let said = sym c.in-Some.is ∙ c.in_ok-folder.ensures in
    IfOk-weaker c.is_under_file.result _ _ (λ under tested. (
      λ is. under_further c.args.nodes.now c.args.makers.now c.args.path.now c.in-Some.folder said (tested.0 is),
      λ above. elim (under_either c.args.nodes.now c.args.makers.now c.args.path.now c.in-Some.folder said above) [
        | inl file ↦ absurd (false≢true (sym c.if-is_file.false ∙ c.is_file.ensures.1 file))
        | inr further ↦ tested.1 further
      ],
    )) c.is_under_file.ensures
