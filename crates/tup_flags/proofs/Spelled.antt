-- The parts of a text, written again, are the text; and a text in two is read in turn.
use Rattle.std.proofs.Common.{◌≡◌, ℕ, true, false, eqb, if◌then◌else◌, List, [], ◌∷◌, ◌++◌, Option, Some, None, refl, ap, sym, ◌∙◌, append_assoc}
use Rattle.std.proofs.lemmas.Bool.{eqb-true}
use Rattle.std.specs.List.{flat_map}
use Rattle.std.specs.Option.{option_map_or}
use Rattle.tup_flags.specs.declared.flag.Flag.{Flag}
use Rattle.tup_flags.specs.declared.flag.Flag.TheVariants.{Percent, Inputs, Names, Stems, Extension, Outputs, Trunk, Folder, Glob, Order}
use Rattle.tup_flags.specs.Part.{Part, Byte, Flagged, Named, Unknown, character, spelled, flag_of, State, Between, Behind, Within, parts_from, parts}

-- the part behind a percent sign, where it is one byte
abbrev part_by : ℕ → Option Flag → Part
part_by byte flag = option_map_or (λ f. Flagged f) flag (Unknown (37 ∷ byte ∷ []))

one-flag : (byte : ℕ) (flag : Flag) (others : Option Flag) → spelled (part_by byte others) ≡ 37 ∷ byte ∷ [] → spelled (part_by byte (if eqb byte (character flag) then Some flag else others)) ≡ 37 ∷ byte ∷ []
one-flag byte flag others rest =
    (elim (eqb byte (character flag)) as (λ t. eqb byte (character flag) ≡ t → spelled (part_by byte (if t then Some flag else others)) ≡ 37 ∷ byte ∷ []) [
      | true ↦ λ e. ap (λ b. 37 ∷ b ∷ []) (sym (eqb-true byte (character flag) e))
      | false ↦ λ e. rest
    ]) refl

flag-spelled : (byte : ℕ) → spelled (part_by byte (flag_of byte)) ≡ 37 ∷ byte ∷ []
flag-spelled byte =
    one-flag byte Percent _ (one-flag byte Inputs _ (one-flag byte Names _ (one-flag byte Stems _ (one-flag byte Extension _
    (one-flag byte Outputs _ (one-flag byte Trunk _ (one-flag byte Folder _ (one-flag byte Glob _ (one-flag byte Order None refl)))))))))

-- what is read already of the part that isn't complete
so_far : State → List ℕ
so_far Between = []
so_far Behind = 37 ∷ []
so_far (Within name) = 37 ∷ 60 ∷ name

spelled-from : (state : State) (text : List ℕ) → flat_map spelled (parts_from state text) ≡ so_far state ++ text
unfolding so_far
spelled-from Between [] = refl
spelled-from Behind [] = refl
spelled-from (Within name) [] = refl
spelled-from Between (byte ∷ more) =
    (elim (eqb byte 37) as (λ t. eqb byte 37 ≡ t → flat_map spelled (if t then parts_from Behind more else Byte byte ∷ parts_from Between more) ≡ byte ∷ more) [
      | true ↦ λ e. spelled-from Behind more ∙ ap (λ b. b ∷ more) (sym (eqb-true byte 37 e))
      | false ↦ λ e. ap (λ rest. byte ∷ rest) (spelled-from Between more)
    ]) refl
spelled-from Behind (byte ∷ more) =
    (elim (eqb byte 60) as (λ t. eqb byte 60 ≡ t → flat_map spelled (if t then parts_from (Within []) more else part_by byte (flag_of byte) ∷ parts_from Between more) ≡ 37 ∷ byte ∷ more) [
      | true ↦ λ e. spelled-from (Within []) more ∙ ap (λ b. 37 ∷ b ∷ more) (sym (eqb-true byte 60 e))
      | false ↦ λ e. ap (λ bytes. bytes ++ flat_map spelled (parts_from Between more)) (flag-spelled byte) ∙ ap (λ rest. 37 ∷ byte ∷ rest) (spelled-from Between more)
    ]) refl
spelled-from (Within name) (byte ∷ more) =
    (elim (eqb byte 62) as (λ t. eqb byte 62 ≡ t → flat_map spelled (if t then Named name ∷ parts_from Between more else parts_from (Within (name ++ byte ∷ [])) more) ≡ 37 ∷ 60 ∷ name ++ byte ∷ more) [
      | true ↦ λ e. ap (λ rest. (37 ∷ 60 ∷ name ++ 62 ∷ []) ++ rest) (spelled-from Between more) ∙ append_assoc (37 ∷ 60 ∷ name) (62 ∷ []) more ∙ ap (λ b. 37 ∷ 60 ∷ name ++ b ∷ more) (sym (eqb-true byte 62 e))
      | false ↦ λ e. spelled-from (Within (name ++ byte ∷ [])) more ∙ ap (λ rest. 37 ∷ 60 ∷ rest) (append_assoc name (byte ∷ []) more)
    ]) refl

pub spelled-parts : (text : List ℕ) → flat_map spelled (parts text) ≡ text
unfolding so_far
spelled-parts text = spelled-from Between text

-- the parts that are complete, and the state behind them
abbrev pub read : State → List ℕ → List Part
read Between [] = []
read Behind [] = []
read (Within name) [] = []
read Between (byte ∷ more) = if eqb byte 37 then read Behind more else Byte byte ∷ read Between more
read Behind (byte ∷ more) = if eqb byte 60 then read (Within []) more else part_by byte (flag_of byte) ∷ read Between more
read (Within name) (byte ∷ more) = if eqb byte 62 then Named name ∷ read Between more else read (Within (name ++ byte ∷ [])) more

abbrev pub state_behind : State → List ℕ → State
state_behind Between [] = Between
state_behind Behind [] = Behind
state_behind (Within name) [] = Within name
state_behind Between (byte ∷ more) = if eqb byte 37 then state_behind Behind more else state_behind Between more
state_behind Behind (byte ∷ more) = if eqb byte 60 then state_behind (Within []) more else state_behind Between more
state_behind (Within name) (byte ∷ more) = if eqb byte 62 then state_behind Between more else state_behind (Within (name ++ byte ∷ [])) more

pub read-on : (state : State) (front back : List ℕ) → parts_from state (front ++ back) ≡ read state front ++ parts_from (state_behind state front) back
read-on Between [] back = refl
read-on Behind [] back = refl
read-on (Within name) [] back = refl
read-on Between (byte ∷ more) back =
    elim (eqb byte 37) as (λ t. (if t then parts_from Behind (more ++ back) else Byte byte ∷ parts_from Between (more ++ back))
    ≡ (if t then read Behind more else Byte byte ∷ read Between more) ++ parts_from (if t then state_behind Behind more else state_behind Between more) back) [
      | true ↦ read-on Behind more back
      | false ↦ ap (λ ps. Byte byte ∷ ps) (read-on Between more back)
    ]
read-on Behind (byte ∷ more) back =
    elim (eqb byte 60) as (λ t. (if t then parts_from (Within []) (more ++ back) else part_by byte (flag_of byte) ∷ parts_from Between (more ++ back))
    ≡ (if t then read (Within []) more else part_by byte (flag_of byte) ∷ read Between more) ++ parts_from (if t then state_behind (Within []) more else state_behind Between more) back) [
      | true ↦ read-on (Within []) more back
      | false ↦ ap (λ ps. part_by byte (flag_of byte) ∷ ps) (read-on Between more back)
    ]
read-on (Within name) (byte ∷ more) back =
    elim (eqb byte 62) as (λ t. (if t then Named name ∷ parts_from Between (more ++ back) else parts_from (Within (name ++ byte ∷ [])) (more ++ back))
    ≡ (if t then Named name ∷ read Between more else read (Within (name ++ byte ∷ [])) more) ++ parts_from (if t then state_behind Between more else state_behind (Within (name ++ byte ∷ [])) more) back) [
      | true ↦ ap (λ ps. Named name ∷ ps) (read-on Between more back)
      | false ↦ read-on (Within (name ++ byte ∷ [])) more back
    ]
