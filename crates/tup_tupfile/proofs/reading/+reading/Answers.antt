use Rattle.std.proofs.Common.{◌≡◌, ℕ, List, ◌+◌, ◌-◌, ◌∷◌, ◌++◌, [], true, false, drop, ap, sym, ◌∙◌, arith, is_some}
use Rattle.std.proofs.lemmas.Result.{err_from_is_err_and}
use Rattle.tup_vars.specs.Branches.{turned, left, all_on}
use Rattle.tup_query.specs.Spot.{spot}
use Rattle.tup_tupfile.specs.Opening.{at_levels}
use Rattle.tup_tupfile.specs.File.{lines_of, ended}
use Rattle.tup_tupfile.specs.Kind.{Compares, Looks, Else, Endif, kind_of, in_bytes}
use Rattle.tup_tupfile.specs.Reading.{opener_of, with_kind, with_lines, plain_line, ruled_below}
use Rattle.tup_query.proofs.Went.{went_then, went_err, went_ok, went_bad, went_gives, went_given, went_refuses, went_nowhere, went_along}
use Rattle.tup_tupfile.proofs.Lines as lines
use Rattle.tup_tupfile.proofs.reading.+reading.Goals as goal

-- ---- a file
pub with_file-returns-in_err-lines : goal.with_file-returns-in_err-lines
with_file-returns-in_err-lines g t c =
    let a = c.args in
    let p = err_from_is_err_and c.from_residual.result c.from_residual.ensures.1 in
    rw (p.1, p.2)
    (went_along _ _ (lines.file_by a.room a.dir.now a.file.now a.state a.content.now)
    (went_bad _ _ (lines_of a.dir.now a.file.now a.content.now) (lines.behind_lines (opener_of a.room a.dir.now) a.dir.now a.file.now a.state) c.in_err-lines.field-0.0 c.requires c.in_err-lines.ensures))

pub with_file-loop-line-init : goal.with_file-loop-line-init
with_file-loop-line-init g t c =
    let a = c.args in
    record {
      on = c.requires;
      so_far = λ after end went.
          went_along _ _ (lines.file_by a.room a.dir.now a.file.now a.state a.content.now)
          (went_ok (lines_of a.dir.now a.file.now a.content.now) (lines.behind_lines (opener_of a.room a.dir.now) a.dir.now a.file.now a.state) c.in_ok-lines.ensures
          (rw (c.as_slice-line-items.ensures, c.new.ensures) at went));
    }

pub with_file-returns-in_err-along : goal.with_file-returns-in_err-along
with_file-returns-in_err-along g t c =
    let a = c.args in
    let l = c.loop-line in
    let line = c.line-item.result in
    let told = rw c.new-at.ensures at c.in_err-along.ensures in
    let text = ap (λ (t : List ℕ). with_kind (opener_of a.room a.dir.now) (spot a.dir.now a.file.now line.number) l.along (kind_of t)) (sym c.as_str.ensures.bytes) in
    let failed = went_along _ _ text told in
    let p = err_from_is_err_and c.from_residual-in_err-along.result c.from_residual-in_err-along.ensures.1 in
    rw (p.1, p.2)
    (l.invariant.so_far _ _
    (went_along _ _ (lines.lines_more (opener_of a.room a.dir.now) a.dir.now a.file.now l.along c.as_slice-line-items.result.now l.line-index line (omega arith) c.line-item.is)
    (went_err (λ next. with_lines (opener_of a.room a.dir.now) a.dir.now a.file.now next (drop (l.line-index + 1) c.as_slice-line-items.result.now)) failed)))

pub with_file-loop-line-preserved : goal.with_file-loop-line-preserved
with_file-loop-line-preserved g t c =
    let a = c.args in
    let l = c.loop-line in
    let line = c.line-item.result in
    let told = rw c.new-at.ensures at c.in_ok-along.ensures in
    let text = ap (λ (t : List ℕ). with_kind (opener_of a.room a.dir.now) (spot a.dir.now a.file.now line.number) l.along (kind_of t)) (sym c.as_str.ensures.bytes) in
    let done = went_along _ _ text told in
    record {
      on = done.stopped;
      so_far = λ after end went. l.invariant.so_far after end
          (went_along _ _ (lines.lines_more (opener_of a.room a.dir.now) a.dir.now a.file.now l.along c.as_slice-line-items.result.now l.line-index line (omega arith) c.line-item.is)
          (went_then (λ next. with_lines (opener_of a.room a.dir.now) a.dir.now a.file.now next (drop (l.line-index + 1) c.as_slice-line-items.result.now)) done went));
    }

pub with_file-returns : goal.with_file-returns
with_file-returns g t c =
    let a = c.args in
    let l = c.loop-line in
    l.invariant.so_far _ _
    (went_along _ _ (lines.lines_end (opener_of a.room a.dir.now) a.dir.now a.file.now l.along c.as_slice-line-items.result.now l.line-index (omega arith))
    (went_given _ _ (ended a.dir.now a.file.now l.along) c.ended.result l.invariant.on c.ended.ensures))

-- ---- includes
pub included-returns-in_err-held : goal.included-returns-in_err-held
included-returns-in_err-held g t c =
    let a = c.args in
    let p = err_from_is_err_and c.from_residual.result c.from_residual.ensures.1 in
    rw (p.1, p.2)
    (went_along _ _ (lines.include_by (opener_of a.room a.at.now.dir) a.at.now a.state a.text.now) (went_err (lines.behind_file (opener_of a.room a.at.now.dir) a.at.now a.state) c.in_err-held.ensures))

pub included-returns : goal.included-returns
included-returns g t c =
    let a = c.args in
    went_along _ _ (lines.include_by (opener_of a.room a.at.now.dir) a.at.now a.state a.text.now)
    (went_then (lines.behind_file (opener_of a.room a.at.now.dir) a.at.now a.state) c.in_ok-held.ensures c.opened.ensures)

pub ruled_by-returns-in_err-found : goal.ruled_by-returns-in_err-found
ruled_by-returns-in_err-found g t c =
    let a = c.args in
    let p = err_from_is_err_and c.from_residual.result c.from_residual.ensures.1 in
    rw (p.1, p.2)
    (went_along _ _ (lines.ruled-by (opener_of a.room a.at.now.dir) a.at.now a.state a.folder.now) (went_err (lines.if_there (opener_of a.room a.at.now.dir) a.at.now a.state) c.in_err-found.ensures))

pub ruled_by-returns-in-Some : goal.ruled_by-returns-in-Some
ruled_by-returns-in-Some g t c =
    let a = c.args in
    went_along _ _ (lines.ruled-by (opener_of a.room a.at.now.dir) a.at.now a.state a.folder.now)
    (went_then (lines.if_there (opener_of a.room a.at.now.dir) a.at.now a.state) c.in_ok-found.ensures
    (went_along _ _ (ap (lines.if_there (opener_of a.room a.at.now.dir) a.at.now a.state) c.in-Some.is) c.opened.ensures))

pub ruled_by-returns-in-None : goal.ruled_by-returns-in-None
ruled_by-returns-in-None g t c =
    let a = c.args in
    let done = c.in_ok-found.ensures in
    went_along _ _ (lines.ruled-by (opener_of a.room a.at.now.dir) a.at.now a.state a.folder.now)
    (went_then (lines.if_there (opener_of a.room a.at.now.dir) a.at.now a.state) done
    (went_along _ _ (ap (lines.if_there (opener_of a.room a.at.now.dir) a.at.now a.state) c.in-None.is) (went_gives _ _ _ done.stopped)))

pub ruled_down-returns-in_err-reached : goal.ruled_down-returns-in_err-reached
ruled_down-returns-in_err-reached g t c =
    let a = c.args in
    let failed = rw c.top-folder.ensures at c.in_err-reached.ensures in
    let p = err_from_is_err_and c.from_residual.result c.from_residual.ensures.1 in
    rw (p.1, p.2) (went_along _ _ (lines.down_by (opener_of a.room a.at.now.dir) a.at.now a.state) (went_err (lines.behind_top (opener_of a.room a.at.now.dir) a.at.now) failed))

pub ruled_down-loop-name-init : goal.ruled_down-loop-name-init
ruled_down-loop-name-init g t c =
    let a = c.args in
    let done = rw c.top-folder.ensures at c.in_ok-reached.ensures in
    record {
      on = done.stopped;
      so_far = λ after end went.
          went_along _ _ (lines.down_by (opener_of a.room a.at.now.dir) a.at.now a.state)
          (went_then (lines.behind_top (opener_of a.room a.at.now.dir) a.at.now) done (rw (c.top-folder.ensures, c.names-name-items.ensures.names, c.dir.ensures) at went));
    }

pub ruled_down-returns-in_err-reached-2 : goal.ruled_down-returns-in_err-reached-2
ruled_down-returns-in_err-reached-2 g t c =
    let a = c.args in
    let l = c.loop-name in
    let name = c.name-item.result in
    let p = err_from_is_err_and c.from_residual-in_err-reached-2.result c.from_residual-in_err-reached-2.ensures.1 in
    let failed = rw c.in_ok-folder.ensures at c.in_err-reached-2.ensures in
    rw (p.1, p.2)
    (l.invariant.so_far _ _
    (went_along _ _ (lines.below_more (opener_of a.room a.at.now.dir) a.at.now l.reached l.folder c.names-name-items.result.now l.name-index name (omega arith) c.name-item.is)
    (went_err (λ next. ruled_below (opener_of a.room a.at.now.dir) a.at.now next (l.folder ++ name ∷ []) (drop (l.name-index + 1) c.names-name-items.result.now)) failed)))

pub ruled_down-returns-in_err-folder : goal.ruled_down-returns-in_err-folder
ruled_down-returns-in_err-folder g t c =
    let p = err_from_is_err_and c.from_residual-in_err-folder.result c.from_residual-in_err-folder.ensures.1 in
    rw (p.1, p.2) (c.loop-name.invariant.so_far _ _ (went_nowhere _ _ _ c.loop-name.invariant.on))

pub ruled_down-loop-name-preserved : goal.ruled_down-loop-name-preserved
ruled_down-loop-name-preserved g t c =
    let a = c.args in
    let l = c.loop-name in
    let name = c.name-item.result in
    let done = rw c.in_ok-folder.ensures at c.in_ok-reached-2.ensures in
    record {
      on = done.stopped;
      so_far = λ after end went. l.invariant.so_far after end
          (went_along _ _ (lines.below_more (opener_of a.room a.at.now.dir) a.at.now l.reached l.folder c.names-name-items.result.now l.name-index name (omega arith) c.name-item.is)
          (went_then (λ next. ruled_below (opener_of a.room a.at.now.dir) a.at.now next (l.folder ++ name ∷ []) (drop (l.name-index + 1) c.names-name-items.result.now)) done
          (rw c.in_ok-folder.ensures at went)));
    }

pub ruled_down-returns : goal.ruled_down-returns
ruled_down-returns g t c =
    let a = c.args in
    let l = c.loop-name in
    l.invariant.so_far _ _
    (went_along _ _ (lines.below_end (opener_of a.room a.at.now.dir) a.at.now l.reached l.folder c.names-name-items.result.now l.name-index (omega arith))
    (went_gives _ _ _ l.invariant.on))

pub opened-returns-then-room-eq0 : goal.opened-returns-then-room-eq0
opened-returns-then-room-eq0 g t c =
    let a = c.args in
    went_along _ _ (lines.opened-none a.room a.at.now.dir a.at.now a.state a.held.now (omega arith)) (went_refuses _ _ _ _ _ c.requires c.refuse.ensures)

pub opened-returns : goal.opened-returns
opened-returns g t c =
    let a = c.args in
    went_along _ _ (lines.opened-room a.room (a.room - 1) a.at.now.dir a.at.now a.state a.held.now (omega arith)) (rw c.dir.ensures at c.with_file.ensures)

-- ---- one line
pub plain_line-returns-then-not-on : goal.plain_line-returns-then-not-on
plain_line-returns-then-not-on g t c =
    let a = c.args in
    let off : all_on a.before.levels ≡ false = cc in
    went_along _ _ (lines.plain-off (opener_of a.room a.at.now.dir) a.at.now a.before (in_bytes a.line) off) (went_gives _ _ _ c.requires)

pub plain_line-returns-in_err-state : goal.plain_line-returns-in_err-state
plain_line-returns-in_err-state g t c =
    let a = c.args in
    let on : all_on a.before.levels ≡ true = cc in
    let p = err_from_is_err_and c.from_residual.result c.from_residual.ensures.1 in
    rw (p.1, p.2)
    (went_along _ _ (lines.plain-on (opener_of a.room a.at.now.dir) a.at.now a.before (in_bytes a.line) on) (went_err (lines.behind_stated a.before) c.in_err-state.ensures))

pub plain_line-returns : goal.plain_line-returns
plain_line-returns g t c =
    let a = c.args in
    let on : all_on a.before.levels ≡ true = cc in
    let done = c.in_ok-state.ensures in
    went_along _ _ (lines.plain-on (opener_of a.room a.at.now.dir) a.at.now a.before (in_bytes a.line) on)
    (went_then (lines.behind_stated a.before) done (went_gives _ _ _ done.stopped))

pub with_line-returns-in-Compares : goal.with_line-returns-in-Compares
with_line-returns-in-Compares g t c =
    let a = c.args in
    let k = c.in-Compares in
    let is : kind_of a.line.now ≡ Compares k.alike k.text.now = sym c.kind_of.ensures ∙ ap in_bytes k.is in
    went_along _ _ (lines.kind-compares (opener_of a.room a.at.now.dir) a.at.now a.before (kind_of a.line.now) k.alike k.text.now is) c.comparing.ensures

pub with_line-returns-in-Looks : goal.with_line-returns-in-Looks
with_line-returns-in-Looks g t c =
    let a = c.args in
    let k = c.in-Looks in
    let is : kind_of a.line.now ≡ Looks k.wanted k.name.now = sym c.kind_of.ensures ∙ ap in_bytes k.is in
    went_along _ _ (lines.kind-looks (opener_of a.room a.at.now.dir) a.at.now a.before (kind_of a.line.now) k.wanted k.name.now is) c.looking.ensures

pub with_line-returns-in-Else : goal.with_line-returns-in-Else
with_line-returns-in-Else g t c =
    let a = c.args in
    let is : kind_of a.line.now ≡ Else = sym c.kind_of.ensures ∙ ap in_bytes c.in-Else.is in
    let on : is_some (g.E.Env.stopped a.env.now) ≡ false = cc in
    went_along _ _ (lines.kind-else (opener_of a.room a.at.now.dir) a.at.now a.before (kind_of a.line.now) is)
    (went_given _ _ (at_levels a.at.now a.before.state (turned a.before.levels)) c.turned.result on c.turned.ensures)

pub with_line-returns-in-Endif : goal.with_line-returns-in-Endif
with_line-returns-in-Endif g t c =
    let a = c.args in
    let is : kind_of a.line.now ≡ Endif = sym c.kind_of.ensures ∙ ap in_bytes c.in-Endif.is in
    let on : is_some (g.E.Env.stopped a.env.now) ≡ false = cc in
    went_along _ _ (lines.kind-endif (opener_of a.room a.at.now.dir) a.at.now a.before (kind_of a.line.now) is)
    (went_given _ _ (at_levels a.at.now a.before.state (left a.before.levels)) c.left.result on c.left.ensures)

-- ---- a line that is stated
pub stated-returns-in-Complains : goal.stated-returns-in-Complains
stated-returns-in-Complains g t c =
    let a = c.args in
    let k = c.in-Complains in
    went_along _ _ (lines.stated-complains (opener_of a.room a.at.now.dir) a.at.now a.state (in_bytes a.line) k.text.now (ap in_bytes k.is)) c.complained.ensures

pub stated-returns-in-IncludesRules : goal.stated-returns-in-IncludesRules
stated-returns-in-IncludesRules g t c =
    let a = c.args in
    went_along _ _ (lines.stated-down (opener_of a.room a.at.now.dir) a.at.now a.state (in_bytes a.line) (ap in_bytes c.in-IncludesRules.is)) c.ruled_down.ensures

pub stated-returns-in-Includes : goal.stated-returns-in-Includes
stated-returns-in-Includes g t c =
    let a = c.args in
    let k = c.in-Includes in
    went_along _ _ (lines.stated-includes (opener_of a.room a.at.now.dir) a.at.now a.state (in_bytes a.line) k.text.now (ap in_bytes k.is)) c.included.ensures

pub stated-returns-in-Rules : goal.stated-returns-in-Rules
stated-returns-in-Rules g t c =
    let a = c.args in
    let k = c.in-Rules in
    went_along _ _ (lines.stated-rules (opener_of a.room a.at.now.dir) a.at.now a.state (in_bytes a.line) k.text.now (ap in_bytes k.is)) c.ruled.ensures

pub stated-returns-in-Defines : goal.stated-returns-in-Defines
stated-returns-in-Defines g t c =
    let a = c.args in
    let k = c.in-Defines in
    went_along _ _ (lines.stated-defines (opener_of a.room a.at.now.dir) a.at.now a.state (in_bytes a.line) k.name.now k.body.now (ap in_bytes k.is)) c.defined.ensures

pub stated-returns-in-Sets : goal.stated-returns-in-Sets
stated-returns-in-Sets g t c =
    let a = c.args in
    let k = c.in-Sets in
    went_along _ _ (lines.stated-sets (opener_of a.room a.at.now.dir) a.at.now a.state (in_bytes a.line) k.name.now k.value.now (ap in_bytes k.is)) c.assigned.ensures

pub with_line-returns-in_default : goal.with_line-returns-in_default
with_line-returns-in_default g t c =
    let a = c.args in
    let opener = opener_of a.room a.at.now.dir in
    let d = c.in_default in
    let is : with_kind opener a.at.now a.before (kind_of a.line.now) ≡ plain_line opener a.at.now a.before (in_bytes c.kind_of.result) =
    ap (with_kind opener a.at.now a.before) (sym c.kind_of.ensures)
    ∙ lines.kind-other opener a.at.now a.before c.kind_of.result d.not-Compares d.not-Looks d.not-Else d.not-Endif in
    went_along _ _ is c.plain_line.ensures

pub stated-returns-in_default : goal.stated-returns-in_default
stated-returns-in_default g t c =
    let a = c.args in
    let d = c.in_default in
    went_along _ _ (lines.stated-other (opener_of a.room a.at.now.dir) a.at.now a.state a.line d.not-Complains d.not-IncludesRules d.not-Includes d.not-Rules d.not-Defines d.not-Sets)
    (went_refuses _ _ _ _ _ c.requires c.refuse.ensures)
