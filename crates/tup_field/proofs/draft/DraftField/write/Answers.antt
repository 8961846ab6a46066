use Rattle.tup_field.specs.Parts.{◌&◌, number, list, option}
use Rattle.tup_field.specs.Values.{truth, path}
use Rattle.tup_field.specs.Rules.{group, piece}
use Rattle.tup_field.proofs.Written.{written_then}
use Rattle.tup_field.proofs.draft.DraftField.write.Goals as goal

pub returns : goal.returns
returns c =
    let draft = c.args.self.now in
    let new = c.write-10.new.bytes in
    let result = c.write-10.result in
    let behind_outputs = written_then (list group) (option group) draft.groups draft.gives c.write-8.new.bytes c.write-9.new.bytes new result c.in_ok-write-9.ensures c.write-10.ensures in
    let behind_order = written_then (list path) (list group & option group) draft.outputs (draft.groups, draft.gives) c.write-7.new.bytes c.write-8.new.bytes new result c.in_ok-write-8.ensures behind_outputs in
    let behind_inputs = written_then (list path) (list path & list group & option group) draft.order (draft.outputs, (draft.groups, draft.gives)) c.write-6.new.bytes c.write-7.new.bytes new result c.in_ok-write-7.ensures behind_order in
    let behind_compare = written_then (list path) (list path & list path & list group & option group) draft.inputs (draft.order, (draft.outputs, (draft.groups, draft.gives))) c.write-5.new.bytes c.write-6.new.bytes new result c.in_ok-write-6.ensures behind_inputs in
    let behind_display = written_then truth (list path & list path & list path & list group & option group) draft.compare (draft.inputs, (draft.order, (draft.outputs, (draft.groups, draft.gives)))) c.write-4.new.bytes c.write-5.new.bytes new result c.in_ok-write-5.ensures behind_compare in
    let behind_pieces = written_then (option (list piece)) (truth & list path & list path & list path & list group & option group) draft.display (draft.compare, (draft.inputs, (draft.order, (draft.outputs, (draft.groups, draft.gives))))) c.write-3.new.bytes c.write-4.new.bytes new result c.in_ok-write-4.ensures behind_display in
    let behind_line = written_then (list piece) (option (list piece) & truth & list path & list path & list path & list group & option group) draft.pieces (draft.display, (draft.compare, (draft.inputs, (draft.order, (draft.outputs, (draft.groups, draft.gives)))))) c.write-2.new.bytes c.write-3.new.bytes new result c.in_ok-write-3.ensures behind_pieces in
    let behind_file = written_then number (list piece & option (list piece) & truth & list path & list path & list path & list group & option group) draft.line (draft.pieces, (draft.display, (draft.compare, (draft.inputs, (draft.order, (draft.outputs, (draft.groups, draft.gives))))))) c.write.new.bytes c.write-2.new.bytes new result c.in_ok-write-2.ensures behind_line in
    written_then path (number & list piece & option (list piece) & truth & list path & list path & list path & list group & option group) draft.file (draft.line, (draft.pieces, (draft.display, (draft.compare, (draft.inputs, (draft.order, (draft.outputs, (draft.groups, draft.gives)))))))) c.args.bytes.now c.write.new.bytes new result c.in_ok-write.ensures behind_file
