use Rattle.std.proofs.Common.{◌∷◌, [], ◌++◌, refl}
use Rattle.std.proofs.lemmas.Result.{on_ok_weaker}
use Rattle.tup_readings.proofs.Indexed.{file_added, none_yet}
use Rattle.tup_readings.proofs.sources.begin.Goals as goal

pub begin_names-requires : goal.begin_names-requires
begin_names-requires c = none_yet c.args.dir c.args.folders.now c.add_folders.new.folders c.in_ok-add_folders.ensures c.requires

pub returns : goal.returns
returns c =
    let dir = c.args.dir in
    let name = c.args.name in
    on_ok_weaker c.begin_names.result
    (λ named. file_added (dir ++ name ∷ []) dir name c.args.folders.now c.add_folders.new.folders c.begin_names.new.folders refl (λ paths are. c.in_ok-add_folders.ensures) named)
    c.begin_names.ensures
