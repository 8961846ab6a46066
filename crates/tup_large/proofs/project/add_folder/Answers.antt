use Rattle.std.proofs.Common.{◌≡◌, ◌++◌, ◌∷◌, [], List, ap, ◌∙◌}
use Rattle.tup_path.specs.Name.{Names, Content}
use Rattle.tup_large.specs.Project.{folder_name, folder_tupfile, sources}
use Rattle.tup_large.proofs.Each.{both}
use Rattle.tup_large.proofs.project.add_folder.Goals as goal

pub returns : goal.returns
returns c =
    let folder = folder_name c.args.number in
    let start = c.args.files.now.items in
    let first : c.as_str.result.now ≡ folder = c.as_str.ensures.bytes ∙ c.in_ok-folder.ensures in
    let again : c.as_str-2.result.now ≡ folder = c.as_str-2.ensures.bytes ∙ c.in_ok-folder.ensures in
    both start c.push.new.self.items c.add_sources.new.files.items (folder_tupfile folder ∷ []) (sources folder)
    (c.in_ok-push.ensures.items ∙ ap (λ (file : Names × Content). start ++ file ∷ []) (c.in_ok-folder_tupfile.ensures ∙ ap folder_tupfile first))
    (c.in_ok-add_sources.ensures ∙ ap (λ (list : List (Names × Content)). c.push.new.self.items ++ list) (ap sources again))
