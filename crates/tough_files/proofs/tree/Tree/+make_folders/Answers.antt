use Rattle.std.proofs.Common.{◌≡◌, ◌<◌, Some, arith, rules, length}
use Rattle.std.proofs.lemmas.Grind.{common_steps}
use Rattle.std.specs.Path.{path_parent, path_components}
use Rattle.tough_files.specs.Calls.{done_or}
use Rattle.tough_files.specs.Tree.{contents_of}
use Rattle.tough_files.proofs.Folders.{grown, passed_on, shorter}
use Rattle.tough_files.proofs.tree.Tree.+make_folders.Goals as goal

pub make_folders-requires : goal.make_folders-requires
make_folders-requires t c =
    let parent : path_parent c.args.path.now ≡ Some c.as_str.result.now = grind (arith, common_steps) in
    let less : length (path_components c.as_str.result.now) < length (path_components c.args.path.now) = shorter c.args.path.now c.as_str.result.now parent in
    (search rules, tt)

pub returns-in-Ok : goal.returns-in-Ok
returns-in-Ok t c =
    let parent : path_parent c.args.path.now ≡ Some c.as_str.result.now = grind (arith, common_steps) in
    grown c.args.path.now c.as_str.result.now (contents_of c.args.self.now) (contents_of c.make_folders.new.self) (contents_of c.make_folder.new.self) parent c.in-Ok.ensures (done_or c.make_folder.result) c.make_folder.ensures

pub returns-in-Err : goal.returns-in-Err
returns-in-Err t c =
    let parent : path_parent c.args.path.now ≡ Some c.as_str.result.now = grind (arith, common_steps) in
    passed_on c.args.path.now c.as_str.result.now (contents_of c.args.self.now) (contents_of c.make_folders.new.self) c.in-Err.e parent c.in-Err.ensures
