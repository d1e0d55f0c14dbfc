use Rattle.std.proofs.Common.{◌≡◌, ℕ, List, rules, inr, subst}
use Rattle.std.specs.Path.{path_join}
use Rattle.tough_save.specs.Targets.{file_name}
use Rattle.tough_write.specs.Errors.{TellsUnsafe}
use Rattle.tough_write.specs.Listed.{is_consistent}
use Rattle.tough_write.specs.Putting.{HasPlace}
use Rattle.tough_write.proofs.Choosing.{unsafe_parent, unsafe_folder}
use Rattle.tough_write.proofs.put.Putting.place.Goals as goal

pub returns-in-Err-NoParent : goal.returns-in-Err-NoParent
returns-in-Err-NoParent c =
    let named : c.as_str.result.now ≡ file_name c.args.chosen.now.name.resolved c.args.chosen.now.sha256 (is_consistent c.args.self.now.targets.now) = search rules in
    let P : List ℕ → Type 0 = λ name. (¬ HasPlace c.args.dir.now (path_join c.args.dir.now name)) × TellsUnsafe c.args.chosen.now.name c.args.dir.now (path_join c.args.dir.now name) c.unsafe_path.result in
    inr (subst P named (unsafe_parent c.args.dir.now c.as_str.result.now c.args.chosen.now.name c.as_str-in-Err-NoParent.result.now c.unsafe_path.result c.in-Err-NoParent.path
    (rw c.in-Err-NoParent.field-0-is at c.in-Err-NoParent.ensures.misplaced) c.as_str-in-Err-NoParent.ensures.value c.unsafe_path.ensures))

pub returns-in-Err-Outside : goal.returns-in-Err-Outside
returns-in-Err-Outside c =
    let named : c.as_str.result.now ≡ file_name c.args.chosen.now.name.resolved c.args.chosen.now.sha256 (is_consistent c.args.self.now.targets.now) = search rules in
    let P : List ℕ → Type 0 = λ name. (¬ HasPlace c.args.dir.now (path_join c.args.dir.now name)) × TellsUnsafe c.args.chosen.now.name c.args.dir.now (path_join c.args.dir.now name) c.unsafe_path-in-Err-Outside.result in
    inr (subst P named (unsafe_folder c.args.dir.now c.as_str.result.now c.args.chosen.now.name c.as_str-in-Err-Outside.result.now c.unsafe_path-in-Err-Outside.result c.in-Err-Outside.path c.in-Err-Outside.field-0-1
    (rw c.in-Err-Outside.field-0-is at c.in-Err-Outside.ensures.misplaced) c.as_str-in-Err-Outside.ensures.value c.unsafe_path-in-Err-Outside.ensures))
