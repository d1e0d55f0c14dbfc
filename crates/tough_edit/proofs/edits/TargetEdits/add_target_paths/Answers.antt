use Rattle.std.proofs.Common.{◌∙◌, rules}
use Rattle.tough_edit.specs.Edits.{edits_doc}
use Rattle.tough_edit.proofs.Adding.{added_step, step_of, some_first, stopped_at}
use Rattle.tough_edit.proofs.edits.TargetEdits.add_target_paths.Goals as goal

pub returns-in_err-add_target_path-clause-some : goal.returns-in_err-add_target_path-clause-some
returns-in_err-add_target_path-clause-some g c =
    let h = some_first c.args.paths.now c.loop-path.path-index (edits_doc c.args.self.now) (edits_doc c.loop-path.self) (edits_doc c.add_target_path.new.self) c.loop-path.invariant.0 c.in_err-add_target_path.ensures.unchanged in
    search rules

pub returns-in_err-add_target_path-clause-refused : goal.returns-in_err-add_target_path-clause-refused
returns-in_err-add_target_path-clause-refused g c = λ tells.
    let h = stopped_at (g.F.Files.contents c.args.files.now) (g.F.Files.contents c.loop-path.files) c.args.paths.now c.loop-path.path-index _ (edits_doc c.args.self.now) (edits_doc c.loop-path.self) (edits_doc c.add_target_path.new.self) _ c.loop-path-test.true (c.loop-path.invariant.2 tells) (c.loop-path.invariant.1 tells) c.in_err-add_target_path.ensures.unchanged (c.in_err-add_target_path.ensures.refused tells) in
    search rules

pub loop-path-preserved : goal.loop-path-preserved
loop-path-preserved g c = (
  added_step c.args.paths.now c.loop-path.path-index _ (edits_doc c.args.self.now) (edits_doc c.loop-path.self) (edits_doc c.add_target_path.new.self) c.loop-path-test.true c.loop-path.invariant.0 c.in_ok-add_target_path.ensures.added,
  λ tells. step_of (g.F.Files.contents c.args.files.now) (g.F.Files.contents c.loop-path.files) c.args.paths.now c.loop-path.path-index _ (edits_doc c.args.self.now) (edits_doc c.loop-path.self) (edits_doc c.add_target_path.new.self) c.loop-path-test.true (c.loop-path.invariant.2 tells) (c.loop-path.invariant.1 tells) (c.in_ok-add_target_path.ensures.target tells),
  λ tells path. c.in_ok-add_target_path.ensures.kept tells path ∙ c.loop-path.invariant.2 tells path,
)
