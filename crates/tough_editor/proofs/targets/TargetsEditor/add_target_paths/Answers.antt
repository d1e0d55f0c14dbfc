use Rattle.tough_editor.proofs.targets.TargetsEditor.add_target_paths.Goals as goal

pub returns-in-Err-clause-refused : goal.returns-in-Err-clause-refused
returns-in-Err-clause-refused g c = λ tells.
    let h = c.in-Err.ensures.refused tells in
    (c.in-Err.error, (_, h), c.wide.ensures)
