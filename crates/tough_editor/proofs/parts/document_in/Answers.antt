use Rattle.std.proofs.Common.{sym, subst}
use Rattle.tough_schema.specs.Seek.{sought}
use Rattle.tough_schema.specs.Whole.{tree_doc}
use Rattle.tough_editor.specs.Taking.{IsUnfound}
use Rattle.tough_editor.proofs.Taking.{unfound_is}
use Rattle.tough_editor.proofs.parts.document_in.Goals as goal

pub returns-in-Err-clause-refused : goal.returns-in-Err-clause-refused
returns-in-Err-clause-refused c =
    let s = sought c.args.name.now (tree_doc c.args.targets.now) in
    subst (IsUnfound c.args.name.now s) (sym c.unfound.ensures) (unfound_is c.in_ok-role_name.role_name c.args.name.now s c.in-Err.source c.in_ok-role_name.ensures.ok c.in-Err.ensures.refused)
