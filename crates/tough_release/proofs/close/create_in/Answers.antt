use Rattle.std.proofs.Common.{option_map}
use Rattle.tough_roles.specs.Root.{root_doc}
use Rattle.tough_roles.specs.Signature.{signed_doc}
use Rattle.tough_schema.specs.Whole.{tree_doc}
use Rattle.tough_signed.specs.Holders.{holder_doc}
use Rattle.tough_edit.specs.Edits.{edits_doc}
use Rattle.tough_release.proofs.Closings.{created_in, uncreated_in, unheld_in}
use Rattle.tough_release.proofs.close.create_in.Goals as goal

pub returns-in-Err-clause-refused : goal.returns-in-Err-clause-refused
returns-in-Err-clause-refused g c =
    unheld_in g.S.Sign.key g.S.Sign.signs g.S.Sign.fails c.args.signers.now (root_doc c.args.root.now) (option_map (signed_doc tree_doc) c.args.targets.now) (edits_doc c.args.editor.now) c.name.result.now c.in-Err.error c.name.ensures c.in-Err.ensures.refused

pub returns-clause-created : goal.returns-clause-created
returns-clause-created g c =
    created_in g.S.Sign.key g.S.Sign.signs g.S.Sign.fails c.args.signers.now (root_doc c.args.root.now) (option_map (signed_doc tree_doc) c.args.targets.now) (edits_doc c.args.editor.now) c.name.result.now (holder_doc c.in-Ok.holder) c.create_signed_for.result
    c.name.ensures c.in-Ok.ensures.holder c.create_signed_for.ensures.signed

pub returns-clause-refused : goal.returns-clause-refused
returns-clause-refused g c =
    uncreated_in g.S.Sign.key g.S.Sign.signs g.S.Sign.fails c.args.signers.now (root_doc c.args.root.now) (option_map (signed_doc tree_doc) c.args.targets.now) (edits_doc c.args.editor.now) c.name.result.now (holder_doc c.in-Ok.holder) c.create_signed_for.result
    c.name.ensures c.in-Ok.ensures.holder c.create_signed_for.ensures.refused
