use Rattle.tough_roles.specs.Timestamp.{metafiles_doc}
use Rattle.tough_signed.specs.Holders.{holder_doc}
use Rattle.tough_release.specs.Documents.{snapshot_metas}
use Rattle.tough_release.specs.Edits.{heading_doc}
use Rattle.tough_release.proofs.Makings.{snapshot_by, snapshot_refused}
use Rattle.tough_release.proofs.documents.sign_snapshot.Goals as goal

pub returns-clause-signed : goal.returns-clause-signed
returns-clause-signed g c =
    snapshot_by g.S.Sign.key g.S.Sign.signs g.S.Sign.fails (holder_doc c.args.holder.now) c.args.signers.now (heading_doc c.args.heading) (metafiles_doc c.in_ok-metas.metas.entries) (snapshot_metas c.args.filed.now.targets c.args.filed.now.delegated.items) c.in-Ok.snapshot c.new.result
    c.in_ok-metas.ensures c.in-Ok.ensures.built c.new.ensures.role c.new.ensures.signed c.new.ensures.file (c.new.ensures.back tt)

pub returns-clause-refused : goal.returns-clause-refused
returns-clause-refused g c =
    snapshot_refused g.S.Sign.key g.S.Sign.signs g.S.Sign.fails (holder_doc c.args.holder.now) c.args.signers.now (heading_doc c.args.heading) (metafiles_doc c.in_ok-metas.metas.entries) (snapshot_metas c.args.filed.now.targets c.args.filed.now.delegated.items) c.in-Ok.snapshot c.new.result
    c.in_ok-metas.ensures c.in-Ok.ensures.built c.new.ensures.refused
