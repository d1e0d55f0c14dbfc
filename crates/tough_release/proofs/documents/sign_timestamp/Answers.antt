use Rattle.tough_roles.specs.Timestamp.{metafiles_doc}
use Rattle.tough_signed.specs.Holders.{holder_doc}
use Rattle.tough_release.specs.Documents.{timestamp_metas}
use Rattle.tough_release.specs.Edits.{heading_doc}
use Rattle.tough_release.proofs.Makings.{timestamp_by, timestamp_refused}
use Rattle.tough_release.proofs.documents.sign_timestamp.Goals as goal

pub returns-clause-signed : goal.returns-clause-signed
returns-clause-signed g c =
    timestamp_by g.S.Sign.key g.S.Sign.signs g.S.Sign.fails (holder_doc c.args.holder.now) c.args.signers.now (heading_doc c.args.heading) (metafiles_doc c.in_ok-metas.metas.entries) (timestamp_metas c.args.snapshot.now) c.in-Ok.timestamp c.new.result
    c.in_ok-metas.ensures c.in-Ok.ensures.built c.new.ensures.role c.new.ensures.signed c.new.ensures.file (c.new.ensures.back tt)

pub returns-clause-refused : goal.returns-clause-refused
returns-clause-refused g c =
    timestamp_refused g.S.Sign.key g.S.Sign.signs g.S.Sign.fails (holder_doc c.args.holder.now) c.args.signers.now (heading_doc c.args.heading) (metafiles_doc c.in_ok-metas.metas.entries) (timestamp_metas c.args.snapshot.now) c.in-Ok.timestamp c.new.result
    c.in_ok-metas.ensures c.in-Ok.ensures.built c.new.ensures.refused
