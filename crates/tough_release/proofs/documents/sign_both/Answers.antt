use Rattle.std.proofs.Common.{inl, inr, subst}
use Rattle.tough_roles.specs.Root.{RootDoc}
use Rattle.tough_signed.specs.Holders.{by_root}
use Rattle.tough_release.specs.Documents.{snapshot_metas, timestamp_metas}
use Rattle.tough_release.specs.Edits.{heading_doc}
use Rattle.tough_release.specs.Release.{IsSnapshotBy, IsSnapshotRefused, IsTimestampRefused}
use Rattle.tough_release.proofs.documents.sign_both.Goals as goal

pub returns-in-Err-clause-refused : goal.returns-in-Err-clause-refused
returns-in-Err-clause-refused g c =
    inr (inl (subst (λ (r : RootDoc). IsSnapshotRefused g.S.Sign.key g.S.Sign.signs g.S.Sign.fails (by_root r) c.args.signers.now (heading_doc c.args.first) (snapshot_metas c.args.filed.now.targets c.args.filed.now.delegated.items) c.in-Err.error) c.in_ok-root.ensures.cases c.in-Err.ensures.refused))

pub returns-clause-refused : goal.returns-clause-refused
returns-clause-refused g c =
    inr (inr (
      c.in-Ok.snapshot,
      subst (λ (r : RootDoc). IsSnapshotBy g.S.Sign.key g.S.Sign.signs (by_root r) c.args.signers.now (heading_doc c.args.first) (snapshot_metas c.args.filed.now.targets c.args.filed.now.delegated.items) c.in-Ok.snapshot) c.in_ok-root.ensures.cases c.in-Ok.ensures.signed,
      subst (λ (r : RootDoc). IsTimestampRefused g.S.Sign.key g.S.Sign.signs g.S.Sign.fails (by_root r) c.args.signers.now (heading_doc c.args.second) (timestamp_metas c.in-Ok.snapshot) c.in-Err-sign_timestamp.error) c.in_ok-root.ensures.cases c.in-Err-sign_timestamp.ensures.refused,
    ))
