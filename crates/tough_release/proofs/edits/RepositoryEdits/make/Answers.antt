use Rattle.std.proofs.Common.{refl, inr, ap, option_map, subst}
use Rattle.tough_roles.specs.Root.{RootDoc, root_doc}
use Rattle.tough_roles.specs.Signature.{signed_doc}
use Rattle.tough_roles.specs.declared.root.Root.{Root}
use Rattle.tough_roles.specs.declared.signed.Signed.{Signed}
use Rattle.tough_schema.specs.Whole.{tree_doc}
use Rattle.tough_signed.specs.Holders.{by_root}
use Rattle.tough_signed.specs.Roles.{signed_of, buffer_of}
use Rattle.tough_release.specs.Edits.{release_doc}
use Rattle.tough_release.specs.Release.{IsTreeRefused}
use Rattle.tough_release.proofs.Makings.{is_made}
use Rattle.tough_release.proofs.Sets.{root_read}
use Rattle.tough_release.proofs.edits.RepositoryEdits.make.Goals as goal

pub returns-in-Ok-clause-made : goal.returns-in-Ok-clause-made
returns-in-Ok-clause-made g c =
    let root = c.args.self.root in
    let tree = c.in-Ok.tree in
    is_made g.S.Sign.key g.S.Sign.signs c.args.signers.now (release_doc c.args.self) root (root_doc c.signed.result.now.signed) (signed_doc tree_doc c.in-Some.targets) tree.filed.targets tree.filed.delegated.items tree.snapshot tree.timestamp c.with_root.result
    refl refl (root_read (signed_of root) (buffer_of root) c.args.self.rooted) (ap (λ (x : Signed Root). root_doc x.signed) c.signed.ensures) (ap (option_map (signed_doc tree_doc)) c.in-Some.is)
    c.in-Ok.ensures.files c.in-Ok.ensures.snapshot c.in-Ok.ensures.timestamp c.in-Ok.ensures.valid
    c.with_root.ensures.root c.with_root.ensures.targets c.with_root.ensures.delegated c.with_root.ensures.consistent c.with_root.ensures.snapshot c.with_root.ensures.timestamp

pub returns-clause-refused : goal.returns-clause-refused
returns-clause-refused g c =
    let e = release_doc c.args.self in
    let s = signed_doc tree_doc c.in-Some.targets in
    inr (
      s,
      ap (option_map (signed_doc tree_doc)) c.in-Some.is,
      subst (λ (d : RootDoc). IsTreeRefused g.S.Sign.key g.S.Sign.signs g.S.Sign.fails (by_root d) c.args.signers.now e.snapshot e.timestamp s c.in-Err.error) (ap (λ (x : Signed Root). root_doc x.signed) c.signed.ensures) c.in-Err.ensures.refused,
    )
