use Rattle.std.proofs.Common.{rules, ◌≡◌, Result, Ok, Err, string_bytes, refl, sym, ap, subst, inl, inr, ◌∙◌}
use Rattle.tough_roles.specs.Signature.{signed_doc}
use Rattle.tough_schema.specs.Putting.{IsOpenIn}
use Rattle.tough_schema.specs.Whole.{tree_doc, held_doc}
use Rattle.tough_trust.specs.Failure.{Failure, failure_of, step_failure}
use Rattle.tough_trust.specs.View.{step_doc}
use Rattle.tough_trust.specs.delegations.Bare.{held_as}
use Rattle.tough_update.specs.Stages.{with_role}
use Rattle.tough_update.specs.View.{loaded_doc, targets_of}
use Rattle.tough_client.specs.Repositories.{documents_of, keeping_of, limits_of, loaded_of}
use Rattle.tough_lazy.specs.Adding.{Stores}
use Rattle.tough_lazy.specs.Documents.{AddedDoc, file_for}
use Rattle.tough_lazy.proofs.Needed.{needed-open}
use Rattle.tough_lazy.proofs.role.accept.Goals as goal

pub returns-in-Err-clause-refused : goal.returns-in-Err-clause-refused
returns-in-Err-clause-refused g c = λ name found.
    let v = found.verified in
    let r = c.args.repository.now in
    let a : AddedDoc = record { need = found.need; entry = v.entry; bytes = c.args.bytes.items; document = signed_doc tree_doc c.args.verified.document } in
    let S = Stores g.K.Keeper.keeps (g.V.Verify.verifies c.args.verifier.now) in
    let next = keeping_of c.store.new.repository in
    let file : string_bytes c.in_ok-stored.stored ≡ string_bytes c.args.verified.file = search rules in
    let failed : step_doc c.store.result ≡ Err (step_failure c.in-Err.error) = ap step_doc c.in-Err.is in
    let kept = subst (λ n. S n a.document (keeping_of r) (step_doc c.store.result) next) (file ∙ v.at.file) c.store.ensures.stored in
    let stored = subst (λ x. S (file_for (limits_of r) (documents_of r) found.need v.entry).name a.document (keeping_of r) x next) failed kept in
    record {
      documents = ap loaded_doc c.store.ensures.others.loaded;
      why = inr (inl (record {
        failure = step_failure c.in-Err.error;
        step = record { added = a; received = refl; needed = found.needed; is = v.is; stored = stored };
        told = (v.at.role, v.at.file, search rules);
      }));
    }

pub returns-clause-added : goal.returns-clause-added
returns-clause-added g c = λ name found.
    let v = found.verified in
    let r = c.args.repository.now in
    let mid = c.store.new.repository in
    let a : AddedDoc = record { need = found.need; entry = v.entry; bytes = c.args.bytes.items; document = signed_doc tree_doc c.args.verified.document } in
    let S = Stores g.K.Keeper.keeps (g.V.Verify.verifies c.args.verifier.now) in
    let file : string_bytes c.in_ok-stored.stored ≡ string_bytes c.args.verified.file = search rules in
    let done : step_doc c.store.result ≡ Ok (tt {0}) = search rules in
    let kept = subst (λ n. S n a.document (keeping_of r) (step_doc c.store.result) (keeping_of mid)) (file ∙ v.at.file) c.store.ensures.stored in
    let well = subst (λ x. S (file_for (limits_of r) (documents_of r) found.need v.entry).name a.document (keeping_of r) x (keeping_of mid)) done kept in
    let held : keeping_of mid ≡ keeping_of c.put_role.new.self = ap (λ h. h.keeping) (sym c.put_role.ensures.held) in
    let stored = subst (λ x. S (file_for (limits_of r) (documents_of r) found.need v.entry).name a.document (keeping_of r) (Ok (tt {0})) x) held well in
    let way : c.as_slice.result.now ≡ found.need.way = c.as_slice.ensures.value ∙ found.way in
    let same : documents_of mid ≡ documents_of r = ap loaded_doc c.store.ensures.others.loaded in
    let opened : IsOpenIn c.as_slice.result.now (tree_doc (targets_of (loaded_of mid)).signed) =
    subst (λ p. IsOpenIn p (tree_doc (targets_of (loaded_of mid)).signed)) (sym way)
    (subst (λ l. IsOpenIn found.need.way l.targets.role) (sym same) (needed-open name (documents_of r).targets.role found.need found.needed)) in
    let document : held_doc c.named-document.result ≡ held_as found.need.entry.name a.document = search rules in
    record {
      stored = record { added = a; received = refl; needed = found.needed; is = v.is; stored = stored };
      placed = c.in_ok-put_role.ensures.put opened
          ∙ ap (λ p. with_role p (held_doc c.named-document.result) c.args.bytes.items (documents_of mid)) way
          ∙ ap (λ h. with_role found.need.way h c.args.bytes.items (documents_of mid)) document
          ∙ ap (λ l. with_role found.need.way (held_as found.need.entry.name a.document) c.args.bytes.items l) same;
    }
