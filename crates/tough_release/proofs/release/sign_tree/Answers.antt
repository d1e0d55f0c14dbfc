use Rattle.std.proofs.Common.{inl, inr, ap, subst, ◌∙◌}
use Rattle.tough_roles.specs.Signature.{SignedDoc}
use Rattle.tough_roles.specs.declared.signed.Signed.{Signed}
use Rattle.tough_schema.specs.Whole.{TreeDoc, tree_doc}
use Rattle.tough_schema.specs.declared.targets.Targets.{Targets}
use Rattle.tough_release.specs.Release.{IsPathless}
use Rattle.tough_release.proofs.release.sign_tree.Goals as goal

pub returns-in-Err-clause-refused : goal.returns-in-Err-clause-refused
returns-in-Err-clause-refused g c = inl c.in-Err.ensures.refused

pub returns-in-Err-sign_both-clause-refused : goal.returns-in-Err-sign_both-clause-refused
returns-in-Err-sign_both-clause-refused g c = inr (c.in-Ok.filed.targets, c.in-Ok.filed.delegated.items, c.in-Ok.ensures.filed, inl c.in-Err-sign_both.ensures.refused)

pub returns-in-Err-check_paths-clause-refused : goal.returns-in-Err-check_paths-clause-refused
returns-in-Err-check_paths-clause-refused g c =
    let same = ap (λ (x : Signed Targets). tree_doc x.signed) c.signed.ensures ∙ ap (λ (x : SignedDoc TreeDoc). x.role) c.in-Ok.ensures.filed.targets in
    inr (
      c.in-Ok.filed.targets,
      c.in-Ok.filed.delegated.items,
      c.in-Ok.ensures.filed,
      inr (
        c.in-Ok-sign_both.both.0,
        c.in-Ok-sign_both.both.1,
        c.in-Ok-sign_both.ensures.snapshot,
        c.in-Ok-sign_both.ensures.timestamp,
        subst (λ (t : TreeDoc). IsPathless t c.in-Err-check_paths.error) same c.in-Err-check_paths.ensures.refused,
      ),
    )
