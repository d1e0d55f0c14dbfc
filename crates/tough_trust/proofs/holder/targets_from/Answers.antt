use Rattle.std.proofs.Common.{Ok, ap, sym, ◌∙◌}
use Rattle.tough_checks.specs.Checks.{enforces}
use Rattle.tough_roles.specs.Signature.{signed_doc}
use Rattle.tough_schema.specs.Targets.{targets_doc}
use Rattle.tough_schema.specs.Whole.{tree_doc}
use Rattle.tough_trust.proofs.lemmas.Bare.{signed-bare}
use Rattle.tough_trust.specs.Listed.{parsed}
use Rattle.tough_trust.specs.View.{holder_doc}
use Rattle.tough_trust.proofs.lemmas.Judging.{judged-after}
use Rattle.tough_trust.proofs.holder.targets_from.Goals as goal

pub returns : goal.returns
returns g c =
    let page = signed_doc targets_doc c.in_ok-targets.targets in
    judged-after (g.V.Verify.verifies c.args.checker.now.verifier.now) (enforces c.args.checker.now.enforcement) c.args.checker.now.start.nanosecond (holder_doc c.args.holder.now) c.args.listed c.args.bytes.items page (ap parsed (sym c.as_slice.ensures.value) ∙ c.in_ok-targets.ensures.read) c.in_ok-written.ensures.checked
    ∙ ap Ok (sym (signed-bare c.in_ok-targets.targets c.in_ok-targets.ensures.fresh)) ∙ ap (λ s. Ok (signed_doc tree_doc s)) (sym c.in_ok-written.ensures.same)
