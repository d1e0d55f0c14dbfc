use Rattle.std.proofs.Common.{◌≡◌, true, false, Some, sym, ap, ◌∙◌}
use Rattle.serde_json.specs.Data.{object}
use Rattle.serde_json.proofs.Views.{view-Object}
use Rattle.tough_schema.proofs.TargetLemmas.{unless_empty-filled}
use Rattle.tough_schema.proofs.write_target.object_value.Goals as goal

pub returns : goal.returns
returns c =
    unless_empty-filled c.args.members.now.entries (λ z. let t : true ≡ false = sym (c.is_empty.ensures.1 z) ∙ c.if-is_empty.false in cc) ∙ ap (λ ms. Some (object ms)) (sym c.in_ok-copy_members.ensures) ∙ ap Some (sym (view-Object c.in_ok-copy_members.field-0))
