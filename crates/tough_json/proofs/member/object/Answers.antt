use Rattle.std.proofs.Common.{◌≡◌, Some, refl, sym, ap, ◌∙◌}
use Rattle.serde_json.specs.Data.{object}
use Rattle.serde_json.specs.Find.{get_member}
use Rattle.serde_json.specs.View.{view, members_view}
use Rattle.serde_json.proofs.Views.{view-Object}
use Rattle.tough_json.proofs.member.object.Goals as goal

pub returns-in-Some-Object : goal.returns-in-Some-Object
returns-in-Some-Object c =
    let found : get_member c.args.name.now (members_view c.args.members.now.entries) ≡ Some (object (members_view c.in-Some-Object.inner.entries)) =
    sym c.in-Some-Object.ensures.value ∙ ap (λ v. Some (view v)) c.in-Some-Object.field-0-is ∙ ap Some (view-Object c.in-Some-Object.inner) in
    rw (c.in-Some-Object.inner-is, found, c.take.ensures.left) refl
