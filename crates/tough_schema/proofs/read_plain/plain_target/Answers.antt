use Rattle.std.proofs.Common.{sym, ap, ◌∙◌}
use Rattle.json.specs.Value.{members_view as json_members}
use Rattle.serde_json.specs.Data.{object, no_members}
use Rattle.serde_json.specs.Read.{of_members}
use Rattle.tough_schema.specs.Target.{target_at}
use Rattle.tough_schema.proofs.Firsts.{object-members}
use Rattle.tough_schema.proofs.Plains.{found-as}
use Rattle.tough_schema.proofs.read_plain.plain_target.Goals as goal

pub returns-in-Some : goal.returns-in-Some
returns-in-Some c =
    found-as c.stated.result _ _ (λ x read d h.
    let ms = object-members c.args.part.now c.in-Object.members d c.in-Object.is h in
    let two = c.in-Some.ensures ms.0 (ap (λ l. of_members (json_members l) no_members) c.deref.ensures.value ∙ ms.1) in
    ap target_at (sym ms.2 ∙ ap object two.4) ∙ read two.1 two.0 two.3 two.2) c.stated.ensures

pub returns-in-Some-pair : goal.returns-in-Some-pair
returns-in-Some-pair c =
    found-as c.stated-in-Some-pair.result _ _ (λ x read d h.
    let ms = object-members c.args.part.now c.in-Object.members d c.in-Object.is h in
    let two = c.in-Some-pair.ensures ms.0 (ap (λ l. of_members (json_members l) no_members) c.deref-2.ensures.value ∙ ms.1) in
    ap target_at (sym ms.2 ∙ ap object two.4) ∙ read two.0 two.1 two.2 two.3) c.stated-in-Some-pair.ensures
