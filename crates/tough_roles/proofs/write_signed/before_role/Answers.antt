use Rattle.std.proofs.Common.{[], codes, subst}
use Rattle.serde_json.specs.Data.{array, no_members, member}
use Rattle.serde_json.specs.View.{items_view}
use Rattle.serde_json.proofs.Views.{view-Array}
use Rattle.tough_json.specs.Pieces.{Stands}
use Rattle.tough_roles.proofs.write_signed.before_role.Goals as goal

pub returns : goal.returns
returns c =
    let items = c.in_ok-signature_values.field-0 in
    let first = (c.in_ok-push.ensures [] c.args.form no_members c.in_ok-object.ensures).1 in
    let seen = subst (λ x. Stands [] c.args.form (member (codes "signatures") x no_members) c.push.new.self) (view-Array items) first in
    (items_view items.items, c.in_ok-signature_values.ensures, (c.in_ok-opened.ensures [] c.args.form (member (codes "signatures") (array (items_view items.items)) no_members) seen).1)
