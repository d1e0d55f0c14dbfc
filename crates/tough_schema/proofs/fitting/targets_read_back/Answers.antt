use Rattle.std.proofs.Common.{IsTrue, rules}
use Rattle.serde_json.specs.View.{view, members_view}
use Rattle.serde_json.specs.declared.value.Value.TheVariants as values
use Rattle.tough_schema.specs.Targets.{targets_doc}
use Rattle.tough_schema.proofs.Orders.{targets-orderly}
use Rattle.tough_schema.proofs.fitting.targets_read_back.Goals as goal

pub returns-in-Ok : goal.returns-in-Ok
returns-in-Ok c = λ known d told.
    let fit : IsTrue c.are_fit.result = search rules in
    let found = c.in-Ok.ensures in (
      targets-orderly (view values.Null) (targets_doc c.args.targets.now) (members_view c.in-Ok.members.entries) d found.written (c.has_order.ensures known) (c.are_fit.ensures.fit fit) told,
      record { names_rise = c.are_fit.ensures.ordered fit; keys_rise = found.ordered },
    )
