use Rattle.std.proofs.Common.{rules, List, ℕ, [], Bor, get_or}
use Rattle.std.specs.BTreeMap.{get_by}
use Rattle.std.specs.Ordering.{nat_cmp}
use Rattle.std.specs.Cmp.Lexicographic.{slice_cmp}
use Rattle.tough_update.specs.View.{received_docs}
use Rattle.tough_client.specs.Plans.{turns_in}
use Rattle.tough_client.proofs.Planned.{role_next}
use Rattle.tough_client.proofs.plan.Plan.add_roles.Goals as goal

pub loop-name-preserved : goal.loop-name-preserved
loop-name-preserved c = (
  search rules,
  let names = c.args.names.now in
      let i = c.loop-name.name-index in
      let d : Bor (List ℕ) = record { ref_ptr = (0, 0); now = [] } in
      let name = (get_or names i d).now in
      role_next (received_docs c.args.received.now) names i d c.loop-name-test.true (turns_in c.loop-name.self) (turns_in c.add_role.new.self)
      _ (get_by (λ k. slice_cmp nat_cmp name k.now) c.in_ok-places.places)
      c.in_ok-add_role.ensures.turns (c.in_ok-places.ensures name) c.loop-name.invariant.1,
)
