use Rattle.std.proofs.Common.{rules, ◌++◌, map}
use Rattle.std.specs.BTreeMap.{keys}
use Rattle.tough_client.specs.Plans.{turns_in}
use Rattle.tough_client.specs.declared.plan.Turn.TheVariants as turn
use Rattle.tough_client.proofs.Planned.{target_next}
use Rattle.tough_client.proofs.plan.Plan.add_all.Goals as goal

pub loop-name-preserved : goal.loop-name-preserved
loop-name-preserved g c = (
  tt,
  tt,
  search rules,
  target_next c.loop-name.name-iterator c.next.new.self c.in-Some.name.now c.in_ok-clone.field-0 (turns_in c.loop-name.self) (turns_in c.push.new.self)
      (turns_in c.args.self.now ++ map turn.Target (keys c.args.listed.now))
      c.in-Some.ensures.steps c.in_ok-clone.ensures.cases c.in_ok-push.ensures.turns c.loop-name.invariant.3,
)
