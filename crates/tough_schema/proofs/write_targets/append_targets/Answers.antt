use Rattle.serde_json.specs.View.{members_view}
use Rattle.tough_schema.specs.Targets.{targets_doc}
use Rattle.tough_schema.proofs.Around.{whole-text}
use Rattle.tough_schema.proofs.write_targets.append_targets.Goals as goal

pub returns : goal.returns
returns c = whole-text c.args.form _ (targets_doc c.args.targets.now) (members_view c.in_ok-members.members.entries) c.args.out.items c.in_ok-text.text.items c.in_ok-members.ensures.written c.in_ok-text.ensures
