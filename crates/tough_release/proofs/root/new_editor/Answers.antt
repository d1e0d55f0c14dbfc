use Rattle.tough_roles.specs.Root.{root_doc}
use Rattle.tough_release.proofs.Beginning.{begun_is}
use Rattle.tough_release.proofs.root.new_editor.Goals as goal

pub returns : goal.returns
returns c = begun_is c.from_targets.result (root_doc c.args.root.now) (root_doc c.in_ok-root.root) c.new-targets.result _ c.new-targets.ensures c.in_ok-root.ensures.cases c.from_targets.ensures
