use Rattle.std.proofs.Common.{ap, sym, ◌∙◌}
use Rattle.tough_schema.specs.Whole.{tree_doc}
use Rattle.tough_schema.specs.Seek.{seek}
use Rattle.tough_schema.proofs.Seeks.{seek-in}
use Rattle.tough_schema.proofs.seek.seek_in.Goals as goal

pub returns : goal.returns
returns c = c.in_ok-seen.ensures ∙ ap (seek c.args.name.now) c.roles_of.ensures.branches ∙ sym (seek-in c.args.name.now (tree_doc c.args.document.now))
