use Rattle.std.proofs.Common.{rules}
use Rattle.serde_json.specs.Data.{no_members}
use Rattle.tough_json.proofs.borrowed.+is_value.Goals as goal

pub have_values-loop-member-init : goal.have_values-loop-member-init
have_values-loop-member-init t c = (no_members, search rules)
