use Rattle.serde_json.specs.View.{view}
use Rattle.tough_roles.specs.Timestamp.{timestamp_doc}
use Rattle.tough_roles.proofs.lemmas.Timestamp.{timestamp-back}
use Rattle.tough_roles.proofs.timestamp.TimestampRole.to_value.Goals as goal

pub returns-clause-back : goal.returns-clause-back
returns-clause-back c = λ kept. timestamp-back (timestamp_doc c.args.self.now) (view c.in_ok-value.value) c.args.self.now.expires.in_range c.in_ok-value.ensures
