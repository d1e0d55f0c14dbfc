use Rattle.serde_json.specs.View.{view}
use Rattle.tough_keys.specs.Key.{key_doc}
use Rattle.tough_keys.proofs.lemmas.Key.{key-back}
use Rattle.tough_keys.proofs.key.Key.to_value.Goals as goal

pub returns-clause-back : goal.returns-clause-back
returns-clause-back c = key-back (key_doc c.args.self.now) (view c.in_ok-value.value) c.in_ok-value.ensures
