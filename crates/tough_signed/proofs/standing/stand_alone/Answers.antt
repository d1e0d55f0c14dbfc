use Rattle.tough_schema.specs.Whole.{role_tree, held_doc}
use Rattle.tough_signed.proofs.Making.{standing_of, unfiled_alone}
use Rattle.tough_signed.proofs.standing.stand_alone.Goals as goal

pub returns-clause-refused : goal.returns-clause-refused
returns-clause-refused c = unfiled_alone (role_tree c.args.role.now).0 (held_doc c.args.document.now) c.in_ok-document.document c.in_ok-document.ensures c.from_signed.result c.from_signed.ensures.refused

pub returns-clause-standing : goal.returns-clause-standing
returns-clause-standing c = standing_of (role_tree c.args.role.now).0 (held_doc c.args.document.now) c.in_ok-document.document c.in_ok-document.ensures c.from_signed.result c.from_signed.ensures.signed c.from_signed.ensures.file c.from_signed.ensures.back
