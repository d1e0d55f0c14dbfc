use Rattle.tough_schema.specs.Whole.{tree_doc}
use Rattle.tough_schema.specs.Seek.{sought}
use Rattle.tough_schema.proofs.Seeks.{has-document, has-none, unheld-from}
use Rattle.tough_schema.proofs.targets.Targets.delegated_targets.Goals as goal

pub returns-in-Err-clause-refused : goal.returns-in-Err-clause-refused
returns-in-Err-clause-refused c =
    unheld-from c.args.name.now (sought c.args.name.now (tree_doc c.args.self.now)) c.in-Err.error c.in-Err.ensures.refused

pub returns-in-Some-clause-found : goal.returns-in-Some-clause-found
returns-in-Some-clause-found c =
    has-document (sought c.args.name.now (tree_doc c.args.self.now)) c.in-Ok.role.now c.in-Some.signed c.in-Ok.ensures.found c.in-Some.is

pub returns-in-None-clause-refused : goal.returns-in-None-clause-refused
returns-in-None-clause-refused c =
    has-none (sought c.args.name.now (tree_doc c.args.self.now)) c.in-Ok.role.now c.in-Ok.ensures.found c.in-None.is
