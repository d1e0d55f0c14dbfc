use Rattle.tough_schema.proofs.Looks.{document-some, document-none}
use Rattle.tough_schema.proofs.nodes.document_of.Goals as goal

pub returns-in-Some : goal.returns-in-Some
returns-in-Some c = document-some c.args.role.now c.in-Some.signed c.in-Some.is

pub returns-in-None : goal.returns-in-None
returns-in-None c = document-none c.args.role.now c.in-None.is
