use Rattle.std.proofs.Common.{codes}
use Rattle.tough_http.proofs.AnswerLemmas.{finds_part}
use Rattle.tough_http.proofs.answer.names_bytes.Goals as goal

pub returns : goal.returns
returns c = rw c.is_some.ensures (finds_part c.args.value.now (codes "bytes") c.find.result c.find.ensures)
