use Rattle.std.proofs.Common.{Some, string_bytes}
use Rattle.std.proofs.lemmas.Map.Text.{btree_map_updates_text}
use Rattle.tough_trust.proofs.delegations.index.Index.insert.Goals as goal

pub returns : goal.returns
returns c = λ i q. btree_map_updates_text (string_bytes c.args.name) c.args.self.now.numbers c.insert.new.self (Some (Some c.args.number)) c.in_ok-insert.ensures.updates q i
