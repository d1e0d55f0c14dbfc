use Rattle.std.specs.Prelude.{string_bytes}
use Rattle.std.proofs.lemmas.Map.Text.{btree_map_updates_text}
use Rattle.tough_net.proofs.memory.MemoryTransport.insert.Goals as goal

pub returns-clause-ok : goal.returns-clause-ok
returns-clause-ok c = λ other.
    rw c.in_ok-url.ensures.ok at (btree_map_updates_text (string_bytes c.in_ok-url.url) c.args.self.now.files c.insert.new.self _ c.in_ok-insert.ensures.updates other)
