use Rattle.std.proofs.Common.{◌≡◌, ap, arith}
use Rattle.std.specs.BTreeMap.{get_by_text}
use Rattle.std.proofs.lemmas.Map.Text.{text_keys}
use Rattle.tough_checks.specs.StoredDocuments.{content}
use Rattle.tough_vault.proofs.memory.MemoryStore.fill.Goals as goal

pub returns-in-Ok-insert-clause-elsewhere : goal.returns-in-Ok-insert-clause-elsewhere
returns-in-Ok-insert-clause-elsewhere c = λ cs ne.
    let same : get_by_text c.insert.new.self cs ≡ get_by_text c.args.self.now.files cs = grind (arith, text_keys) in
    ap content same
