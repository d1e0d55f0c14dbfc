use Rattle.std.proofs.Common.{◌≡◌, ap, arith}
use Rattle.std.specs.BTreeMap.{get_by_text}
use Rattle.std.proofs.lemmas.Map.Text.{text_keys}
use Rattle.tough_checks.specs.StoredDocuments.{content}
use Rattle.tough_vault.proofs.memory.MemoryStore.take_away.Goals as goal

pub returns-clause-elsewhere : goal.returns-clause-elsewhere
returns-clause-elsewhere c = λ cs ne.
    let same : get_by_text c.remove.new.self cs ≡ get_by_text c.args.self.now.files cs = grind (arith, text_keys) in
    ap content same
