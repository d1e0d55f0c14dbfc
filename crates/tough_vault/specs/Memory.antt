use Rattle.std.specs.Prelude.{ℕ}
use Rattle.std.specs.BTreeMap.{get_by_text}
use Rattle.tough_checks.specs.StoredDocuments.{content}
use Rattle.tough_vault.specs.Stored.{Files}
use Rattle.tough_vault.specs.declared.memory.MemoryStore.{MemoryStore}

abbrev pub memory_files : MemoryStore → Files
memory_files m name = content (get_by_text m.files name)

abbrev pub memory_removals : MemoryStore → ℕ
memory_removals m = m.removals

abbrev pub memory_changes : MemoryStore → ℕ
memory_changes m = m.changes
