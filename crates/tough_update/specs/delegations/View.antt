-- The tree that grows, seen as plain data.
use Rattle.std.specs.Prelude.{ℕ, List, [], map, drop, Option, Some, None, String, string_bytes}
use Rattle.std.specs.Borrow.{Bor}
use Rattle.std.specs.declared.alloc.Global.{Global}
use Rattle.tough_roles.specs.Signature.{signed_doc, signatures_doc}
use Rattle.tough_roles.specs.Timestamp.{metafile_doc, metafiles_doc}
use Rattle.tough_roles.specs.declared.signed.Signed.{Signed}
use Rattle.tough_roles.specs.declared.snapshot.Snapshot.{Snapshot}
use Rattle.tough_roles.specs.declared.timestamp.Metafile.{Metafile}
use Rattle.tough_schema.specs.declared.targets.Targets.{Targets}
use Rattle.tough_schema.specs.declared.targets.DelegatedTargets.{DelegatedTargets}
use Rattle.tough_schema.specs.Tree.{Entry}
use Rattle.tough_schema.specs.Whole.{HeldDoc, tree_doc, held_doc}
use Rattle.tough_update.specs.declared.delegations.look.Look.{Look}
use Rattle.tough_update.specs.declared.delegations.look.Look.TheVariants as seen
use Rattle.tough_trust.specs.delegations.Indexed.{Index}
use Rattle.tough_trust.specs.View.{index_doc}
use Rattle.tough_update.specs.declared.delegations.turns.Task.{Task}
use Rattle.tough_update.specs.declared.delegations.turns.Stop.{Stop}
use Rattle.tough_update.specs.declared.delegations.growth.Growth.{Growth}
use Rattle.tough_update.specs.declared.delegations.growth.Progress.{Progress}
use Rattle.tough_update.specs.declared.delegations.growth.Progress.TheVariants as step
use Rattle.tough_update.specs.delegations.Numbered as numbered
use Rattle.tough_update.specs.delegations.Numbered.{last_roles}
use Rattle.tough_update.specs.delegations.Placed.{placed_doc}
use Rattle.tough_update.specs.delegations.Growing as plain
use Rattle.tough_update.specs.delegations.Growing.{Metas, Fetched, TaskDoc, WorkDoc}

abbrev pub metas_of : Snapshot → Metas
metas_of s = metafiles_doc s.meta.entries

-- the targets, as the document of a role without a name
abbrev pub top_held : Signed Targets → HeldDoc
top_held s = record { name = []; signatures = signatures_doc s.signatures.items; below = tree_doc s.signed }

abbrev pub fetched_doc : List (String Global × Signed DelegatedTargets) → Fetched
fetched_doc es = map (λ e. (string_bytes e.0, held_doc e.1)) es

-- ---- the parts of the work

-- the roles of the last document, from this place on
abbrev pub waiting_in : numbered.Nodes → ℕ → List Entry
waiting_in ns at = drop at (last_roles ns)

abbrev pub look_doc : List Entry → Look → plain.Look
look_doc es seen.Through = plain.through
look_doc es (seen.Unlisted name) = plain.unlisted (string_bytes name)
look_doc es (seen.Wanted at m) = plain.wanted (drop at es) (metafile_doc m.now)

abbrev pub task_doc : Task → TaskDoc
task_doc t = record { node = t.node; at = t.at; fetched = fetched_doc t.fetched.entries }

abbrev pub turn_doc : numbered.Nodes → Index → Option (ℕ × Bor Metafile) → plain.Turn
turn_doc ns index None = plain.past ns index
turn_doc ns index (Some (at, m)) = plain.stopped ns (waiting_in ns at) (metafile_doc m.now) index

abbrev pub turns_doc : numbered.Nodes → Index → Option Stop → plain.Turns
turns_doc ns index None = plain.all_past ns index
turns_doc ns index (Some s) = plain.stopped_at ns (task_doc s.task) (waiting_in ns s.at) (metafile_doc s.entry.now) index

abbrev pub work_doc : Growth → WorkDoc
work_doc g = record {
  nodes = placed_doc g.nodes;
  outer = map task_doc g.outer.items;
  index = index_doc g.index;
  fetched = fetched_doc g.fetched.entries;
  waiting = waiting_in (placed_doc g.nodes) g.at;
}

abbrev pub progress_doc : Progress → plain.Progress
progress_doc (step.Wants g m) = plain.wants (work_doc g) (metafile_doc m.now)
progress_doc (step.Grown s) = plain.grown (signed_doc tree_doc s)
