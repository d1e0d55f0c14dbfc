-- How much an update fetched, and how much of it stands in the tree, as far as that has grown.
use Rattle.std.specs.Prelude.{ℕ, ◌+◌, ◌-◌, ◌^◌, min, length, Bool, true, false, if◌then◌else◌, Ok}
use Rattle.tough_schema.specs.Whole.{TreeDoc}
use Rattle.tough_schema.specs.Entries.{entries, documents_below}
use Rattle.tough_update.specs.declared.counts.Counts.{Counts}
use Rattle.tough_update.specs.delegations.Numbered.{last_number}
use Rattle.tough_update.specs.delegations.Growing.{WorkDoc}
use Rattle.tough_update.specs.growth.Tallies.{counted_tally}
use Rattle.tough_update.specs.Stages.{StageDoc}
use Rattle.tough_update.specs.Stages as at
use Rattle.tough_update.specs.Answered.{AnswerDoc}
use Rattle.tough_update.specs.Answered as got

abbrev pub none_yet : Counts
none_yet = record { roots = 0; delegated = 0; kept = 0; entries = 0 }

-- one more, up to the largest number of 64 bits
abbrev pub one_more : ℕ → ℕ
one_more n = min (n + 1) (2 ^ 64 - 1)

-- an answer to a fetch
abbrev pub ends_fetch : AnswerDoc → Bool
ends_fetch (got.Bytes bytes) = true
ends_fetch (got.NotStarted f) = true
ends_fetch (got.Cut f) = true
ends_fetch _ = false

-- with the fetch of a root, or of a delegated document, that this answers
abbrev pub with_fetch : StageDoc → AnswerDoc → Counts → Counts
with_fetch (at.Fetch (at.Root w) r) a n = if ends_fetch a then record n { roots = one_more n.roots } else n
with_fetch (at.Fetch (at.Role k roles listed) r) a n = if ends_fetch a then record n { delegated = one_more n.delegated } else n
with_fetch _ a n = n

-- with the documents that have their place, and the roles that these and the targets list
abbrev pub with_work : WorkDoc → Counts → Counts
with_work w n = record n { kept = last_number w.nodes; entries = counted_tally w.nodes }

-- with the documents and the roles below targets
abbrev pub with_roles : TreeDoc → Counts → Counts
with_roles t n = record n { kept = length (documents_below t); entries = length (entries t) }

-- with the tree, as far as it has grown; after a failure, what was counted before it stands
abbrev pub with_tree : StageDoc → Counts → Counts
with_tree (at.Fetch (at.Role k roles listed) r) n = with_work roles.work n
with_tree (at.Step (at.PutDelegated k roles name d)) n = with_work roles.work n
with_tree (at.Done (Ok l)) n = with_roles l.targets.role n
with_tree _ n = n
