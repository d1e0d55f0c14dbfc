-- How many roles are listed by the targets and the documents that have their place in a tree, as far as it has grown
-- (TUF specification 1.0, section 5.6.7).
use Rattle.std.specs.Prelude.{ℕ, ◌+◌, ◌-◌, ◌^◌, min, length}
use Rattle.tough_schema.specs.Update.{listed_roles}
use Rattle.tough_update.specs.delegations.Numbered.{Nodes, targets, also}
use Rattle.tough_update.specs.delegations.Growing.{WorkDoc}

abbrev pub tally : Nodes → ℕ
tally (targets h) = length (listed_roles h.below)
tally (also ns n) = length (listed_roles n.document.below) + tally ns

-- the same, up to the largest number of 64 bits
abbrev pub counted_tally : Nodes → ℕ
counted_tally ns = min (tally ns) (2 ^ 64 - 1)

abbrev pub tally_work : WorkDoc → ℕ
tally_work w = tally w.nodes
