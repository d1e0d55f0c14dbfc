use Rattle.std.proofs.Common.{◌≡◌, [], true}
use Rattle.serde_json.specs.View.{members_view}
use Rattle.tough_json.specs.Table.{table_from}
use Rattle.tough_json.proofs.TableLemmas.{docs}
use Rattle.tough_json.proofs.table.table_of.Given as goal

-- what all members make is what those left make of the entries that were found
abbrev pub invariant-loop-name : goal.invariant-loop-name
invariant-loop-name g l =
    (goal.iterator-loop-name g).can_next l.name-iterator ×
    (goal.iterator-loop-name g).is_finite l.name-iterator ×
    (table_from (λ there. true) g.K.Ord.cmp g.T.FromEntry.at [] (members_view l.fn.members.entries) ≡ table_from (λ there. true) g.K.Ord.cmp g.T.FromEntry.at (docs g.T.FromEntry.doc l.table.entries) (members_view l.name-iterator))
