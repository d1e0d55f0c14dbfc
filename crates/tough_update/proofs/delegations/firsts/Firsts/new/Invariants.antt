use Rattle.std.proofs.Common.{◌≡◌, ℕ, List, drop}
use Rattle.std.specs.BTreeMap.{get_by_text}
use Rattle.std.specs.List.{position_from}
use Rattle.std.specs.Str.{bytes_eq}
use Rattle.tough_schema.specs.Tree.{Entry}
use Rattle.tough_trust.specs.delegations.Dressed.{entries_of}
use Rattle.tough_update.proofs.delegations.firsts.Firsts.new.Given as goal

-- the roles that were seen are those from this place on
abbrev pub invariant-loop-at : goal.invariant-loop-at
invariant-loop-at l = (name : List ℕ) → get_by_text l.places name ≡ position_from (λ (e : Entry). bytes_eq e.name name) l.at (drop l.at (entries_of l.roles))
