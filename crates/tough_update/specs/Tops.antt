-- An update that loads the top-level documents alone (TUF specification 1.0, section 5.6).
use Rattle.std.specs.Prelude.{◌≡◌, [], ⊤, Ok}
use Rattle.tough_roles.specs.Signature.{SignedDoc}
use Rattle.tough_schema.specs.Whole.{TreeDoc}
use Rattle.tough_trust.specs.delegations.Bare.{bare, top_page}
use Rattle.tough_update.specs.Stages.{StageDoc}
use Rattle.tough_update.specs.Stages as at

-- no role of the tree has a document
abbrev pub IsBare : SignedDoc TreeDoc → Type 0
IsBare d = d ≡ bare (top_page d)

-- No document of a delegated role is fetched or stored here, none was received, and none stands in the tree.
abbrev pub AsksNoRole : StageDoc → Type 0
AsksNoRole (at.Fetch (at.Role k roles listed) r) = ⊥
AsksNoRole (at.Step (at.PutDelegated k roles name d)) = ⊥
AsksNoRole (at.Step (at.PutTargets k d)) = IsBare d
AsksNoRole (at.Done (Ok l)) = IsBare l.targets × (l.received ≡ [])
AsksNoRole _ = ⊤
