use Rattle.std.proofs.Common.{◌≡◌, ◌++◌, ◌∷◌, [], false, subst}
use Rattle.tough_decoded.specs.Spelled.{Spelled}
use Rattle.tough_roles.specs.Root.{root_doc}
use Rattle.tough_ceremony.specs.Listing.{Lists}
use Rattle.tough_ceremony.proofs.listing.place_of.Goals as goal

pub returns-clause-place : goal.returns-clause-place
returns-clause-place c =
    let own = c.in_ok-id.ensures.own in
    let more = subst (λ (i : Spelled). (free : Lists c.args.role i false (root_doc c.args.root.now)) × (c.in_ok-keyids.keyids.items ≡ free.keys.keyids ++ i ∷ [])) own.2 c.in_ok-keyids.ensures.more in
    (own.0, own.1, own.2, more.0, more.1)
