use Rattle.std.proofs.Common.{sym, ap, ◌∙◌}
use Rattle.tough_roles.proofs.Listing.{turned, some_has}
use Rattle.tough_roles.proofs.Seen.{contained, stands}
use Rattle.tough_roles.proofs.verify.Listed.has.Goals as goal

pub returns : goal.returns
returns c =
    c.contains.ensures
    ∙ contained (λ k. k.now) c.args.self.now.bytes.keys c.as_slice.result
    ∙ ap (stands (λ k. k.now) c.args.self.now.bytes.keys) c.as_slice.ensures
    ∙ c.args.self.now.same c.args.keyid.now.bytes
    ∙ sym (turned (λ d. d.bytes) c.args.self.now.keyids.now c.args.keyid.now.bytes)
