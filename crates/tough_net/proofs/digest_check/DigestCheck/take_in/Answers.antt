use Rattle.std.proofs.Common.{◌≡◌, ◌++◌, List, ℕ, rules, subst}
use Rattle.tough_net.specs.Digests.{digests_of, HasTakenIn}
use Rattle.tough_net.specs.Items.{bytes_of}
use Rattle.tough_net.proofs.digest_check.DigestCheck.take_in.Goals as goal

pub returns-in-Ok-clause-fed : goal.returns-in-Ok-clause-fed
returns-in-Ok-clause-fed g c = λ m h.
    let same : c.as_slice.result.now ≡ bytes_of c.args.item.now = search rules in
    let T : List ℕ → Type 0 = λ l. HasTakenIn (digests_of c.args.self.now.digests) c.update.new.self (m ++ l) in
    subst T same (c.update.ensures (digests_of c.args.self.now.digests) m h)
