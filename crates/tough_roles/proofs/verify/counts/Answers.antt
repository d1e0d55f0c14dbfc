use Rattle.std.proofs.Common.{◌≡◌, true, false, sym, ap, ◌∙◌, ◌&&◌}
use Rattle.std.specs.List.{list_any}
use Rattle.std.specs.Str.{bytes_eq}
use Rattle.tough_roles.specs.Root.{keys_doc}
use Rattle.tough_roles.specs.Counting.{bytes_of, under, key_of}
use Rattle.tough_roles.proofs.Counts.{list_any-map}
use Rattle.tough_roles.proofs.verify.counts.Goals as goal

pub returns-then-has : goal.returns-then-has
returns-then-has g c =
    let k = c.args.signature.now.keyid.bytes in
    let listed : list_any (λ id. bytes_eq id k) (bytes_of c.args.listed.now.keyids.now) ≡ true = list_any-map (λ id. bytes_eq id k) (λ d. d.bytes) c.args.listed.now.keyids.now ∙ sym c.has.ensures ∙ c.if-has.true in
    c.is_signed.ensures ∙ ap (λ b. b && under (g.V.Verify.verifies c.args.verifier.now) c.args.text.now c.args.signature.now.sig.bytes (key_of (keys_doc c.args.keys.now.entries) k)) (sym listed)

pub returns-else-has : goal.returns-else-has
returns-else-has g c =
    let k = c.args.signature.now.keyid.bytes in
    let listed : list_any (λ id. bytes_eq id k) (bytes_of c.args.listed.now.keyids.now) ≡ false = list_any-map (λ id. bytes_eq id k) (λ d. d.bytes) c.args.listed.now.keyids.now ∙ sym c.has.ensures ∙ c.if-has.false in
    c.if-has.false ∙ ap (λ b. b && under (g.V.Verify.verifies c.args.verifier.now) c.args.text.now c.args.signature.now.sig.bytes (key_of (keys_doc c.args.keys.now.entries) k)) (sym listed)
