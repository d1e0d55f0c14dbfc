use Rattle.std.proofs.Common.{◌∙◌, sym}
use Rattle.tough_modular.specs.Number.{number}
use Rattle.tough_rsa.proofs.Keys.{encoding_is, no_encoding}
use Rattle.tough_rsa.proofs.signature.is_encoding_in.Goals as goal

pub returns-then-byte_of-ne0 : goal.returns-then-byte_of-ne0
returns-then-byte_of-ne0 c =
    let b = rw c.requires.length at c.byte_of.ensures in
    no_encoding c.args.message.now (number c.args.words.now) c.args.bits (λ e. c.if-byte_of-ne0.true (b ∙ e))

pub returns : goal.returns
returns c =
    let b = rw c.requires.length at c.byte_of.ensures in
    encoding_is c.args.message.now c.set_bytes.new.bytes (number c.args.words.now) c.args.bits c.emsa_pss_verify.result c.emsa_pss_verify.ensures (rw c.requires.length at c.set_bytes.ensures) c.requires.below (sym b ∙ c.if-byte_of-ne0.false)
