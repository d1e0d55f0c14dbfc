use Rattle.std.proofs.Common.{◌∙◌, arith}
use Rattle.tough_modular.specs.Number.{number}
use Rattle.tough_rsa.proofs.Keys.{modulus_facts, odd_last, octets_number_least, not_root, root_is, all_bits}
use Rattle.tough_rsa.proofs.signature.is_root.Goals as goal

pub set_power-requires-clause-odd : goal.set_power-requires-clause-odd
set_power-requires-clause-odd c = odd_last c.args.n.now (omega arith) ∙ (modulus_facts c.args.n.now c.requires.modulus).odd

pub set_power-requires-clause-top : goal.set_power-requires-clause-top
set_power-requires-clause-top c = octets_number_least c.args.n.now (omega arith) (modulus_facts c.args.n.now c.requires.modulus).first

pub returns-then-not-set_power : goal.returns-then-not-set_power
returns-then-not-set_power c = not_root c.args.n.now c.args.e c.args.message.now c.args.signature.now c.set_power.result c.set_power.ensures.below c.if-not-set_power.true

pub is_encoding-requires-clause-below : goal.is_encoding-requires-clause-below
is_encoding-requires-clause-below c =
    all_bits c.args.n.now c.bits_of.result (number c.set_power.new.root) (modulus_facts c.args.n.now c.requires.modulus) c.type_inv.n c.bits_of.ensures (c.set_power.ensures.least c.if-not-set_power.false)

pub returns : goal.returns
returns c =
    root_is c.args.n.now c.args.e c.args.message.now c.args.signature.now c.set_power.result c.is_encoding.result (number c.set_power.new.root) c.bits_of.result c.set_power.ensures.below c.if-not-set_power.false (c.set_power.ensures.power c.if-not-set_power.false) c.bits_of.ensures c.is_encoding.ensures
