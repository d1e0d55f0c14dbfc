use Rattle.std.proofs.Common.{◌≡◌, true, rules, arith}
use Rattle.std.proofs.lemmas.Grind.{common_steps}
use Rattle.tough_rsa.specs.Rsa.{is_modulus, is_exponent}
use Rattle.tough_rsa.proofs.Keys.{modulus_facts, exponent_some}
use Rattle.tough_rsa.proofs.signature.verify.Goals as goal

pub is_root-requires-clause-least : goal.is_root-requires-clause-least
is_root-requires-clause-least c = let m : is_modulus c.args.n.now ≡ true = first_of (search rules, grind (arith, common_steps)) in (modulus_facts c.args.n.now m).least

pub is_root-requires-clause-most : goal.is_root-requires-clause-most
is_root-requires-clause-most c = let m : is_modulus c.args.n.now ≡ true = first_of (search rules, grind (arith, common_steps)) in (modulus_facts c.args.n.now m).most

pub is_root-requires-clause-exponent : goal.is_root-requires-clause-exponent
is_root-requires-clause-exponent c = let m : is_exponent c.args.e ≡ true = first_of (search rules, grind (arith, common_steps)) in exponent_some c.args.e m
