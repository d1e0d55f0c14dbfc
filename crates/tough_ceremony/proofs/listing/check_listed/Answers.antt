use Rattle.std.proofs.Common.{refl, sym, ap, true, false, None, ◌∙◌}
use Rattle.tough_sign.specs.Making.{is_listed}
use Rattle.tough_ceremony.proofs.Rolls.{role_is, lists_at}
use Rattle.tough_ceremony.proofs.listing.check_listed.Goals as goal

pub returns-in_default-clause-refused : goal.returns-in_default-clause-refused
returns-in_default-clause-refused c = (refl, role_is c.args.root.now c.args.role None c.in_default.ensures.value)

pub returns-then-not-is_listed-clause-refused : goal.returns-then-not-is_listed-clause-refused
returns-then-not-is_listed-clause-refused c =
    lists_at c.args.root.now c.args.role c.args.id.now c.in-Some.keys.now false c.in-Some.ensures.value
    (ap (λ ids. is_listed ids c.args.id.now) (sym c.deref.ensures.value) ∙ (sym c.is_listed.ensures ∙ c.if-not-is_listed.true))

pub returns-clause-listed : goal.returns-clause-listed
returns-clause-listed c =
    lists_at c.args.root.now c.args.role c.args.id.now c.in-Some.keys.now true c.in-Some.ensures.value
    (ap (λ ids. is_listed ids c.args.id.now) (sym c.deref.ensures.value) ∙ (sym c.is_listed.ensures ∙ c.if-not-is_listed.false))
