use Rattle.std.proofs.Common.{refl, sym, ap, true, false, None, ◌∙◌}
use Rattle.tough_sign.specs.Making.{is_listed}
use Rattle.tough_ceremony.proofs.Rolls.{role_is, lists_at}
use Rattle.tough_ceremony.proofs.listing.more_keyids.Goals as goal

pub returns-in_default-clause-refused : goal.returns-in_default-clause-refused
returns-in_default-clause-refused c = (refl, role_is c.args.root.now c.args.role None c.in_default.ensures.value)

pub returns-then-is_listed-clause-refused : goal.returns-then-is_listed-clause-refused
returns-then-is_listed-clause-refused c =
    lists_at c.args.root.now c.args.role c.args.id.now c.in-Some.keys.now true c.in-Some.ensures.value
    (ap (λ ids. is_listed ids c.args.id.now) (sym c.deref.ensures.value) ∙ (sym c.is_listed.ensures ∙ c.if-is_listed.true))

pub returns-clause-more : goal.returns-clause-more
returns-clause-more c = (
  lists_at c.args.root.now c.args.role c.args.id.now c.in-Some.keys.now false c.in-Some.ensures.value
      (ap (λ ids. is_listed ids c.args.id.now) (sym c.deref.ensures.value) ∙ (sym c.is_listed.ensures ∙ c.if-is_listed.false)),
  c.in_ok-all.ensures,
)
