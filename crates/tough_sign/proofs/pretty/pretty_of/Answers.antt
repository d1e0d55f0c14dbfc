use Rattle.std.proofs.Common.{IsUtf8, subst}
use Rattle.tough_sign.proofs.Rereading.{pieces-back}
use Rattle.tough_sign.proofs.pretty.pretty_of.Goals as goal

pub returns-then-is_text-clause-back : goal.returns-then-is_text-clause-back
returns-then-is_text-clause-back g c = λ kept within.
    let bytes = c.in_ok-text.text.items in
    let utf8 : IsUtf8 bytes = subst IsUtf8 c.as_slice.ensures.value (c.is_text.ensures c.if-is_text.true) in
    pieces-back g.T.Role.json g.T.Role.is_read c.args.document.now bytes c.in_ok-text.ensures utf8 (λ role told. let r = c.in_ok-known.ensures c.if-known.true role told in (r.0, r.1 kept)) within
