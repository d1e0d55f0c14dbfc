use Rattle.std.proofs.Common.{◌≡◌, ◌∙◌, [], ◌∷◌, is_some, true, false, sym, ap}
use Rattle.tough_p256.specs.Nonces.{next, reseeded, candidate}
use Rattle.tough_p256.specs.Signing.{halves_by}
use Rattle.tough_p256.proofs.Candidates.{from_none, from_found, from_next}
use Rattle.tough_p256.proofs.signing.halves_from.Goals as goal

pub returns-then-is_some : goal.returns-then-is_some
returns-then-is_some c =
    let e = c.halves_by-found.ensures ∙ ap (halves_by c.args.d.now c.args.e.now) (c.candidate.ensures ∙ ap candidate c.next-generator.ensures) in
    let s : is_some c.halves_by-found.result ≡ true = cc in
    sym (c.loop-tried.invariant ∙ from_found c.loop-tried._tried c.args.d.now c.args.e.now c.loop-tried.generator c.halves_by-found.result c.loop-tried-test.true e s)

pub loop-tried-preserved : goal.loop-tried-preserved
loop-tried-preserved c =
    let e = c.halves_by-found.ensures ∙ ap (halves_by c.args.d.now c.args.e.now) (c.candidate.ensures ∙ ap candidate c.next-generator.ensures) in
    let s : is_some c.halves_by-found.result ≡ false = cc in
    let r : c.reseed-generator.result ≡ reseeded (next c.loop-tried.generator) (0 ∷ []) = cc in
    let n = from_next c.loop-tried._tried c.args.d.now c.args.e.now c.loop-tried.generator c.halves_by-found.result c.loop-tried-test.true e s in
    cc

pub returns : goal.returns
returns c = sym (c.loop-tried.invariant ∙ from_none c.loop-tried._tried c.args.d.now c.args.e.now c.loop-tried.generator c.loop-tried-test.false)
