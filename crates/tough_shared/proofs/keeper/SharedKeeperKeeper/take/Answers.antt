use Rattle.std.proofs.Common.{Ok, ap, sym, ◌∙◌, arith}
use Rattle.tough_trust.specs.View.{act_of}
use Rattle.tough_shared.specs.Lines.{begun_in, told}
use Rattle.tough_shared.specs.Receipts.{plain_of, untied}
use Rattle.tough_shared.proofs.Going.{goes_on}
use Rattle.tough_shared.proofs.Lined.{ahead, longer}
use Rattle.tough_shared.proofs.keeper.SharedKeeperKeeper.take.Goals as goal

pub invariant_of-self : goal.invariant_of-self
invariant_of-self g c =
    let k = c.args.self.now in
    let s = c.in-Ok.ensures.alone.0 in
    let seen = told k.front.seen.log in
    let n = goes_on g.S.Store.tells g.S.Store.files g.S.Store.count (g.V.Verify.verifies c.args.verifier.now) (act_of c.args.act.now) s.old s.new (Ok (plain_of c.in-Ok.receipt)) s.step in
    let a = ahead (begun_in seen) s.old.notes s.new.notes seen (told c.take.new.me.seen.log) k.own.amount c.take.new.own.amount (plain_of c.in-Ok.receipt) c.in-Ok.ensures.alone.1 n in
    record { part = c.take.ensures.parts ∙ k.part; behind = omega (arith, a.1, c.next.ensures); begun = k.begun ∙ sym (ap begun_in c.in-Ok.ensures.alone.1.after) }

pub invariant_of-self-in-Err-1 : goal.invariant_of-self-in-Err-1
invariant_of-self-in-Err-1 g c =
    let k = c.args.self.now in
    let s = c.take.ensures.alone.0 in
    let seen = told k.front.seen.log in
    let n = goes_on g.S.Store.tells g.S.Store.files g.S.Store.count (g.V.Verify.verifies c.args.verifier.now) (act_of c.args.act.now) s.old s.new (untied c.take.result) s.step in
    let le = longer (begun_in seen) s.old.notes s.new.notes seen (told c.take.new.me.seen.log) k.own.amount c.take.new.own.amount (untied c.take.result) c.take.ensures.alone.1 n in
    record { part = c.take.ensures.parts ∙ k.part; behind = omega (arith, le, k.behind); begun = k.begun ∙ sym (ap begun_in c.take.ensures.alone.1.after) }

pub returns-in-Ok : goal.returns-in-Ok
returns-in-Ok g c =
    let k = c.args.self.now in
    let s = c.in-Ok.ensures.alone.0 in
    let seen = told k.front.seen.log in
    let n = goes_on g.S.Store.tells g.S.Store.files g.S.Store.count (g.V.Verify.verifies c.args.verifier.now) (act_of c.args.act.now) s.old s.new (Ok (plain_of c.in-Ok.receipt)) s.step in
    let a = ahead (begun_in seen) s.old.notes s.new.notes seen (told c.take.new.me.seen.log) k.own.amount c.take.new.own.amount (plain_of c.in-Ok.receipt) c.in-Ok.ensures.alone.1 n in
    (s, (omega (arith, a.0, k.behind), c.next.ensures), c.in-Ok.ensures.alone.1)
