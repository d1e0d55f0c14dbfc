use Rattle.std.proofs.Common.{refl, ap, sym, ◌∙◌, arith}
use Rattle.tough_shared.specs.Lines.{begun_in, told}
use Rattle.tough_shared.proofs.Lined.{as-long-as}
use Rattle.tough_shared.proofs.keeper.SharedKeeperKeeper.read_root.Goals as goal

pub invariant_of-self : goal.invariant_of-self
invariant_of-self g c =
    let k = c.args.self.now in
    let s = c.read_root.ensures.0 in
    let seen = told k.front.seen.log in
    let le = as-long-as (begun_in seen) s.old.notes s.new.notes seen (told c.read_root.new.me.seen.log) 0 0 (c.read_root.ensures.1 0) s.look.notes in
    record { part = k.part; behind = omega (arith, le, k.behind); begun = k.begun ∙ sym (ap begun_in (c.read_root.ensures.1 0).after) }

pub returns : goal.returns
returns g c = (c.read_root.ensures.0, refl, c.read_root.ensures.1 c.args.self.now.own.amount)
