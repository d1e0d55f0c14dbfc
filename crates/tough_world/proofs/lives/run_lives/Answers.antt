use Rattle.std.proofs.Common.{◌≡◌, ◌+◌, ◌≤◌, List, [], ◌∷◌, ◌++◌, sym, ap, ◌∙◌, subst, arith}
use Rattle.std.specs.Vec.Iter.{into_iter_items}
use Rattle.tough_vault.specs.Journal.{Note, notes_of}
use Rattle.tough_world.specs.Lives.{Lives, Lived, journals_of}
use Rattle.tough_world.proofs.Turning.{journals_push, life_more, lives_push}
use Rattle.tough_world.proofs.lives.run_lives.Goals as goal

pub loop-life-preserved : goal.loop-life-preserved
loop-life-preserved g c =
    let t = g.S.Store.tells in let f = g.S.Store.files in let n = g.S.Store.count in let v = g.V.Verify.verifies c.args.verifier in
    let at = c.loop-life in
    let life = c.in-Some.life in
    let new = c.live-after.result.0 in
    let journal = c.live-after.result.2 in
    let same = at.invariant.1 in
    let lived = subst (λ w. Lived t f n (g.V.Verify.verifies w) at.store life (notes_of journal.items) new) same c.live-after.ensures.lived in
    let longer = lives_push t f n v at.yielded life (journals_of at.journals.items) (notes_of journal.items) c.args.store at.store new at.invariant.0 lived in
    let journals = sym (journals_push at.journals.items journal) ∙ ap journals_of (sym c.push_reserved.ensures.items) in (
      subst (λ (js : List (List Note)). Lives t f n v c.args.store (at.yielded ++ life ∷ []) js new) journals longer,
      c.live-after.ensures.verifier ∙ same,
      life_more c.args.lives.items at.yielded (into_iter_items at.life-iterator) (into_iter_items c.next.new.self) life at.invariant.2 c.in-Some.ensures.steps.0,
      omega (arith, at.invariant.3, c.in-Some.ensures.steps.1, c.push_reserved.ensures.len, c.push_reserved.ensures.capacity),
    )
