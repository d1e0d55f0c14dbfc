use Rattle.std.proofs.Common.{ℕ, List, rules, inl, inr, refl, subst, Err, Ok}
use Rattle.tough_save.specs.Places.{parent_of}
use Rattle.tough_write.specs.Putting.{manner_of, Lays, Settles}
use Rattle.tough_write.proofs.put.Putting.put_in.Goals as goal

pub returns-in_err-settle : goal.returns-in_err-settle
returns-in_err-settle g c = λ tells.
    let new = g.F.Files.calls c.settle.new.files in
    let place = c.in_ok-place.place in
    let e = c.in_err-settle.field-0.0 in
    let S : List ℕ → List ℕ → Type 0 = λ parent path. Settles c.args.chosen.now.name c.args.dir.now parent path (Err e) (g.F.Files.calls c.args.files.now) new in
    let P : List ℕ → Type 0 = λ parent. S parent c.path.result.now in
    let Q : List ℕ → Type 0 = λ path. S (parent_of place) path in
    inr (
      place,
      g.F.Files.calls c.args.files.now,
      (refl, c.in_ok-place.ensures),
      inl (e, subst Q c.path.ensures (subst P c.parent.ensures (c.in_err-settle.ensures tells)), search rules),
    )

pub returns : goal.returns
returns g c = λ tells.
    let mid = g.F.Files.calls c.settle.new.files in
    let place = c.in_ok-place.place in
    let u = c.in_ok-settle.field-0 in
    let S : List ℕ → List ℕ → Type 0 = λ parent path. Settles c.args.chosen.now.name c.args.dir.now parent path (Ok u) (g.F.Files.calls c.args.files.now) mid in
    let P : List ℕ → Type 0 = λ parent. S parent c.path.result.now in
    let Q : List ℕ → Type 0 = λ path. S (parent_of place) path in
    let L : List ℕ → Type 0 = λ path. Lays (manner_of c.args.self.now) c.args.input.now path c.args.chosen.now c.lay.result mid (g.F.Files.calls c.lay.new.files) in
    inr (
      place,
      g.F.Files.calls c.args.files.now,
      (refl, c.in_ok-place.ensures),
      inr (u, mid, subst Q c.path.ensures (subst P c.parent.ensures (c.in_ok-settle.ensures tells)), subst L c.path-2.ensures (c.lay.ensures tells)),
    )
