use Rattle.std.proofs.Common.{◌≡◌, ℕ, ◌+◌, ◌-◌, List, rules, arith, inl, inr, refl, sym, subst, Ok, Err, String, string_bytes}
use Rattle.std.specs.declared.alloc.Global.{Global}
use Rattle.std.specs.Path.{path_join}
use Rattle.tough_write.specs.declared.error.OutputError.TheVariants as error
use Rattle.tough_write.specs.Putting.{manner_of}
use Rattle.tough_write.specs.Steps.{Done, EachOf}
use Rattle.tough_write.specs.Walking.{Enters, VisitsName, VisitsPath, Walks}
use Rattle.tough_write.proofs.Each.{each_end, each_fails, each_goes}
use Rattle.tough_write.proofs.Walked.{entered, too_deep}
use Rattle.tough_write.proofs.put.Putting.+walk.Goals as goal

pub visit-returns-then-left-eq0 : goal.visit-returns-then-left-eq0
visit-returns-then-left-eq0 g t c = λ tells. inr (
  c.in_ok-entry.entry,
  g.F.Files.calls c.look.new.files,
  c.in_ok-entry.ensures tells,
  too_deep (manner_of c.args.self.now) c.args.root.now c.args.path.now c.args.left c.in_ok-entry.entry c.in-Folder.is c.refusal.result _ c.if-left-eq0.true c.refusal.ensures,
)

pub visit-returns-else-left-eq0 : goal.visit-returns-else-left-eq0
visit-returns-else-left-eq0 g t c = λ tells.
    let some = c.if-left-eq0.false in
    let more : c.args.left ≡ (c.args.left - 1) + 1 = omega (arith, some) in
    inr (
      c.in_ok-entry.entry,
      g.F.Files.calls c.look.new.files,
      c.in_ok-entry.ensures tells,
      entered (manner_of c.args.self.now) c.args.root.now c.args.path.now c.args.left c.in_ok-entry.entry c.in-Folder.is (c.args.left - 1) c.walk.result _ _ more (c.walk.ensures tells),
    )

pub walk-returns-in_err-join : goal.walk-returns-in_err-join
walk-returns-in_err-join g t c = λ tells.
    let calls = g.F.Files.calls in
    let m = manner_of c.args.self.now in
    let does = VisitsName m c.args.root.now (Enters m c.args.root.now c.args.left) c.args.dir.now in
    let now = calls c.loop-name.files in
    let P : List (String Global) → Type 0 = λ xs. EachOf does xs (Err error.Memory) (calls c.names_in.new.files) now in
    let Q : Done → Type 0 = λ r. Walks m c.args.root.now c.args.left c.args.dir.now r (calls c.args.files.now) now in
    let is : c.from_residual-in_err-join.result ≡ Err error.Memory = search rules in
    let all = c.loop-name.invariant tells (Err error.Memory) now (each_fails does c.deref-name-items.result.now c.loop-name.name-index c.name-item.result now now c.loop-name-test.true c.name-item.is error.Memory (inl (refl, refl))) in
    subst Q (sym is) (inr (c.in_ok-names.names, calls c.names_in.new.files, c.in_ok-names.ensures tells, subst P c.deref-name-items.ensures.value all))

pub walk-returns-in_err-visit : goal.walk-returns-in_err-visit
walk-returns-in_err-visit g t c = λ tells.
    let calls = g.F.Files.calls in
    let m = manner_of c.args.self.now in
    let does = VisitsName m c.args.root.now (Enters m c.args.root.now c.args.left) c.args.dir.now in
    let before = calls c.loop-name.files in
    let now = calls c.visit.new.files in
    let e = c.in_err-visit.field-0.0 in
    let P : List (String Global) → Type 0 = λ xs. EachOf does xs (Err e) (calls c.names_in.new.files) now in
    let Q : Done → Type 0 = λ r. Walks m c.args.root.now c.args.left c.args.dir.now r (calls c.args.files.now) now in
    let V : List ℕ → Type 0 = λ path. VisitsPath m c.args.root.now c.args.left path (Err e) before now in
    let at : c.as_str-in-loop-name.result.now ≡ path_join c.args.dir.now (string_bytes c.name-item.result) = search rules in
    let is : c.from_residual-in_err-visit.result ≡ Err e = search rules in
    let all = c.loop-name.invariant tells (Err e) now (each_fails does c.deref-name-items.result.now c.loop-name.name-index c.name-item.result before now c.loop-name-test.true c.name-item.is e (inr (subst V at (c.in_err-visit.ensures tells)))) in
    subst Q (sym is) (inr (c.in_ok-names.names, calls c.names_in.new.files, c.in_ok-names.ensures tells, subst P c.deref-name-items.ensures.value all))

pub walk-returns : goal.walk-returns
walk-returns g t c = λ tells.
    let calls = g.F.Files.calls in
    let m = manner_of c.args.self.now in
    let does = VisitsName m c.args.root.now (Enters m c.args.root.now c.args.left) c.args.dir.now in
    let now = calls c.loop-name.files in
    let P : List (String Global) → Type 0 = λ xs. EachOf does xs (Ok tt) (calls c.names_in.new.files) now in
    let all = c.loop-name.invariant tells (Ok tt) now (each_end does c.deref-name-items.result.now c.loop-name.name-index now c.loop-name-test.false) in
    inr (c.in_ok-names.names, calls c.names_in.new.files, c.in_ok-names.ensures tells, subst P c.deref-name-items.ensures.value all)

pub walk-loop-name-preserved : goal.walk-loop-name-preserved
walk-loop-name-preserved g t c = λ tells r later h.
    let calls = g.F.Files.calls in
    let m = manner_of c.args.self.now in
    let does = VisitsName m c.args.root.now (Enters m c.args.root.now c.args.left) c.args.dir.now in
    let before = calls c.loop-name.files in
    let now = calls c.visit.new.files in
    let u = c.in_ok-visit.field-0 in
    let V : List ℕ → Type 0 = λ path. VisitsPath m c.args.root.now c.args.left path (Ok u) before now in
    let at : c.as_str-in-loop-name.result.now ≡ path_join c.args.dir.now (string_bytes c.name-item.result) = search rules in
    c.loop-name.invariant tells r later (each_goes does c.deref-name-items.result.now c.loop-name.name-index c.name-item.result before now c.loop-name-test.true c.name-item.is u r later (inr (subst V at (c.in_ok-visit.ensures tells))) h)
