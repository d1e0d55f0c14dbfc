use Rattle.std.proofs.Common.{ℕ, List, rules, subst, Err, Ok}
use Rattle.tough_write.specs.Filling.{IsPutIn}
use Rattle.tough_write.specs.Writing.{file_doc, WritesRole}
use Rattle.tough_write.proofs.Wrote.{WritesNamed}
use Rattle.tough_write.proofs.Each.{each_end, each_fails, each_goes, each_map}
use Rattle.tough_write.proofs.Filled.{fills_end, fills_goes}
use Rattle.tough_write.proofs.write.write_roles.Goals as goal

pub loop-role-init : goal.loop-role-init
loop-role-init g c = record { calls = λ tells r new h. h; contents = λ tells after h. h }

pub returns-in_err-write_role-clause-calls : goal.returns-in_err-write_role-clause-calls
returns-in_err-write_role-clause-calls g c = λ tells.
    let calls = g.F.Files.calls in
    let new = calls c.write_role.new.files in
    let e = c.in_err-write_role.field-0.0 in
    let does = WritesNamed c.args.outdir.now in
    let P : List ℕ → Type 0 = λ name. WritesRole c.args.outdir.now (name, c.role-item.result.bytes.now) (Err e) (calls c.loop-role.files) new in
    let failed = subst P c.as_str.ensures.value (c.in_err-write_role.ensures.calls tells) in
    let all = each_map (WritesRole c.args.outdir.now) file_doc c.args.roles.now (Err e) (calls c.args.files.now) new
    (c.loop-role.invariant.calls tells (Err e) new (each_fails does c.args.roles.now c.loop-role.role-index c.role-item.result (calls c.loop-role.files) new c.loop-role-test.true c.role-item.is e failed)) in
    search rules

pub returns-clause-calls : goal.returns-clause-calls
returns-clause-calls g c = λ tells.
    let calls = g.F.Files.calls in
    let does = WritesNamed c.args.outdir.now in
    each_map (WritesRole c.args.outdir.now) file_doc c.args.roles.now (Ok tt) (calls c.args.files.now) (calls c.loop-role.files)
    (c.loop-role.invariant.calls tells (Ok tt) (calls c.loop-role.files) (each_end does c.args.roles.now c.loop-role.role-index (calls c.loop-role.files) c.loop-role-test.false))

pub returns-clause-contents : goal.returns-clause-contents
returns-clause-contents g c = λ tells.
    let contents = g.F.Files.contents c.loop-role.files in
    c.loop-role.invariant.contents tells contents (fills_end c.args.outdir.now c.args.roles.now c.loop-role.role-index contents c.loop-role-test.false)

pub loop-role-preserved : goal.loop-role-preserved
loop-role-preserved g c = record {
  calls = λ tells r new h.
      let calls = g.F.Files.calls in
      let does = WritesNamed c.args.outdir.now in
      let u = c.in_ok-write_role.field-0 in
      let P : List ℕ → Type 0 = λ name. WritesRole c.args.outdir.now (name, c.role-item.result.bytes.now) (Ok u) (calls c.loop-role.files) (calls c.write_role.new.files) in
      c.loop-role.invariant.calls tells r new (each_goes does c.args.roles.now c.loop-role.role-index c.role-item.result (calls c.loop-role.files) (calls c.write_role.new.files) c.loop-role-test.true c.role-item.is u r new
      (subst P c.as_str.ensures.value (c.in_ok-write_role.ensures.calls tells)) h);
  contents = λ tells after h.
      let contents = g.F.Files.contents in
      let P : List ℕ → Type 0 = λ name. IsPutIn c.args.outdir.now (name, c.role-item.result.bytes.now) (contents c.loop-role.files) (contents c.write_role.new.files) in
      c.loop-role.invariant.contents tells after (fills_goes c.args.outdir.now c.args.roles.now c.loop-role.role-index c.role-item.result (contents c.loop-role.files) (contents c.write_role.new.files) after c.loop-role-test.true c.role-item.is
      (subst P c.as_str.ensures.value (c.in_ok-write_role.ensures.contents tells)) h);
}
