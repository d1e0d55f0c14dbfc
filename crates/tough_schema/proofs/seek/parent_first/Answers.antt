use Rattle.std.proofs.Common.{rules, ◌≡◌, Option, true, false, string_bytes, refl, sym, ap, arith}
use Rattle.std.specs.Option.{option_or}
use Rattle.std.specs.Str.{bytes_eq}
use Rattle.tough_schema.specs.declared.delegations.DelegatedRole.{out-DelegatedRole}
use Rattle.tough_schema.specs.declared.seek.Level.{Level}
use Rattle.tough_schema.specs.Whole.{DelegationsTree}
use Rattle.tough_schema.specs.Seek.{first_named}
use Rattle.tough_schema.specs.Seeking.{all_standing}
use Rattle.tough_schema.proofs.Seeks.{count-roles, level-here, level-bare, level-below, level_work-push, count-first}
use Rattle.tough_schema.proofs.seek.parent_first.Goals as goal

pub returns-then-eq-clause-parent : goal.returns-then-eq-clause-parent
returns-then-eq-clause-parent c =
    let same : bytes_eq (string_bytes (out-DelegatedRole c.in-Some.role.now).name) c.args.name.now ≡ true = search rules in
    let more = first_named c.args.name.now (all_standing c.args.levels.now.items) in
    ap (λ (o : Option DelegationsTree). option_or o more) (sym (level-here c.args.name.now c.args.level c.in-Some.others.now c.in-Some.role.now c.in-Some.ensures.cases.0 same))

pub returns-clause-parent : goal.returns-clause-parent
returns-clause-parent c =
    let other : bytes_eq (string_bytes (out-DelegatedRole c.in-Some.role.now).name) c.args.name.now ≡ false = search rules in
    let next : Level = record { all = c.args.level.all; roles = c.in-Some.others } in
    level-below c.args.name.now c.args.level next c.args.levels.now.items c.push.new.self.items c.add_level.new.levels.items c.in-Some.role.now c.in-Some-targets.signed
    c.in-Some.ensures.cases.0 refl c.in_ok-push.ensures.items other c.in-Some-targets.is (c.in_ok-add_level.ensures.standing c.args.name.now)

pub returns-clause-fewer : goal.returns-clause-fewer
returns-clause-fewer c =
    let next : Level = record { all = c.args.level.all; roles = c.in-Some.others } in
    omega (
      arith,
      level_work-push c.args.levels.now.items c.push.new.self.items next c.in_ok-push.ensures.items,
      c.in_ok-add_level.ensures.few,
      count-first c.args.level.roles.now c.in-Some.others.now c.in-Some.role.now c.in-Some-targets.signed c.in-Some.ensures.cases.0 c.in-Some-targets.is,
    )

pub returns-in_default-targets-clause-parent : goal.returns-in_default-targets-clause-parent
returns-in_default-targets-clause-parent c =
    let other : bytes_eq (string_bytes (out-DelegatedRole c.in-Some.role.now).name) c.args.name.now ≡ false = search rules in
    let next : Level = record { all = c.args.level.all; roles = c.in-Some.others } in
    level-bare c.args.name.now c.args.level next c.args.levels.now.items c.push.new.self.items c.in-Some.role.now
    c.in-Some.ensures.cases.0 refl c.in_ok-push.ensures.items other c.in_default-targets.is

pub returns-in_default-targets-clause-fewer : goal.returns-in_default-targets-clause-fewer
returns-in_default-targets-clause-fewer c =
    let next : Level = record { all = c.args.level.all; roles = c.in-Some.others } in
    omega (
      arith,
      level_work-push c.args.levels.now.items c.push.new.self.items next c.in_ok-push.ensures.items,
      count-roles c.args.level.roles.now c.in-Some.others.now c.in-Some.role.now c.in-Some.ensures.cases.0,
    )
