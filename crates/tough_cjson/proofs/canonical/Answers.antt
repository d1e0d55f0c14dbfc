use Rattle.std.proofs.Common.{◌≡◌, ◌++◌, true, ap, sym, subst, ◌∙◌, rules}
use Rattle.std.proofs.lemmas.Result.{err_from_is_err_and}
use Rattle.serde_json.specs.View.{view}
use Rattle.serde_json.specs.Written.{has_float}
use Rattle.tough_cjson.specs.declared.error.CjsonError.TheVariants.{Float}
use Rattle.tough_cjson.specs.Canon.{Canon}
use Rattle.tough_cjson.proofs.lemmas.Computed.{computed, not-computed}
use Rattle.tough_cjson.proofs.lemmas.Exactness.{one, not_refused}
use Rattle.tough_cjson.proofs.canonical.Goals as goal

pub returns-then-holds_float-clause-only : goal.returns-then-holds_float-clause-only
returns-then-holds_float-clause-only c = λ t k. let has : has_float (view c.args.value.now) ≡ true = search rules in not_refused (view c.args.value.now) t Float k has

pub returns-in_err-write-clause-only : goal.returns-in_err-write-clause-only
returns-in_err-write-clause-only c =
    let p = err_from_is_err_and c.from_residual.result c.from_residual.ensures.1 in
    λ t k. rw (p.1, p.2) (not_refused (view c.args.value.now) t c.in_err-write.field-0.0 k c.in_err-write.ensures.err)

pub returns-clause-only : goal.returns-clause-only
returns-clause-only c = λ t k.
    let told = c.in_ok-write.ensures.ok in
    let is = told.2 ∙ ap (λ s. s ++ told.0) c.new-out.ensures.items in
    is ∙ one (view c.args.value.now) told.0 t told.1 k

pub returns-then-holds_float-clause-none : goal.returns-then-holds_float-clause-none
returns-then-holds_float-clause-none c = λ other. let has : has_float (view c.args.value.now) ≡ true = search rules in not-computed (view c.args.value.now) Float has other

pub returns-in_err-write-clause-none : goal.returns-in_err-write-clause-none
returns-in_err-write-clause-none c =
    let p = err_from_is_err_and c.from_residual.result c.from_residual.ensures.1 in rw (p.1, p.2) (not-computed (view c.args.value.now) c.in_err-write.field-0.0 c.in_err-write.ensures.err)

pub returns-clause-text : goal.returns-clause-text
returns-clause-text c =
    let told = c.in_ok-write.ensures.ok in
    let is = told.2 ∙ ap (λ s. s ++ told.0) c.new-out.ensures.items in
    computed (view c.args.value.now) _ (subst (Canon (view c.args.value.now)) (sym is) told.1)
