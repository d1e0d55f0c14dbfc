use Rattle.std.proofs.Common.{chars, string_bytes, ap, sym, ◌∙◌}
use Rattle.std.proofs.lemmas.Result.{err_from_is_err_and}
use Rattle.tough_names.specs.Items.{parts_of}
use Rattle.tough_names.specs.Grammar.{parts_in}
use Rattle.tough_names.proofs.lemmas.Patterns.{is_pattern, no_pattern}
use Rattle.tough_names.proofs.pattern.PathPattern.new.Goals as goal

pub returns-in_err-items-clause-refuses : goal.returns-in_err-items-clause-refuses
returns-in_err-items-clause-refuses c =
    let p = err_from_is_err_and c.from_residual.result c.from_residual.ensures.1 in
    let same = ap chars c.as_str.ensures.value in
    rw (p.1, p.2) (λ other.
    let e = c.in_err-items.ensures.err other in
    (e.0, no_pattern (chars (string_bytes c.args.text)) (sym (ap parts_in same) ∙ e.1)))

pub returns-clause-accepts : goal.returns-clause-accepts
returns-clause-accepts c =
    let same = ap chars c.as_str.ensures.value in
    is_pattern (chars (string_bytes c.args.text)) (parts_of c.in_ok-items.items.items) (sym (ap parts_in same) ∙ c.in_ok-items.ensures.ok)
