use Rattle.std.proofs.Common.{◌↔◌, codes}
use Rattle.tough_http.specs.Answers.{AcceptsBytes, IsInSome}
use Rattle.tough_http.proofs.answer.accepts_ranges.Given as goal

-- the values that are left have the part where all have it
abbrev pub invariant-loop-value : goal.invariant-loop-value
invariant-loop-value l = IsInSome (codes "bytes") l.value-iterator ↔ AcceptsBytes l.fields
