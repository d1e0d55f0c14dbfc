use Rattle.std.proofs.Common.{◌≡◌, ◌∙◌, ◌++◌, ◌-◌, [], sym, ap, rules, chars, arith, IsUtf8, subst, encode_utf8}
use Rattle.std.proofs.Output.{has_written_append, has_written_of_eq}
use Rattle.std.proofs.lemmas.Str.{chars_past_char, IsUtf8-past_char}
use Rattle.std.specs.Str.Iter.{chars_rest}
use Rattle.tough_net.specs.Shown.{mark, shown_of, printable}
use Rattle.tough_net.proofs.Showing.{one-more, none-left, some-left, no-bytes}
use Rattle.tough_net.proofs.shown.write_printable.Goals as goal

pub loop-shown-init : goal.loop-shown-init
loop-shown-init g c = (subst IsUtf8 (sym c.chars-rest.ensures.rest) c.utf8.text, λ plain. ([], search rules, ap (λ text. shown_of 1024 (chars text)) c.chars-rest.ensures.rest))

pub returns-in_default : goal.returns-in_default
returns-in_default g c = λ plain ok.
    let so = c.loop-shown.invariant.1 plain in
    has_written_of_eq _ _ _ _ _ (none-left (1024 - c.loop-shown._shown) so.0 (chars (chars_rest c.loop-shown.rest)) (printable c.args.text.now) (no-bytes (chars_rest c.loop-shown.rest) c.in_default.ensures.steps.0.0) so.2) so.1

pub loop-shown-preserved : goal.loop-shown-preserved
loop-shown-preserved g c =
    let rest = chars_rest c.loop-shown.rest in
    let later = chars_rest c.next.new.self in
    let ch = c.in-Some.c in
    let valid = c.loop-shown.invariant.0 in
    let comes : rest ≡ encode_utf8 ch ++ later = c.in-Some.ensures.steps.0 in (
      IsUtf8-past_char rest later ch valid comes,
      λ plain.
          let so = c.loop-shown.invariant.1 plain in (
            so.0 ++ mark ch,
            has_written_append _ _ _ _ _ _ so.1 (search rules),
            one-more c.loop-shown._shown so.0 (chars later) ch c.loop-shown-test.true
                ∙ ap (λ cs. so.0 ++ shown_of (1024 - c.loop-shown._shown) cs) (sym (chars_past_char rest later ch valid comes)) ∙ so.2,
          ),
    )

pub returns-in-Some-next : goal.returns-in-Some-next
returns-in-Some-next g c = λ plain ok.
    let rest = chars_rest c.loop-shown.rest in
    let later = chars_rest c.next-2.new.self in
    let so = c.loop-shown.invariant.1 plain in
    let done : 1024 - c.loop-shown._shown ≡ 0 = omega (arith, c.loop-shown-test.false) in
    has_written_of_eq _ _ _ _ _ (some-left so.0 (chars rest) (chars later) (printable c.args.text.now) c.in-Some-next.field-0
    (chars_past_char rest later c.in-Some-next.field-0 c.loop-shown.invariant.0 c.in-Some-next.ensures.steps.0)
    (subst (λ n. so.0 ++ shown_of n (chars rest) ≡ printable c.args.text.now) done so.2))
    (has_written_append _ _ _ _ _ _ so.1 (search rules))

pub returns-in-None : goal.returns-in-None
returns-in-None g c = λ plain ok.
    let so = c.loop-shown.invariant.1 plain in
    has_written_of_eq _ _ _ _ _ (none-left (1024 - c.loop-shown._shown) so.0 (chars (chars_rest c.loop-shown.rest)) (printable c.args.text.now) (no-bytes (chars_rest c.loop-shown.rest) c.in-None.ensures.steps.0.0) so.2) so.1
