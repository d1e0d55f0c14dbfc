use Rattle.std.proofs.Common.{string_bytes, rules}
use Rattle.jiff_fmt.specs.Text.{date_text, time_text}
use Rattle.tough_json.specs.Moment.{decimals}
use Rattle.tough_json.proofs.MomentLemmas.{is_shown, not_shown, civil_text-parts, parse_timestamp-moment}
use Rattle.tough_json.proofs.MomentText.{moment_text-moment, moment_text-before}
use Rattle.tough_json.proofs.moment.moment_text.Goals as goal

pub returns-then-year-lt0-clause-text : goal.returns-then-year-lt0-clause-text
returns-then-year-lt0-clause-text c = moment_text-before c.args.instant.nanosecond (c.to_datetime-civil.result, search rules, not_shown c.to_datetime-civil.result.date.year (search rules))

pub returns-clause-text : goal.returns-clause-text
returns-clause-text c =
    let d = c.to_datetime-civil.result in
    let text = civil_text-parts (string_bytes c.new-out.result) (date_text d.date) (time_text (decimals d.time.subsec_nanosecond) d.time)
    (string_bytes c.push_date.new.out) (string_bytes c.push.new.self) (string_bytes c.push_time.new.out) (string_bytes c.push-2.new.self) (search rules) (search rules) (search rules) (search rules) (search rules) in
    moment_text-moment c.args.instant.nanosecond (string_bytes c.push-2.new.self) (d, search rules, is_shown d.date.year (search rules), text)

pub returns-clause-back : goal.returns-clause-back
returns-clause-back c =
    let d = c.to_datetime-civil.result in
    let text = civil_text-parts (string_bytes c.new-out.result) (date_text d.date) (time_text (decimals d.time.subsec_nanosecond) d.time)
    (string_bytes c.push_date.new.out) (string_bytes c.push.new.self) (string_bytes c.push_time.new.out) (string_bytes c.push-2.new.self) (search rules) (search rules) (search rules) (search rules) (search rules) in
    parse_timestamp-moment c.args.instant.nanosecond (string_bytes c.push-2.new.self) c.args.instant.in_range (d, search rules, is_shown d.date.year (search rules), text)
