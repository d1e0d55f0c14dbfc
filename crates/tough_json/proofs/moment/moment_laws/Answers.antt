use Rattle.tough_json.proofs.MomentText.{moment_text-moment, moment_text-before}
use Rattle.tough_json.proofs.lemmas.MomentExists.{moment-text, parse_timestamp-text}
use Rattle.tough_json.proofs.moment.moment_laws.Goals as goal

pub returns-clause-shown : goal.returns-clause-shown
returns-clause-shown c = λ z text. (moment-text z text, moment_text-moment z text)

pub returns-clause-before : goal.returns-clause-before
returns-clause-before c = moment_text-before

pub returns-clause-back : goal.returns-clause-back
returns-clause-back c = parse_timestamp-text
