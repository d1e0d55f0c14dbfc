use Rattle.std.proofs.Common.{◌≡◌, ◌++◌, subst, ◌∙◌, sym, rules, OnOk}
use Rattle.tough_cjson.specs.Canon.{nfc_text, quoted}
use Rattle.tough_cjson.proofs.lemmas.Plain.{nfc_text-IsAscii}
use Rattle.tough_cjson.proofs.write.write_text.Goals as goal

pub returns-then-is_ascii : goal.returns-then-is_ascii
returns-then-is_ascii c =
    subst (λ s. OnOk c.append_quoted.result (c.append_quoted.new.out.items ≡ c.args.out.now.items ++ quoted s))
    (c.as_bytes.ensures.value ∙ sym (nfc_text-IsAscii c.args.text.now c.if-is_ascii.ensures.cases)) c.append_quoted.ensures

pub returns : goal.returns
unfolding nfc_text
returns c = search rules
