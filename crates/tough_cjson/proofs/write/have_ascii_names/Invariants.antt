use Rattle.serde_json.specs.View.{members_view}
use Rattle.tough_cjson.specs.Ascii.{HaveAsciiNames}
use Rattle.tough_cjson.proofs.write.have_ascii_names.Given as goal

abbrev pub invariant-loop-name : goal.invariant-loop-name
invariant-loop-name l = HaveAsciiNames (members_view l.name-iterator) → HaveAsciiNames (members_view l.members.entries)
