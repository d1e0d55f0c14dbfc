use Rattle.std.proofs.Common.{◌≡◌, true, false, bytes_eq, true≢false, sym, ap, ◌∙◌, rules}
use Rattle.std.proofs.lemmas.Slice.Eq.{bytes_eq-Decides}
use Rattle.serde_json.specs.Data.{put}
use Rattle.serde_json.specs.View.{view, members_view}
use Rattle.serde_json.proofs.Views.{members_view-insert_entry}
use Rattle.tough_json.specs.Reading.{without}
use Rattle.tough_json.proofs.lemmas.Borrowed.{member-left, rises-put, without-put_again, without-put_other}
use Rattle.tough_json.proofs.lemmas.Write.{some-inj}
use Rattle.tough_json.proofs.borrowed.others_in.Goals as goal

pub loop-member-preserved-then-eq : goal.loop-member-preserved-then-eq
loop-member-preserved-then-eq c = λ ms h.
    let l = c.loop-member in
    let x = c.member-item.result in
    let was = l.invariant ms h in
    let same : bytes_eq x.0.now c.args.name.now ≡ true = search rules in
    let d = member-left c.args.members.now l.member-index x was.0 ms c.loop-member-test.true c.member-item.is was.2 in
    let gone = ap (λ n. without n (put x.0.now d.0 was.0)) (sym ((bytes_eq-Decides x.0.now c.args.name.now).0 same)) ∙ without-put_again x.0.now d.0 was.0 was.1 ∙ ap (λ n. without n was.0) ((bytes_eq-Decides x.0.now c.args.name.now).0 same) in
    (put x.0.now d.0 was.0, rises-put x.0.now d.0 was.0 was.1, d.2, was.3 ∙ sym gone)

pub loop-member-preserved : goal.loop-member-preserved
loop-member-preserved c = λ ms h.
    let l = c.loop-member in
    let x = c.member-item.result in
    let was = l.invariant ms h in
    let name = c.args.name.now in
    let other : bytes_eq x.0.now name ≡ false = search rules in
    let apart = λ (is : name ≡ x.0.now). true≢false (sym ((bytes_eq-Decides x.0.now name).1 (sym is)) ∙ other) in
    let d = member-left c.args.members.now l.member-index x was.0 ms c.loop-member-test.true c.member-item.is was.2 in
    let value : view c.in_ok-value.value ≡ d.0 = some-inj (sym c.in_ok-value.ensures ∙ d.1) in
    let stays = without-put_other name x.0.now d.0 was.0 apart was.1 in (
      put x.0.now d.0 was.0,
      rises-put x.0.now d.0 was.0 was.1,
      d.2,
      ap members_view c.in_ok-insert.ensures.entries ∙ members_view-insert_entry l.values.entries c.in_ok-key.key c.in_ok-value.value ∙ rw (c.in_ok-key.ensures.ok, value, was.3) (sym stays),
    )
