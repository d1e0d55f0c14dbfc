use Rattle.std.proofs.Common.{◌≡◌, ◌++◌, ◌∷◌, [], true, false, codes, bytes_eq, string_bytes, sym, ap, subst, ◌∙◌, append_assoc, append-nil}
use Rattle.serde_json.specs.Data.{object}
use Rattle.serde_json.specs.Find.{get_member}
use Rattle.serde_json.specs.View.{view, members_view}
use Rattle.serde_json.proofs.Views.{Entry}
use Rattle.tough_json.specs.Pieces.{text_in, replaced, and_last, Appends, Stands}
use Rattle.tough_json.proofs.lemmas.Piece.{replaced-same, replaced-other}
use Rattle.tough_json.proofs.lemmas.Write.{some-inj}
use Rattle.tough_schema.proofs.Around.{has-more}
use Rattle.tough_schema.proofs.write_targets.append_around.Goals as goal

pub loop-key-preserved-then-eq : goal.loop-key-preserved-then-eq
loop-key-preserved-then-eq c =
    let n = codes "targets" in
    let base = c.args.out.items in
    let form = c.args.form in
    let done = c.loop-key.invariant.0 in
    let e : Entry = (c.in-Some.key.now, c.in-Some.member.now) in
    let left = c.next.new.self in
    let all : c.args.members.now.entries ≡ done ++ e ∷ left = c.loop-key.invariant.1 ∙ ap (λ es. done ++ es) c.in-Some.ensures.steps in
    let same : bytes_eq (string_bytes e.0) n ≡ true = ap (λ l. bytes_eq l n) (sym c.as_str.ensures.value) ∙ sym c.eq.ensures ∙ c.if-eq.true in
    let listed = c.in_ok-listing.ensures in (
      done ++ e ∷ [],
      all ∙ sym (append_assoc done (e ∷ []) left),
      (λ ms is.
          let old = replaced n (object ms) (members_view done) in
          let opened = (c.in_ok-around.ensures base form old (c.loop-key.invariant.2 ms is)).1 in
          let told = subst (λ m. Appends c.in_ok-around.before.items (text_in form (object m)) c.in_ok-listing.listing.items) (some-inj (sym listed.1 ∙ is)) listed.2 in
          subst (λ us. Stands base form us c.close-object.result) (sym (replaced-same n (object ms) done e same)) (c.close-object.ensures base form old n (object ms) c.in_ok-around.before.items opened told)),
      (λ d has. (listed.0, listed.1)),
    )

pub loop-key-preserved : goal.loop-key-preserved
loop-key-preserved c =
    let n = codes "targets" in
    let base = c.args.out.items in
    let form = c.args.form in
    let done = c.loop-key.invariant.0 in
    let e : Entry = (c.in-Some.key.now, c.in-Some.member.now) in
    let left = c.next.new.self in
    let all : c.args.members.now.entries ≡ done ++ e ∷ left = c.loop-key.invariant.1 ∙ ap (λ es. done ++ es) c.in-Some.ensures.steps in
    let other : bytes_eq (string_bytes e.0) n ≡ false = ap (λ l. bytes_eq l n) (sym c.as_str.ensures.value) ∙ sym c.eq.ensures ∙ c.if-eq.false in (
      done ++ e ∷ [],
      all ∙ sym (append_assoc done (e ∷ []) left),
      (λ ms is.
          let old = replaced n (object ms) (members_view done) in
          subst (λ us. Stands base form us c.push.new.self) (ap (λ l. and_last old l (view e.1)) c.as_str-else-eq.ensures.value ∙ sym (replaced-other n (object ms) done e other)) (c.in_ok-push.ensures base form old (c.loop-key.invariant.2 ms is)).1),
      (λ d has. c.loop-key.invariant.3 d (sym (has-more n done e other) ∙ has)),
    )

pub returns : goal.returns
returns c = λ d has.
    let n = codes "targets" in
    let base = c.args.out.items in
    let form = c.args.form in
    let done = c.loop-key.invariant.0 in
    let all : c.args.members.now.entries ≡ done = c.loop-key.invariant.1 ∙ ap (λ es. done ++ es) c.in-None.ensures.steps.0 ∙ append-nil done in
    let listed = c.loop-key.invariant.3 d (ap (λ es. get_member n (members_view es)) (sym all) ∙ has) in
    let told = c.in_ok-text.ensures base form (replaced n (object listed.0) (members_view done)) (c.loop-key.invariant.2 listed.0 listed.1) in
    (listed.0, listed.1, subst (λ es. Appends base (text_in form (object (replaced n (object listed.0) (members_view es)))) c.in_ok-text.text.items) (sym all) told)
