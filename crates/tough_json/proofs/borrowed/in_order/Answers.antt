use Rattle.std.proofs.Common.{sym, ap, ◌∙◌, rules}
use Rattle.json.specs.Value.{value_view as json_view, members_view as json_members}
use Rattle.serde_json.specs.Data.{no_members, put}
use Rattle.serde_json.specs.Read.{of_json, of_members}
use Rattle.tough_json.specs.Borrowed.{listed}
use Rattle.tough_json.proofs.lemmas.Borrowed.{bound, listed-none, listed-put}
use Rattle.tough_json.proofs.borrowed.in_order.Goals as goal

pub loop-name-init : goal.loop-name-init
loop-name-init c = (tt, tt, λ ms h. (no_members, listed-none c.new-found.result.entries c.new-found.ensures.empty, search rules))

pub loop-name-preserved : goal.loop-name-preserved
loop-name-preserved c = (
  tt,
  tt,
  λ ms h.
      let was = c.loop-name.invariant.2 ms h in
      let k = c.in-Some.name in
      let v = c.in-Some.value in
      let left = c.next.new.self.rest.items in
      let d = bound (λ d. of_members (json_members left) (put k.now d was.0)) (of_json (json_view v)) ms (sym (ap (λ xs. of_members (json_members xs) was.0) c.in-Some.ensures.steps.0) ∙ was.2) in
      (put k.now d.0 was.0, ap listed c.in_ok-insert.ensures.entries ∙ listed-put c.loop-name.found.entries k v d.0 was.0 was.1 d.1, d.2),
)
