use Rattle.std.proofs.Common.{◌≡◌, Some, true, is_none, sym, ap, ◌∙◌, rules}
use Rattle.serde_json.specs.Data.{put}
use Rattle.serde_json.specs.Find.{get_member}
use Rattle.serde_json.specs.View.{view, members_view}
use Rattle.serde_json.proofs.Views.{members_view-insert_entry}
use Rattle.tough_json.proofs.lemmas.Write.{if_free-free}
use Rattle.tough_json.proofs.write.with.Goals as goal

pub returns : goal.returns
returns c =
    let free : is_none (get_member c.args.name.now (members_view c.args.members.entries)) ≡ true = search rules in
    let new : members_view c.insert.new.self.entries ≡ put c.args.name.now (view c.args.value) (members_view c.args.members.entries) =
    ap members_view c.in_ok-insert.ensures.entries ∙ members_view-insert_entry c.args.members.entries c.in_ok-from_str.field-0 c.args.value ∙ ap (λ k. put k (view c.args.value) (members_view c.args.members.entries)) c.in_ok-from_str.ensures.ok in
    if_free-free (get_member c.args.name.now (members_view c.args.members.entries)) (put c.args.name.now (view c.args.value) (members_view c.args.members.entries)) free ∙ ap Some (sym new)
