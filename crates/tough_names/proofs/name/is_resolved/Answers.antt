use Rattle.std.proofs.Common.{◌≡◌, ap, ◌∙◌, false, lit<, get_or, ◌==◌}
use Rattle.std.proofs.lemmas.Iterator.Consumers.{YieldsList-end}
use Rattle.std.proofs.lemmas.Iterator.Splits.{YieldsList-from_str_split}
use Rattle.std.specs.Str.Iter.{split_text, split_has_more, split_pattern}
use Rattle.tough_names.specs.Clean.{is_idle, is_parent}
use Rattle.tough_names.proofs.Joining.{mark_none}
use Rattle.tough_names.proofs.Keeping.{after_one, keeps_named, all_kept}
use Rattle.tough_names.proofs.name.is_resolved.Goals as goal

pub loop-component-preserved : goal.loop-component-preserved
loop-component-preserved c =
    let p : is_parent c.in-Some.component.now ≡ false = cc in
    let q : is_idle c.in-Some.component.now ≡ false = cc in
    let seen = c.loop-component.yielded in
    after_one seen seen c.in-Some.component _ c.loop-component.invariant (keeps_named seen c.in-Some.component p q)

pub returns : goal.returns
returns c = λ h.
    let b : c.starts_with.result ≡ (get_or c.args.text.now 0 0 == 47) = c.starts_with.ensures.byte (lit< tt) (lit< tt) (λ w o h. h) in
    let m = mark_none c.args.text.now (cc) in
    let s = c.into_iter-component-iterator.ensures.into_iter_gives in
    let f = c.split-component-items.ensures in
    let t = YieldsList-end (YieldsList-from_str_split 47 c.args.text.now (lit< tt) (ap split_text s ∙ f.text) (ap split_has_more s ∙ f.has_more) (ap split_pattern s ∙ f.pattern)) c.loop-component.yielded _ c.loop-component.yielded_by _ _ c.in-None.is c.next.ensures.steps in
    all_kept c.args.text.now c.loop-component.yielded m t.0 c.loop-component.invariant
