use Rattle.std.proofs.Common.{rules, ◌≡◌, [], ap, ◌∙◌, ◌-◌, length, take, vec_len, true, false, lit<}
use Rattle.std.proofs.lemmas.Iterator.Consumers.{YieldsList-end}
use Rattle.std.proofs.lemmas.Iterator.Splits.{YieldsList-from_str_split}
use Rattle.std.specs.Str.Iter.{split_text, split_has_more, split_pattern}
use Rattle.tough_names.specs.Clean.{keep_all, is_idle, is_parent}
use Rattle.tough_names.proofs.Keeping.{after_one, keeps_parent, keeps_idle, keeps_named, texts}
use Rattle.tough_names.proofs.name.kept_components.Goals as goal

pub loop-component-preserved-then-is_parent : goal.loop-component-preserved-then-is_parent
loop-component-preserved-then-is_parent c =
    let n : vec_len c.loop-component.kept ≡ length c.loop-component.kept.items = search rules in
    let p : is_parent c.in-Some.component.now ≡ true = cc in
    after_one c.loop-component.kept.items c.loop-component.yielded c.in-Some.component c.pop.new.self.items c.loop-component.invariant
    (ap texts (c.pop.ensures.rest ∙ ap (λ k. take (k - 1) c.loop-component.kept.items) n) ∙ keeps_parent c.loop-component.kept.items c.in-Some.component p)

pub loop-component-preserved-in-Continue-1 : goal.loop-component-preserved-in-Continue-1
loop-component-preserved-in-Continue-1 c =
    let p : is_parent c.in-Some.component.now ≡ false = cc in
    let q : is_idle c.in-Some.component.now ≡ false = cc in
    after_one c.loop-component.kept.items c.loop-component.yielded c.in-Some.component c.push.new.self.items c.loop-component.invariant
    (ap texts c.in_ok-push.ensures.items ∙ keeps_named c.loop-component.kept.items c.in-Some.component p q)

pub loop-component-preserved : goal.loop-component-preserved
loop-component-preserved c =
    let p : is_parent c.in-Some.component.now ≡ false = cc in
    let q : is_idle c.in-Some.component.now ≡ true = cc in
    after_one c.loop-component.kept.items c.loop-component.yielded c.in-Some.component c.loop-component.kept.items c.loop-component.invariant
    (keeps_idle c.loop-component.kept.items c.in-Some.component p q)

pub returns : goal.returns
returns c =
    let s = c.into_iter-component-iterator.ensures.into_iter_gives in
    let f = c.split-component-items.ensures in
    let t = YieldsList-end (YieldsList-from_str_split 47 c.args.text.now (lit< tt) (ap split_text s ∙ f.text) (ap split_has_more s ∙ f.has_more) (ap split_pattern s ∙ f.pattern)) c.loop-component.yielded _ c.loop-component.yielded_by _ _ c.in-None.is c.next.ensures.steps in
    c.loop-component.invariant ∙ ap (keep_all []) t.0
