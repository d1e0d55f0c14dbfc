-- When two keys are equal: their kind, public bytes and extras are, where two floats count as equal.
use Rattle.std.specs.Prelude.{ℕ, ℤ, List, Bool, true, false, ◌&&◌, nat_eq}
use Rattle.std.specs.Str.{bytes_eq}
use Rattle.std.specs.Ordering.{int_eq}
use Rattle.std.specs.Bool.{beq}
use Rattle.serde_json.specs.Data.{Num, unsigned, negative, float, Data, null, boolean, number, string, array, object, Items, no_items, item, Members, no_members, member}
use Rattle.tough_keys.specs.declared.kind.Kind.{Kind}
use Rattle.tough_keys.specs.declared.kind.Kind.TheVariants as kinds
use Rattle.tough_keys.specs.declared.key.Key.{Key}
use Rattle.tough_keys.specs.Key.{KeyDoc, key_doc}

abbrev pub same_number : Num → Num → Bool
same_number (unsigned n) (unsigned m) = nat_eq n m
same_number (negative n) (negative m) = int_eq n m
same_number (float x) (float y) = true
same_number _ _ = false

-- the same value, where two floats count as equal
abbrev mutual
  pub same : Data → Data → Bool
  same null null = true
  same (boolean b) (boolean c) = beq b c
  same (number n) (number m) = same_number n m
  same (string s) (string t) = bytes_eq s t
  same (array xs) (array ys) = same_items xs ys
  same (object ms) (object ns) = same_members ms ns
  same _ _ = false

  pub same_items : Items → Items → Bool
  same_items no_items no_items = true
  same_items (item d ds) (item e es) = same d e && same_items ds es
  same_items _ _ = false

  pub same_members : Members → Members → Bool
  same_members no_members no_members = true
  same_members (member k d ms) (member l e ns) = bytes_eq k l && (same d e && same_members ms ns)
  same_members _ _ = false

abbrev pub same_kind : Kind → Kind → Bool
same_kind kinds.Rsa kinds.Rsa = true
same_kind kinds.Ed25519 kinds.Ed25519 = true
same_kind kinds.Ecdsa kinds.Ecdsa = true
same_kind kinds.EcdsaOld kinds.EcdsaOld = true
same_kind _ _ = false

abbrev pub same_doc : KeyDoc → KeyDoc → Bool
same_doc k l = same_kind k.kind l.kind && (bytes_eq k.public.bytes l.public.bytes && (same_members k.keyval_extra l.keyval_extra && same_members k.extra l.extra))

abbrev pub same_key : Key → Key → Bool
same_key k l = same_doc (key_doc k) (key_doc l)
