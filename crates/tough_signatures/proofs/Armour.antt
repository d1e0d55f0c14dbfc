-- Texts that are read, and those that are written, begin as armour does.
use Rattle.std.proofs.Common.{◌≡◌, ℕ, List, ◌++◌, true, Some, refl}
use Rattle.std.specs.Prelude.{codes}
use Rattle.tough_decoded.specs.Spelled.{is_armour}
use Rattle.tough_der.specs.Reading.{after}
use Rattle.tough_der.specs.Pem.{after_line, between, pem_of, pem_text}
use Rattle.tough_der.proofs.Options.{and_then_some}
use Rattle.tough_der.proofs.Elements.{after_sound}

begun : (text rest : List ℕ) → text ≡ codes "-----BEGIN " ++ rest → is_armour text ≡ true
begun text rest e = rw e refl

line_begun : (label text rest : List ℕ) → after_line (codes "-----BEGIN ") label text ≡ Some rest → is_armour text ≡ true
unfolding after_line
line_begun label text rest e =
    and_then_some _ (after (codes "-----BEGIN ") text) _ e λ a x e1.
    begun text a (after_sound (codes "-----BEGIN ") text a x)

between_begun : (label text inner : List ℕ) → between label text ≡ Some inner → is_armour text ≡ true
unfolding between
between_begun label text inner e =
    and_then_some _ (after_line (codes "-----BEGIN ") label text) _ e λ body a e1. line_begun label text body a

-- a text that is read
pub read_is_armour : (label text bytes : List ℕ) → pem_of label text ≡ Some bytes → is_armour text ≡ true
unfolding pem_of
read_is_armour label text bytes e = and_then_some _ (between label text) _ e λ inner a e1. between_begun label text inner a

-- a text that is written
pub written_is_armour : (label bytes : List ℕ) → is_armour (pem_text label bytes) ≡ true
unfolding pem_text
written_is_armour label bytes = refl
