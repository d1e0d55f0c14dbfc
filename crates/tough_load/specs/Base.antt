-- Why there is no load with these base URLs (TUF specification 1.0, section 5): with a slash at its end one is no URL, or memory is wanting.
use Rattle.std.specs.Prelude.{◌≡◌, ◌⊎◌, Ok, string_bytes, ⊤}
use Rattle.url.specs.Parts.{Parts}
use Rattle.tough_net.specs.Urls.{slashed, with_slash, CannotEnd}
use Rattle.tough_trust.specs.declared.error.UpdateError.{UpdateError}
use Rattle.tough_trust.specs.declared.error.UpdateError.TheVariants as error

abbrev pub IsUnbegun : Parts → UpdateError → Type 0
IsUnbegun url (error.ParseUrl text source) = (string_bytes text ≡ slashed url) × CannotEnd url source
IsUnbegun url error.Memory = ⊤
IsUnbegun url _ = ⊥

-- the metadata's base URL is none; or it is one, and the targets' is none
abbrev pub AreUnbegun : Parts → Parts → UpdateError → Type 0
AreUnbegun metadata targets e = IsUnbegun metadata e ⊎ ((base : Parts) × (with_slash metadata ≡ Ok base) × IsUnbegun targets e)
