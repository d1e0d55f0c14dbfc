-- What a transport for files and plain HTTP answers to URLs.
use Rattle.std.specs.Prelude.{List, Option, ◌⊎◌}
use Rattle.url.specs.Parts.{Parts}
use Rattle.tough_net.specs.declared.error.TransportError.{TransportError}
use Rattle.tough_net.specs.Items.{Item}
use Rattle.tough_http.specs.HttpUrls.{IsHttpScheme}

-- the second where the scheme is `http`, and the first for any other URL
abbrev pub BySchemes : Type 0 → Type 0 → Parts → Type 0
BySchemes files http url = (IsHttpScheme url.scheme × http) ⊎ (¬ (IsHttpScheme url.scheme) × files)

-- the refusals of a transport of files, and for `http` those of one over HTTP
abbrev pub RefusesDefault : (Parts → TransportError → Type 0) → (Parts → TransportError → Type 0) → Parts → TransportError → Type 0
RefusesDefault files http url e = BySchemes (files url e) (http url e) url

-- what a transport of files serves, and for `http` what one over HTTP does
abbrev pub ServesDefault : (Parts → List Item → Option Item → Type 0) → (Parts → List Item → Option Item → Type 0) → Parts → List Item → Option Item → Type 0
ServesDefault files http url xs last = BySchemes (files url xs last) (http url xs last) url
