-- What streams and transports stand on.
use Rattle.std.specs.Prelude.{◌≡◌, Bool, true, false}
use Rattle.url.specs.Parts.{Parts}
use Rattle.tough_cache.specs.Versioned.{names_version}
use Rattle.tough_cache.specs.declared.keeping.Keeping.{Keeping}
use Rattle.tough_cache.specs.declared.caching.CachingTransport.{CachingTransport}

-- the stream within
abbrev pub stream_of : {S R F G : Type 0} → Keeping S R F G → S
stream_of k = k.stream

-- the transport within
abbrev pub within_of : {T R : Type 0} → CachingTransport T R → T
within_of t = t.within

-- it takes nothing from the folder
abbrev pub is_anew : {T R : Type 0} → CachingTransport T R → Bool
is_anew t = t.is_anew

-- What is served at the URL may come from the folder.
abbrev pub MayBeKept : {T R : Type 0} → CachingTransport T R → Parts → Type 0
MayBeKept t url = (is_anew t ≡ false) × (names_version url.path ≡ true)
