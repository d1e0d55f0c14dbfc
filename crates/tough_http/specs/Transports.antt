-- What contracts see of the transports.
use Rattle.tough_net.specs.declared.filesystem.FilesystemTransport.{FilesystemTransport}
use Rattle.tough_http.specs.declared.builder.HttpTransportBuilder.{HttpTransportBuilder}
use Rattle.tough_http.specs.declared.transport.HttpTransport.{HttpTransport}
use Rattle.tough_http.specs.declared.default.DefaultTransport.{DefaultTransport}

-- its settings
abbrev pub builder_of : {R : Type 0} → HttpTransport R → HttpTransportBuilder
builder_of transport = transport.settings

-- what serves URLs of plain HTTP
abbrev pub http_of : {R : Type 0} → DefaultTransport R → HttpTransport R
http_of transport = transport.http

-- what serves URLs of files
abbrev pub files_of : {R : Type 0} → DefaultTransport R → FilesystemTransport R
files_of transport = transport.files
