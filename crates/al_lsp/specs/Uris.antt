-- URIs of files (RFC 8089).
use Rattle.std.specs.Prelude.{ℕ, List, ◌++◌, take, drop, codes, Option, Some, None, if◌then◌else◌}
use Rattle.std.specs.Str.{bytes_eq}
use Rattle.percent_encoding.specs.Percent.{percent_encode, percent_decode}
use Rattle.percent_encoding.specs.declared.ascii_set.AsciiSet.{AsciiSet}

abbrev pub scheme : List ℕ
scheme = codes "file://"

-- the path that a URI names, where it is of a file
abbrev pub path_in : List ℕ → Option (List ℕ)
path_in uri = if bytes_eq (take 7 uri) scheme then Some (percent_decode (drop 7 uri)) else None

-- the URI of the file of a path, in which the bytes of a set are escaped, and those outside ASCII
abbrev pub uri_text : AsciiSet → List ℕ → List ℕ
uri_text escaped path = scheme ++ percent_encode escaped path
