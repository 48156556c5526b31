-- What the code knows of a head that `httparse` has read; no public clause cites this.
use Rattle.std.specs.Prelude.{ℕ, ◌≡◌, ◌≤◌, List, [], length}
use Rattle.httparse.specs.Grammar.{RequestHead, ReadsRequest}
use Rattle.httparse.specs.Spans.{span_bytes, IsRequestWithin, IsRequestOf, IsRequestAt}
use Rattle.httparse.specs.declared.spans.HeaderSpan.{HeaderSpan}
use Rattle.httparse.specs.declared.spans.RequestSpans.{RequestSpans}
use Rattle.route_http.specs.declared.heads.Head.{Head}
use Rattle.route_http.specs.declared.heads.Head.TheVariants as head
use Rattle.route_http.specs.Heads.{Tells}

-- the bytes begin with the request whose parts these are, and with no other of at most 64 header lines
pub record IsParsed (bytes : List ℕ) (headers : List HeaderSpan) (parts : RequestSpans) : Type 0 where
  pub within : IsRequestWithin bytes headers parts
  pub is : IsRequestOf bytes headers parts
  pub room : length headers ≡ 64
  pub only : (r : RequestHead) (rest : List ℕ) → ReadsRequest bytes r rest → length r.fields ≤ 64
      → IsRequestAt bytes headers parts r

-- the answer is a whole head with this length of its body
abbrev pub IsWholeOf : List ℕ → RequestHead → ℕ → Head → Type 0
IsWholeOf bytes r body (head.Whole long method path query told) = Tells bytes r long method path query ×
    (told ≡ body)
IsWholeOf bytes r body head.More = ⊥
IsWholeOf bytes r body head.Bad = ⊥
IsWholeOf bytes r body head.TooLong = ⊥

-- the answer tells each request that the bytes are and whose method and target these parts are
abbrev pub TellsRequest : List ℕ → RequestSpans → ℕ → Head → Type 0
TellsRequest bytes parts body answer =
    (r : RequestHead) → ReadsRequest bytes r [] → span_bytes bytes parts.method ≡ r.method
    → span_bytes bytes parts.path ≡ r.target → IsWholeOf bytes r body answer
