-- What the first bytes of a connection come to. The grammar of heads is that of `httparse`; the limits are
-- this project's own rule.
use Rattle.std.specs.Prelude.{ℕ, ◌+◌, ◌-◌, ◌≤◌, Bool, ◌==◌, ◌≡◌, nat_lt, ⊤, List, [], length, take, map, if◌then◌else◌, Option, Some, None, codes, bytes_eq}
use Rattle.std.specs.List.{before_first, after_first}
use Rattle.httparse.specs.Grammar.{print_blank, RequestHead, ReadsRequest}
use Rattle.httparse.specs.Spans.{name_and_value}
use Rattle.route_http.specs.declared.span.Span.{Span}
use Rattle.route_http.specs.declared.heads.Head.{Head}
use Rattle.route_http.specs.declared.heads.Head.TheVariants as head
use Rattle.route_http.specs.declared.heads.Method.{Method}
use Rattle.route_http.specs.declared.heads.Method.TheVariants as method
use Rattle.route_http.specs.Ends.{end_of}
use Rattle.route_http.specs.Fields.{body_of}

-- ---- The parts of a request

-- the method of its name
abbrev pub method_of : List ℕ → Method
method_of name =
    if bytes_eq name (codes "GET") then method.Get else (if bytes_eq name
    (codes "POST") then method.Post else method.Other)

-- a question mark, which parts the path of a target from its query
abbrev pub is_mark : ℕ → Bool
is_mark b = b == 63

-- where the path of a target stands that begins here: up to its first question mark
abbrev pub path_at : ℕ → List ℕ → Span
path_at start target = record { start = start; end = start + length (before_first is_mark target) }

-- where the query of a target stands that begins here: after its first question mark, or nowhere at its end
abbrev pub query_at : ℕ → List ℕ → Span
query_at start target =
    record {
      start = start + (length target - length (after_first is_mark target));
      end =
          start + length target;
    }

-- where the target of a request begins: after the empty lines in front, the method and a space
abbrev pub target_start : RequestHead → ℕ
target_start r = length (print_blank r.blank) + length r.method + 1

-- ---- Heads

-- these bytes are this request head, of at most 64 header lines, and it tells this length of its body
pub record IsServed (bytes : List ℕ) (r : RequestHead) (body : ℕ) : Type 0 where
  pub reads : ReadsRequest bytes r []
  pub few : length r.fields ≤ 64
  pub told : body_of (map name_and_value r.fields) ≡ Some body

-- the length, the method and the places of path and query are those of this request, which these bytes are
pub record Tells (bytes : List ℕ) (r : RequestHead) (long : ℕ) (method : Method) (path query : Span) :
    Type 0 where
  pub long_is : long ≡ length bytes
  pub method_is : method ≡ method_of r.method
  pub path_is : path ≡ path_at (target_start r) r.target
  pub query_is : query ≡ query_at (target_start r) r.target

-- what the bytes of a head, up to its empty line, come to
abbrev pub IsJudged : List ℕ → Head → Type 0
IsJudged bytes (head.Whole long method path query body) =
    (r : RequestHead) × IsServed bytes r body × Tells bytes r long method path query
IsJudged bytes head.More = ⊥
IsJudged bytes head.Bad = (r : RequestHead) (body : ℕ) → ¬ (IsServed bytes r body)
IsJudged bytes head.TooLong = ⊥

-- where the head of bytes ends, whose end has to stand within the first 16,384 bytes
abbrev pub head_end : List ℕ → Option ℕ
head_end bytes = end_of (take 16384 bytes)

-- what so many bytes without the end of a head come to
abbrev pub unended : ℕ → Head
unended long = if nat_lt long 16384 then head.More else head.TooLong

-- what bytes come to whose head ends here, if it does
abbrev pub IsHeadUpTo : List ℕ → Option ℕ → Head → Type 0
IsHeadUpTo bytes None answer = answer ≡ unended (length bytes)
IsHeadUpTo bytes (Some n) answer = IsJudged (take n bytes) answer

-- what the first bytes of a connection come to
unfoldable pub IsHeadOf : List ℕ → Head → Type 0
IsHeadOf bytes answer = IsHeadUpTo bytes (head_end bytes) answer

-- the path and the query stand within the head, and the head within the bytes
abbrev pub IsHeadWithin : List ℕ → Head → Type 0
IsHeadWithin bytes (head.Whole long method path query body) =
    (long ≤ length bytes) × (long ≤ 16384) × (path.start ≤ path.end) × (path.end ≤ long) ×
    (query.start ≤ query.end)
    × (query.end ≤ long)
IsHeadWithin bytes head.More = ⊤
IsHeadWithin bytes head.Bad = ⊤
IsHeadWithin bytes head.TooLong = ⊤
