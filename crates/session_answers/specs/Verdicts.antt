-- What is fixed for a session by the bytes that came and by the end of its peer. This project's own rule.
use Rattle.std.specs.Prelude.{◌≡◌, ℕ, ◌+◌, ◌≤◌, Bool, true, false, not, ◌&&◌, nat_le, nat_lt, List, length, if◌then◌else◌, slice_range, bytes_eq, codes}
use Rattle.route_http.specs.Heads.{IsHeadOf}
use Rattle.route_http.specs.declared.heads.Head.{Head}
use Rattle.route_http.specs.declared.heads.Head.TheVariants.{Whole, More, Bad, TooLong}
use Rattle.route_http.specs.declared.heads.Method.{Method}
use Rattle.route_http.specs.declared.heads.Method.TheVariants.{Get, Post, Other}
use Rattle.route_http.specs.declared.span.Span.{Span}
use Rattle.route_engine.specs.declared.aim.Aim.{Aim}
use Rattle.route_engine.specs.declared.aim.Aim.TheVariants.{Certificate, Track, Table, Within}
use Rattle.session_answers.specs.declared.refusal.Refusal.TheVariants.{HeadTooLong, BadRequest, UnknownPath, MethodNotAllowed, BodyTooLong}
use Rattle.session_answers.specs.declared.verdict.Verdict.{Verdict}
use Rattle.session_answers.specs.declared.verdict.Verdict.TheVariants.{Undecided, NoByte, Refused, Upload, Query}

-- ---- Parts of the bytes

-- the bytes of a span
abbrev pub part : List ℕ → Span → List ℕ
part bytes span = slice_range bytes span.start span.end

-- a span stands within bytes
pub record IsSpanIn (bytes : List ℕ) (span : Span) : Type 0 where
  pub ordered : span.start ≤ span.end
  pub fits : span.end ≤ length bytes

-- ---- What is fixed

-- the most bytes that a body may have
abbrev pub most_body : ℕ
most_body = 262144

-- the paths that are served: of routes, of tables of costs, of certificates, of what lies within a cost, and of
-- profiles
abbrev pub route_path : List ℕ
route_path = codes "/brouter"

abbrev pub table_path : List ℕ
table_path = codes "/brouter/table"

abbrev pub certificate_path : List ℕ
certificate_path = codes "/brouter/certificate"

abbrev pub within_path : List ℕ
within_path = codes "/brouter/within"

abbrev pub profile_path : List ℕ
profile_path = codes "/brouter/profile"

-- whether a request is whole: that of a POST with its body, any other with its head
abbrev pub is_whole : ℕ → Method → ℕ → List ℕ → Bool
is_whole long Post body bytes = nat_le (long + body) (length bytes)
is_whole long Get body bytes = true
is_whole long Other body bytes = true

-- what a request by a query comes to, by what it is asked for
abbrev pub of_query : Aim → Method → Span → ℕ → Verdict
of_query aim Get query body = if nat_lt most_body body then Refused BodyTooLong else Query aim query
of_query aim Post query body = Refused MethodNotAllowed
of_query aim Other query body = Refused MethodNotAllowed

-- what an upload comes to whose body has so many bytes
abbrev pub of_body : ℕ → ℕ → List ℕ → Verdict
of_body long body bytes =
    if nat_lt most_body body then Refused BodyTooLong
    else (if nat_le (long + body) (length bytes) then Upload
    (record { start = long; end = long + body }) else Undecided)

-- what an upload comes to
abbrev pub of_upload : ℕ → Method → ℕ → List ℕ → Verdict
of_upload long Get body bytes = Refused MethodNotAllowed
of_upload long Other body bytes = Refused MethodNotAllowed
of_upload long Post body bytes = of_body long body bytes

-- what a request comes to by its path
abbrev pub by_path : (path : List ℕ) (long : ℕ) (method : Method) (query : Span) (body : ℕ)
    (bytes : List ℕ) → Verdict
by_path path long method query body bytes =
    if bytes_eq path route_path then of_query Track method query body
    else (if bytes_eq path table_path then of_query Table method query body
    else (if bytes_eq path certificate_path then of_query Certificate method query body
    else (if bytes_eq path within_path then of_query Within method query body
    else (if bytes_eq path profile_path then of_upload long method body bytes else Refused UnknownPath))))

-- what bytes come to behind which the head may still go on
abbrev pub unfinished : Bool → List ℕ → Verdict
unfinished false bytes = Undecided
unfinished true bytes = if nat_lt 0 (length bytes) then Refused BadRequest else NoByte

-- what is fixed by the head that bytes come to
abbrev pub verdict_by : Head → List ℕ → Bool → Verdict
verdict_by TooLong bytes ended = Refused HeadTooLong
verdict_by Bad bytes ended = Refused BadRequest
verdict_by More bytes ended = unfinished ended bytes
verdict_by (Whole long method path query body) bytes ended =
    if ended && not (is_whole long method body bytes) then Refused BadRequest
    else by_path (part bytes path) long method query body bytes

-- what is fixed for a session by its bytes, and by whether its peer ended
pub record IsVerdict (bytes : List ℕ) (ended : Bool) (verdict : Verdict) : Type 0 where
  pub head : Head
  pub heads : IsHeadOf bytes head
  pub is : verdict ≡ verdict_by head bytes ended

-- ---- Where it stands

-- the text of an upload, and a query, stand within the bytes, and the text is no longer than a body may be
abbrev pub IsVerdictIn : List ℕ → Verdict → Type 0
IsVerdictIn bytes Undecided = Unit {0}
IsVerdictIn bytes NoByte = Unit {0}
IsVerdictIn bytes (Refused refusal) = Unit {0}
IsVerdictIn bytes (Upload span) = IsSpanIn bytes span × (span.end ≤ span.start + most_body)
IsVerdictIn bytes (Query aim span) = IsSpanIn bytes span
