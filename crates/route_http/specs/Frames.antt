-- The frame of a reply: all bytes that a connection gets. This project's own rule, after RFC 9112; each line
-- ends with a carriage return and a line feed.
use Rattle.std.specs.Prelude.{ℕ, Bool, ◌==◌, List, [], ◌∷◌, ◌++◌, length, if◌then◌else◌, codes, decimal}
use Rattle.std.specs.List.{list_any}
use Rattle.route_http.specs.declared.kind.Kind.{Kind}
use Rattle.route_http.specs.declared.kind.Kind.TheVariants.{Json, Csv, Plain}

-- the statuses that replies have
abbrev pub is_status : ℕ → Bool
is_status status =
    list_any (λ (known : ℕ). known == status) (200 ∷ 400 ∷ 404 ∷ 405 ∷ 413 ∷ 422 ∷ 500 ∷ 503 ∷ [])

-- the reason that stands beside a status
unfoldable pub reason_of : ℕ → List ℕ
reason_of status =
    if status == 200 then codes "OK"
    else (if status == 400 then codes "Bad Request"
    else (if status == 404 then codes "Not Found"
    else (if status == 405 then codes "Method Not Allowed"
    else (if status == 413 then codes "Content Too Large"
    else (if status == 422 then codes "Unprocessable Content"
    else (if status == 500 then codes "Internal Server Error" else codes "Service Unavailable"))))))

-- the media type of a body
abbrev pub type_of : Kind → List ℕ
type_of Json = codes "application/json"
type_of Csv = codes "text/csv"
type_of Plain = codes "text/plain"

-- the line of a status
unfoldable pub status_line : ℕ → List ℕ
status_line status = codes "HTTP/1.1 " ++
    (decimal status ++ (codes " " ++ (reason_of status ++ codes "\r\n")))

-- the line of a body's type
unfoldable pub type_line : Kind → List ℕ
type_line kind = codes "Content-Type: " ++ (type_of kind ++ codes "; charset=utf-8\r\n")

-- the line of a body's length
unfoldable pub length_line : ℕ → List ℕ
length_line long = codes "Content-Length: " ++ (decimal long ++ codes "\r\n")

-- the frame of a reply: five lines, an empty one, and the body
unfoldable pub frame_of : ℕ → Kind → List ℕ → List ℕ
frame_of status kind body =
    status_line status
    ++ (type_line kind
    ++ (length_line (length body)
    ++ (codes "Connection: close\r\n" ++ (codes "Access-Control-Allow-Origin: *\r\n\r\n" ++ body))))
