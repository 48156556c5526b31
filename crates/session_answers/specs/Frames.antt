-- The answers of the server that have a line of their own, and their frames. This project's own rule.
use Rattle.std.specs.Prelude.{ℕ, List, [], ◌∷◌, ◌++◌, codes}
use Rattle.route_http.specs.Frames.{frame_of}
use Rattle.route_http.specs.declared.kind.Kind.TheVariants.{Plain}
use Rattle.session_answers.specs.declared.refusal.Refusal.{Refusal}
use Rattle.session_answers.specs.declared.refusal.Refusal.TheVariants.{HeadTooLong, BadRequest, UnknownPath, MethodNotAllowed, BodyTooLong, UploadsFull, UnknownProfile, SessionsFull, OutOfMemory}

-- the status of a refusal
abbrev pub status_of : Refusal → ℕ
status_of HeadTooLong = 413
status_of BadRequest = 400
status_of UnknownPath = 404
status_of MethodNotAllowed = 405
status_of BodyTooLong = 413
status_of UploadsFull = 503
status_of UnknownProfile = 404
status_of SessionsFull = 503
status_of OutOfMemory = 500

-- its line, without an end of line
abbrev pub refusal_line : Refusal → List ℕ
refusal_line HeadTooLong = codes "head too long"
refusal_line BadRequest = codes "bad request"
refusal_line UnknownPath = codes "path unknown"
refusal_line MethodNotAllowed = codes "method not allowed"
refusal_line BodyTooLong = codes "body too long"
refusal_line UploadsFull = codes "uploads full"
refusal_line UnknownProfile = codes "profile unknown"
refusal_line SessionsFull = codes "sessions full"
refusal_line OutOfMemory = codes "out of memory"

-- the frame of a line
abbrev pub line_frame : ℕ → List ℕ → List ℕ
line_frame status line = frame_of status Plain (line ++ 10 ∷ [])

-- the frame of a refusal
unfoldable pub refusal_frame : Refusal → List ℕ
refusal_frame refusal = line_frame (status_of refusal) (refusal_line refusal)
