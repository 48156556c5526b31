-- What the parts that `httparse` finds say of a head.
use Rattle.std.proofs.Common.{◌≡◌, ℕ, ◌+◌, ◌-◌, ◌≤◌, Bool, not, cond, List, [], ◌∷◌, ◌++◌, length, take, drop, map, sym, ap, ◌∙◌, subst, arith, Some, None, append-nil, length-drop, min}
use Rattle.std.specs.List.{prefix_len, position_or_len, before_first, after_first}
use Rattle.std.proofs.lemmas.List.{drop_all, length-take, length-map}
use Rattle.std.proofs.lemmas.List.Folds.{length-prefix_len}
use Rattle.httparse.specs.Grammar.{LineEnd, crlf, lf, print_blank, print_request, RequestHead, ReadsRequest}
use Rattle.httparse.specs.Pieces.{Stops, is_newline}
use Rattle.httparse.specs.Spans.{header_bytes, name_and_value, IsRequestAt}
use Rattle.httparse.specs.declared.spans.HeaderSpan.{HeaderSpan}
use Rattle.httparse.specs.declared.spans.RequestSpans.{RequestSpans}
use Rattle.httparse.proofs.GrammarLemmas.{request_pieces}
use Rattle.route_http.specs.declared.heads.Head.{Head}
use Rattle.route_http.specs.declared.heads.Head.TheVariants as head
use Rattle.route_http.specs.declared.heads.Method.{Method}
use Rattle.route_http.specs.declared.span.Span.{Span}
use Rattle.route_http.specs.Fields.{body_of}
use Rattle.route_http.specs.Heads.{is_mark, method_of, path_at, query_at, target_start, IsServed, Tells, IsJudged}
use Rattle.route_http.specs.Parsed.{IsParsed, IsWholeOf, TellsRequest}

-- ---- Where the target stands

-- a text that stops at once has no front that passes
none_pass : (test : ℕ → Bool) (text : List ℕ) → Stops test text → prefix_len test text ≡ 0
none_pass test [] stops = elim stops [ ]
none_pass test (b ∷ text) stops = ap (λ (t : Bool). cond t (1 + prefix_len test text) 0) stops

-- empty lines in front of what begins no line end are all the line ends at the front
breaks_pass : (ends : List LineEnd) (text : List ℕ) → Stops is_newline text
    → prefix_len is_newline (print_blank ends ++ text) ≡ length (print_blank ends)
breaks_pass [] text stops = none_pass is_newline text stops
breaks_pass (crlf ∷ ends) text stops = let more = breaks_pass ends text stops in omega arith
breaks_pass (lf ∷ ends) text stops = let more = breaks_pass ends text stops in omega arith

-- the line ends at the front of a request are its empty lines
pub blank_len : (bytes : List ℕ) (r : RequestHead) (rest : List ℕ) → ReadsRequest bytes r rest
    → prefix_len is_newline bytes ≡ length (print_blank r.blank)
blank_len bytes r rest reads =
    let blank = (request_pieces bytes r rest reads).1.1 in
    ap (λ (l : List ℕ). prefix_len is_newline l) blank.0 ∙ breaks_pass r.blank _ blank.1

-- so many bytes of a target are its path
pub path_long : (target : List ℕ) → length (before_first is_mark target) ≡ position_or_len is_mark target
path_long target = length-prefix_len (λ b. not (is_mark b)) target

-- so many bytes of a target are not its query
pub query_long : (target : List ℕ) →
    length target - length (after_first is_mark target) ≡ min (length target) (position_or_len is_mark target + 1)
query_long target = omega (arith, length-drop (position_or_len is_mark target + 1) target)

-- what is told of a request, where each part is that of the request
module _ (bytes : List ℕ) (r : RequestHead) (reads : ReadsRequest bytes r []) where
  pub tells_request : (long start : ℕ) (name target : List ℕ) (method : Method) (path query : Span) → long ≡ length bytes →
      name ≡ r.method → target ≡ r.target → start ≡ prefix_len is_newline bytes + length name + 1 → method ≡ method_of name →
      path ≡ path_at start target → query ≡ query_at start target → Tells bytes r long method path query
  tells_request long start name target method path query long_is name_is target_is start_is method_is path_is query_is =
      let name_long : length name ≡ length r.method = ap length name_is in
      let begins : start ≡ target_start r = omega (arith, blank_len bytes r [] reads) in
      record {
        long_is = long_is;
        method_is = method_is ∙ ap method_of name_is;
        path_is = path_is ∙ ap (λ (k : ℕ). path_at k target) begins ∙ ap (λ (t : List ℕ). path_at (target_start r) t) target_is;
        query_is = query_is ∙ ap (λ (k : ℕ). query_at k target) begins ∙ ap (λ (t : List ℕ). query_at (target_start r) t) target_is;
      }

-- ---- What a head comes to that httparse has read

-- a head that is the bytes has their length
whole_long : (bytes : List ℕ) (r : RequestHead) → ReadsRequest bytes r [] → length bytes ≡ length (print_request r)
whole_long bytes r reads = ap length (reads.1 ∙ append-nil (print_request r))

-- where the head that was read is shorter, the bytes are no head
pub other_length : (bytes : List ℕ) (headers : List HeaderSpan) (parts : RequestSpans) → IsParsed bytes headers parts
    → ¬ (parts.len ≡ length bytes) → IsJudged bytes head.Bad
other_length bytes headers parts parsed other r body served =
    other ((parsed.only r [] served.reads served.few).len ∙ sym (whole_long bytes r served.reads))

-- where no length is told soundly, the head isn't served
pub told_none : (bytes : List ℕ) (headers : List HeaderSpan) (parts : RequestSpans) → IsParsed bytes headers parts
    → body_of (map (header_bytes bytes) (take parts.headers headers)) ≡ None → IsJudged bytes head.Bad
told_none bytes headers parts parsed none r body served =
    let same = ap body_of (parsed.only r [] served.reads served.few).fields in
    let told = served.told in
    let both : None ≡ Some body = sym none ∙ same ∙ told in
    absurd (cc)

-- an answer that tells a head which is served
judged_whole : (bytes : List ℕ) (r : RequestHead) (body : ℕ) (answer : Head) → IsServed bytes r body → IsWholeOf bytes r body answer
    → IsJudged bytes answer
judged_whole bytes r body (head.Whole long method path query told) served whole =
    (r, subst (λ (n : ℕ). IsServed bytes r n) (sym whole.1) served, whole.0)
judged_whole bytes r body head.More served whole = elim whole [ ]
judged_whole bytes r body head.Bad served whole = elim whole [ ]
judged_whole bytes r body head.TooLong served whole = elim whole [ ]

-- where a length is told, the head is served
pub told_some : (bytes : List ℕ) (headers : List HeaderSpan) (parts : RequestSpans) (body : ℕ) (answer : Head) →
    IsParsed bytes headers parts
    → parts.len ≡ length bytes → body_of (map (header_bytes bytes) (take parts.headers headers)) ≡ Some body
    → TellsRequest bytes parts body answer → IsJudged bytes answer
told_some bytes headers parts body answer parsed long told tells =
    let r = parsed.is.0 in
    let at : IsRequestAt bytes headers parts r = parsed.is.1 in
    let nothing : drop parts.len bytes ≡ [] = drop_all parts.len bytes (omega arith) in
    let reads : ReadsRequest bytes r [] = subst (λ (l : List ℕ). ReadsRequest bytes r l) nothing at.reads in
    let counted : length (map (header_bytes bytes) (take parts.headers headers)) ≡ length (map name_and_value r.fields) =
    ap length at.fields in
    let few : length r.fields ≤ 64 =
    omega (
      arith,
      counted,
      length-map (take parts.headers headers) (header_bytes bytes),
      length-map r.fields name_and_value,
      length-take parts.headers headers,
      parsed.room,
    ) in
    let served : IsServed bytes r body = record { reads = reads; few = few; told = sym (ap body_of at.fields) ∙ told } in
    judged_whole bytes r body answer served (tells r reads at.method at.path)
