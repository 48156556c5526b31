-- What is fixed for a session is one thing, and stands within its bytes.
use Rattle.std.proofs.Common.{◌≡◌, ℕ, ◌+◌, ◌≤◌, Bool, true, false, List, length, refl, sym, ap, ◌∙◌, subst, arith}
use Rattle.std.proofs.lemmas.Bool.Decides.{nat_tests}
use Rattle.std.specs.Prelude.{bytes_eq, not, ◌&&◌, nat_le, nat_lt, if◌then◌else◌}
use Rattle.route_http.proofs.CallerLemmas.{head_unique, head_within}
use Rattle.route_http.specs.Heads.{IsHeadWithin}
use Rattle.route_http.specs.declared.heads.Head.{Head}
use Rattle.route_http.specs.declared.heads.Head.TheVariants as heads
use Rattle.route_http.specs.declared.heads.Method.{Method}
use Rattle.route_http.specs.declared.heads.Method.TheVariants.{Get, Post, Other}
use Rattle.route_http.specs.declared.span.Span.{Span}
use Rattle.session_answers.specs.Verdicts.{IsSpanIn, IsVerdict, IsVerdictIn, certificate_path, by_path, is_whole, most_body, of_body, of_query, of_upload, part, profile_path, route_path, table_path, verdict_by, within_path}
use Rattle.route_engine.specs.declared.aim.Aim.{Aim}
use Rattle.route_engine.specs.declared.aim.Aim.TheVariants.{Certificate, Track, Table, Within}
use Rattle.session_answers.specs.declared.refusal.Refusal.TheVariants.{UnknownPath}
use Rattle.session_answers.specs.declared.verdict.Verdict.{Verdict}
use Rattle.session_answers.specs.declared.verdict.Verdict.TheVariants.{Refused}

-- what is fixed is one thing
pub verdict_unique : (bytes : List ℕ) (ended : Bool) (a b : Verdict) → IsVerdict bytes ended a → IsVerdict bytes ended b → a ≡ b
verdict_unique bytes ended a b one other =
    one.is ∙ ap (λ (h : Head). verdict_by h bytes ended) (head_unique bytes one.head other.head one.heads other.heads) ∙ sym other.is

-- ---- By the path

-- what is so of both of two is so of the one that a test takes
pub if-so : (P : Verdict → Type 0) (test : Bool) (a b : Verdict) → P a → P b → P (if test then a else b)
if-so P true a b first second = first
if-so P false a b first second = second

-- what is so of each that a request may come to by its path
pub path-so : (P : Verdict → Type 0) (path : List ℕ) (long : ℕ) (method : Method) (query : Span) (body : ℕ) (bytes : List ℕ) →
    ((aim : Aim) → P (of_query aim method query body)) → P (of_upload long method body bytes) → P (Refused UnknownPath) →
    P (by_path path long method query body bytes)
path-so P path long method query body bytes asks uploads unknown =
    if-so P (bytes_eq path route_path) _ _ (asks Track)
    (if-so P (bytes_eq path table_path) _ _ (asks Table)
    (if-so P (bytes_eq path certificate_path) _ _ (asks Certificate)
    (if-so P (bytes_eq path within_path) _ _ (asks Within)
    (if-so P (bytes_eq path profile_path) _ _ uploads unknown))))

-- ---- Where it stands

module _ (bytes : List ℕ) where
  -- one of two stands within the bytes, by a test
  if-in : (test : Bool) (a b : Verdict) → (test ≡ true → IsVerdictIn bytes a) → (test ≡ false → IsVerdictIn bytes b) →
      IsVerdictIn bytes (if test then a else b)
  if-in true a b first second = first refl
  if-in false a b first second = second refl

  -- that of an upload whose head stands within the bytes
  body-in : (long body : ℕ) → long ≤ length bytes → IsVerdictIn bytes (of_body long body bytes)
  body-in long body fits =
      if-in (nat_lt most_body body) _ _ (λ e. tt) (λ small.
      if-in (nat_le (long + body) (length bytes)) _ _
      (λ there.
      let few : body ≤ most_body = grind (arith, nat_tests) in
      let ends : long + body ≤ length bytes = grind (arith, nat_tests) in
      (record { ordered = omega arith; fits = ends }, omega arith))
      (λ e. tt))

  -- that of a request by a query that stands within them
  query-in : (aim : Aim) (method : Method) (query : Span) (body : ℕ) → IsSpanIn bytes query →
      IsVerdictIn bytes (of_query aim method query body)
  query-in aim Get query body fits = if-in (nat_lt most_body body) _ _ (λ e. tt) (λ e. fits)
  query-in aim Post query body fits = tt
  query-in aim Other query body fits = tt

  upload-in : (long : ℕ) (method : Method) (body : ℕ) → long ≤ length bytes → IsVerdictIn bytes (of_upload long method body bytes)
  upload-in long Get body fits = tt
  upload-in long Post body fits = body-in long body fits
  upload-in long Other body fits = tt

  -- that of a request by its path
  pub path-in : (path : List ℕ) (long : ℕ) (method : Method) (query : Span) (body : ℕ) → long ≤ length bytes → IsSpanIn bytes query →
      IsVerdictIn bytes (by_path path long method query body bytes)
  path-in path long method query body fits stands =
      path-so (IsVerdictIn bytes) path long method query body bytes (λ aim. query-in aim method query body stands)
      (upload-in long method body fits) tt

  -- that of a head whose places stand within them
  head-in : (head : Head) (ended : Bool) → IsHeadWithin bytes head → IsVerdictIn bytes (verdict_by head bytes ended)
  head-in heads.TooLong ended within = tt
  head-in heads.Bad ended within = tt
  head-in heads.More false within = tt
  head-in heads.More true within = if-in (nat_lt 0 (length bytes)) _ _ (λ e. tt) (λ e. tt)
  head-in (heads.Whole long method path query body) ended within =
      let ends : query.end ≤ length bytes = omega (arith, within) in
      if-in (ended && not (is_whole long method body bytes)) _ _ (λ e. tt) (λ e.
      path-in (part bytes path) long method query body within.0 (record { ordered = within.4; fits = ends }))

-- what is fixed stands within the bytes
pub verdict_in : (bytes : List ℕ) (ended : Bool) (v : Verdict) → IsVerdict bytes ended v → IsVerdictIn bytes v
verdict_in bytes ended v is =
    subst (IsVerdictIn bytes) (sym is.is) (head-in bytes is.head ended (head_within bytes is.head is.heads))
