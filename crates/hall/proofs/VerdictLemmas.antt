-- What an undecided verdict, and one of no byte, tell of the bytes and of the end.
use Rattle.std.proofs.Common.{◌≡◌, ℕ, ◌+◌, Bool, true, false, not, ◌&&◌, nat_lt, nat_le, cond, List, [], ◌∷◌, length, refl, sym, subst, arith, rules, tests}
use Rattle.route_http.proofs.CallerLemmas.{more_to}
use Rattle.route_http.specs.declared.heads.Head.{Head}
use Rattle.route_http.specs.declared.heads.Head.TheVariants.{Whole, More, Bad, TooLong}
use Rattle.route_http.specs.declared.heads.Method.{Method}
use Rattle.route_http.specs.declared.heads.Method.TheVariants.{Get, Post, Other}
use Rattle.route_http.specs.declared.span.Span.{Span}
use Rattle.session_answers.proofs.CallerLemmas.{if-so, path-so}
use Rattle.session_answers.specs.Verdicts.{IsVerdict, by_path, is_whole, most_body, of_query, of_upload, part, unfinished, verdict_by}
use Rattle.route_engine.specs.declared.aim.Aim.{Aim}
use Rattle.session_answers.specs.declared.refusal.Refusal.{Refusal}
use Rattle.session_answers.specs.declared.refusal.Refusal.TheVariants.{BadRequest, BodyTooLong, MethodNotAllowed, UnknownPath}
use Rattle.session_answers.specs.declared.verdict.Verdict.{Verdict}
use Rattle.session_answers.specs.declared.verdict.Verdict.TheVariants.{Undecided, NoByte, Refused, Upload, Query}

-- ---- Of a request by a query, or an upload

-- a request by a query is decided, and has a byte
pub record IsDecided (v : Verdict) : Type 0 where
  pub decided : v ≡ Undecided → ⊥
  pub has_byte : v ≡ NoByte → ⊥

refused_is_decided : (r : Refusal) → IsDecided (Refused r)
refused_is_decided r = record { decided = λ h. cc; has_byte = λ h. cc }

query_is_decided : (aim : Aim) (method : Method) (query : Span) (body : ℕ) → IsDecided (of_query aim method query body)
query_is_decided aim Get query body =
    if-so IsDecided (nat_lt most_body body) (Refused BodyTooLong) (Query aim query) (refused_is_decided BodyTooLong)
    (record { decided = λ h. cc; has_byte = λ h. cc })
query_is_decided aim Post query body = refused_is_decided MethodNotAllowed
query_is_decided aim Other query body = refused_is_decided MethodNotAllowed

-- the place of an upload's text
abbrev text_of : ℕ → ℕ → Span
text_of long body = record { start = long; end = long + body }

upload_has_byte : (long : ℕ) (method : Method) (body : ℕ) (bytes : List ℕ) → of_upload long method body bytes ≡ NoByte → ⊥
upload_has_byte long Get body bytes is = cc
upload_has_byte long Other body bytes is = cc
upload_has_byte long Post body bytes is =
    if-so (λ v. v ≡ NoByte → ⊥) (nat_lt most_body body) (Refused BodyTooLong)
    (cond (nat_le (long + body) (length bytes)) (Upload (text_of long body)) Undecided) (λ h. cc)
    (if-so (λ v. v ≡ NoByte → ⊥) (nat_le (long + body) (length bytes)) (Upload (text_of long body)) Undecided (λ h. cc) (λ h. cc)) is

upload_is_decided : (long : ℕ) (method : Method) (body : ℕ) (bytes : List ℕ) → is_whole long method body bytes ≡ true →
    IsDecided (of_upload long method body bytes)
upload_is_decided long Get body bytes whole = refused_is_decided MethodNotAllowed
upload_is_decided long Other body bytes whole = refused_is_decided MethodNotAllowed
upload_is_decided long Post body bytes whole =
    if-so IsDecided (nat_lt most_body body) (Refused BodyTooLong)
    (cond (nat_le (long + body) (length bytes)) (Upload (text_of long body)) Undecided) (refused_is_decided BodyTooLong)
    (subst (λ (b : Bool). IsDecided (cond b (Upload (text_of long body)) Undecided)) (sym whole)
    (record { decided = λ h. cc; has_byte = λ h. cc }))

-- ---- of a whole head

path_has_byte : (path : List ℕ) (long : ℕ) (method : Method) (query : Span) (body : ℕ) (bytes : List ℕ) →
    by_path path long method query body bytes ≡ NoByte → ⊥
path_has_byte path long method query body bytes is =
    path-so (λ v. v ≡ NoByte → ⊥) path long method query body bytes (λ aim. (query_is_decided aim method query body).has_byte)
    (upload_has_byte long method body bytes) (λ h. cc) is

path_is_decided : (path : List ℕ) (long : ℕ) (method : Method) (query : Span) (body : ℕ) (bytes : List ℕ) →
    is_whole long method body bytes ≡ true → IsDecided (by_path path long method query body bytes)
path_is_decided path long method query body bytes whole =
    path-so IsDecided path long method query body bytes (λ aim. query_is_decided aim method query body)
    (upload_is_decided long method body bytes whole) (refused_is_decided UnknownPath)

whole_is_decided : (bytes : List ℕ) (long : ℕ) (method : Method) (path query : Span) (body : ℕ) →
    IsDecided (verdict_by (Whole long method path query body) bytes true)
whole_is_decided bytes long method path query body = by_cases (is_whole long method body bytes) refl
  where
    by_cases : (b : Bool) → is_whole long method body bytes ≡ b → IsDecided (verdict_by (Whole long method path query body) bytes true)
    by_cases true is =
        subst (λ (b : Bool). IsDecided (cond (not b) (Refused BadRequest) (by_path (part bytes path) long method query body bytes)))
        (sym is)
        (path_is_decided (part bytes path) long method query body bytes is)
    by_cases false is =
        subst (λ (b : Bool). IsDecided (cond (not b) (Refused BadRequest) (by_path (part bytes path) long method query body bytes)))
        (sym is)
        (refused_is_decided BadRequest)

-- ---- of any bytes

ended_decides : (head : Head) (bytes : List ℕ) → verdict_by head bytes true ≡ Undecided → ⊥
ended_decides TooLong bytes is = cc
ended_decides Bad bytes is = cc
ended_decides More bytes is = if-so (λ v. v ≡ Undecided → ⊥) (nat_lt 0 (length bytes)) (Refused BadRequest) NoByte (λ h. cc) (λ h. cc) is
ended_decides (Whole long method path query body) bytes is = (whole_is_decided bytes long method path query body).decided is

-- where nothing is fixed, the peer didn't end
pub undecided_goes_on : (bytes : List ℕ) (ended : Bool) → IsVerdict bytes ended Undecided → ended ≡ false
undecided_goes_on bytes false v = refl
undecided_goes_on bytes true v = absurd (ended_decides v.head bytes (sym v.is))

-- no byte came, and the peer ended
pub record IsSilent (bytes : List ℕ) (ended : Bool) : Type 0 where
  pub ends : ended ≡ true
  pub none : bytes ≡ []

none_unfinished : (bytes : List ℕ) (ended : Bool) → unfinished ended bytes ≡ NoByte → IsSilent bytes ended
none_unfinished bytes false is = cc
none_unfinished [] true is = record { ends = refl; none = refl }
none_unfinished (b ∷ bytes) true is = absurd (has_byte b bytes is)
  where
    has_byte : (b : ℕ) (bytes : List ℕ) → cond (nat_lt 0 (length (b ∷ bytes))) (Refused BadRequest) NoByte ≡ NoByte → ⊥
    has_byte b bytes is =
        (let more : nat_lt 0 (length (b ∷ bytes)) ≡ true = search (rules, tests) in
        let refused : Refused BadRequest ≡ NoByte = subst (λ (x : Bool). cond x (Refused BadRequest) NoByte ≡ NoByte) more is in cc)

none_by_head : (head : Head) (bytes : List ℕ) (ended : Bool) → verdict_by head bytes ended ≡ NoByte → IsSilent bytes ended
none_by_head TooLong bytes ended is = cc
none_by_head Bad bytes ended is = cc
none_by_head More bytes ended is = none_unfinished bytes ended is
none_by_head (Whole long method path query body) bytes ended is =
    absurd (if-so (λ v. v ≡ NoByte → ⊥) (ended && not (is_whole long method body bytes)) (Refused BadRequest)
    (by_path (part bytes path) long method query body bytes) (λ h. cc)
    (path_has_byte (part bytes path) long method query body bytes) is)

-- where the verdict is that no byte came, none did, and the peer ended
pub silent_by : (bytes : List ℕ) (ended : Bool) → IsVerdict bytes ended NoByte → IsSilent bytes ended
silent_by bytes ended v = none_by_head v.head bytes ended (sym v.is)

-- nothing is fixed before the first byte
pub nothing_is_undecided : IsVerdict [] false Undecided
nothing_is_undecided = record { head = More; heads = more_to [] refl (omega arith); is = refl }
