-- What bytes come to holds in one way.
use Rattle.std.proofs.Common.{◌≡◌, ℕ, List, [], Option, Some, None}
use Rattle.std.proofs.Props.{props}
use mathlib.Core.HLevel.{is_prop→PathP}
use Rattle.httparse.specs.Grammar.{RequestHead}
use Rattle.httparse.proofs.GrammarLemmas.{request_unique}
use Rattle.route_http.specs.declared.heads.Head.{Head}
use Rattle.route_http.specs.declared.heads.Head.TheVariants as head
use Rattle.route_http.specs.declared.heads.Method.{Method}
use Rattle.route_http.specs.declared.span.Span.{Span}
use Rattle.route_http.specs.Heads.{IsHeadOf, IsHeadUpTo, IsJudged, IsServed, Tells, head_end}

served-prop : (bytes : List ℕ) (r : RequestHead) (body : ℕ) → IsProp (IsServed bytes r body)
served-prop bytes r body = hlevel props

tells-prop : (bytes : List ℕ) (r : RequestHead) (long : ℕ) (method : Method) (path query : Span) →
    IsProp (Tells bytes r long method path query)
tells-prop bytes r long method path query = hlevel props

judged-prop : (bytes : List ℕ) (answer : Head) → IsProp (IsJudged bytes answer)
judged-prop bytes (head.Whole long method path query body) = λ a b.
    let same : a.0 ≡ b.0 = (request_unique bytes a.0 b.0 [] [] a.1.reads b.1.reads).0 in
    λ i. (
      same i,
      is_prop→PathP (λ j. IsServed bytes (same j) body) (λ j. served-prop bytes (same j) body) a.1 b.1 i,
      is_prop→PathP (λ j. Tells bytes (same j) long method path query)
          (λ j. tells-prop bytes (same j) long method path query) a.2 b.2 i,
    )
judged-prop bytes head.More = hlevel props
judged-prop bytes head.Bad = hlevel props
judged-prop bytes head.TooLong = hlevel props

up_to-prop : (bytes : List ℕ) (end : Option ℕ) (answer : Head) → IsProp (IsHeadUpTo bytes end answer)
up_to-prop bytes None answer = hlevel props
up_to-prop bytes (Some n) answer = hlevel (props, judged-prop)

pub heads-prop : (bytes : List ℕ) (answer : Head) → IsProp (IsHeadOf bytes answer)
unfolding IsHeadOf
heads-prop bytes answer = up_to-prop bytes (head_end bytes) answer
