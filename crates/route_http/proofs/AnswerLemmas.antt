-- What the first bytes of a connection come to, as long as more may come.
use Rattle.std.proofs.Common.{◌≡◌, ◌≢◌, ℕ, ◌+◌, ◌-◌, ◌≤◌, ◌<◌, Bool, true, false, List, [], ◌∷◌, ◌++◌, length, take, drop, refl, sym, ap, ◌∙◌, subst, arith, Option, Some, None, min, length-append, if◌then◌else◌, nat_lt, ◌⊎◌, inl, inr}
use Rattle.std.specs.List.{position_or_len, before_first, after_first}
use Rattle.std.proofs.Math.Nat.{min_comm}
use Rattle.std.proofs.lemmas.Bool.{cases_lt}
use Rattle.std.proofs.lemmas.List.{take-append-le, take-append-drop, take_min, take_all, append-nil, length-take}
use Rattle.std.proofs.Math.Seq.{take-append-add, take-append_seam}
use Rattle.std.proofs.lemmas.Bool.Decides.{Decides-ltb}
use Rattle.httparse.specs.Grammar.{print_blank, RequestHead, ReadsRequest}
use Rattle.httparse.proofs.GrammarLemmas.{print_request-append, request_unique}
use Rattle.route_http.specs.declared.heads.Head.{Head}
use Rattle.route_http.specs.declared.heads.Head.TheVariants as head
use Rattle.route_http.specs.declared.heads.Method.{Method}
use Rattle.route_http.specs.declared.span.Span.{Span}
use Rattle.route_http.specs.Ends.{end_of}
use Rattle.route_http.specs.Heads.{is_mark, target_start, IsServed, Tells, IsJudged, head_end, unended, IsHeadUpTo, IsHeadOf, IsHeadWithin}
use Rattle.route_http.proofs.EndLemmas.{end_append, end_fits, end_none}

-- ---- As the code looks for the end

-- a front of a front is a front
shorter : (k m : ℕ) (xs : List ℕ) → k ≤ length (take m xs) → take k (take m xs) ≡ take k xs
shorter k m xs fits = sym (take-append-le k (take m xs) (drop m xs) fits) ∙ ap (λ (l : List ℕ). take k l) (take-append-drop m xs)

-- the front in which the end has to stand
front_is : (bytes : List ℕ) → take (min (length bytes) 16384) bytes ≡ take 16384 bytes
front_is bytes = ap (λ (k : ℕ). take k bytes) (min_comm (length bytes) 16384) ∙ take_min 16384 bytes

-- where no end stands within the first bytes, none does within those of them that are in the front
front_none : (bytes : List ℕ) (from : ℕ) → from ≤ length bytes → end_of (take from bytes) ≡ None
    → end_of (take (min from 16384) (take (min (length bytes) 16384) bytes)) ≡ None
front_none bytes from fits none =
    let front_fits : min from 16384 ≤ length (take (min (length bytes) 16384) bytes) =
    omega (arith, length-take (min (length bytes) 16384) bytes) in
    let first_fits : min from 16384 ≤ length (take from bytes) = omega (arith, length-take from bytes) in
    ap end_of (shorter (min from 16384) (min (length bytes) 16384) bytes front_fits ∙ sym (shorter (min from 16384) from bytes first_fits))
    ∙ end_none (min from 16384) (take from bytes) none

-- the same, where the numbers are told by names
pub cut_none : (bytes : List ℕ) (from few most : ℕ) → few ≡ min from 16384 → most ≡ min (length bytes) 16384 → from ≤ length bytes
    → end_of (take from bytes) ≡ None → end_of (take few (take most bytes)) ≡ None
cut_none bytes from few most few_is most_is fits none =
    ap (λ (k : ℕ). end_of (take k (take most bytes))) few_is
    ∙ ap (λ (k : ℕ). end_of (take (min from 16384) (take k bytes))) most_is
    ∙ front_none bytes from fits none

-- what bytes come to, where their end was looked for in so many bytes
pub head_is : (bytes : List ℕ) (most : ℕ) (found seen : Option ℕ) (answer : Head) → most ≡ min (length bytes) 16384
    → found ≡ end_of (take most bytes) → found ≡ seen → IsHeadUpTo bytes seen answer → IsHeadOf bytes answer
unfolding IsHeadOf
head_is bytes most found seen answer most_is found_is is up_to =
    subst (λ (a : Option ℕ). IsHeadUpTo bytes a answer)
    (sym is ∙ found_is ∙ ap end_of (ap (λ (k : ℕ). take k bytes) most_is ∙ front_is bytes)) up_to

-- ---- The places that are told

-- four parts in a row with a byte between
parts_long : (a b c d bytes : List ℕ) → bytes ≡ a ++ (b ++ 32 ∷ (c ++ d)) → length a + length b + 1 + length c ≤ length bytes
parts_long a b c d bytes e =
    omega (arith, ap length e, length-append a (b ++ 32 ∷ (c ++ d)), length-append b (32 ∷ (c ++ d)), length-append c d)

-- the target of a request stands within it
target_within : (bytes : List ℕ) (r : RequestHead) → ReadsRequest bytes r [] → target_start r + length r.target ≤ length bytes
target_within bytes r reads =
    parts_long (print_blank r.blank) r.method r.target _ bytes (reads.1 ∙ print_request-append r [])

-- the places that a head tells are within it
judged_within : (bytes front : List ℕ) (answer : Head) → length front ≤ length bytes → length front ≤ 16384 → IsJudged front answer
    → IsHeadWithin bytes answer
judged_within bytes front (head.Whole long method path query body) fits few judged =
    let r = judged.0 in
    let served : IsServed front r body = judged.1 in
    let tells : Tells front r long method path query = judged.2 in
    let within : target_start r + length r.target ≤ length front = target_within front r served.reads in
    let path_fits : length (before_first is_mark r.target) ≤ length r.target =
    omega (arith, length-take (position_or_len is_mark r.target) r.target) in
    let long_is : long ≡ length front = tells.long_is in
    let path_start : path.start ≡ target_start r = ap (λ (s : Span). s.start) tells.path_is in
    let path_end : path.end ≡ target_start r + length (before_first is_mark r.target) = ap (λ (s : Span). s.end) tells.path_is in
    let query_start : query.start ≡ target_start r + (length r.target - length (after_first is_mark r.target)) =
    ap (λ (s : Span). s.start) tells.query_is in
    let query_end : query.end ≡ target_start r + length r.target = ap (λ (s : Span). s.end) tells.query_is in
    (omega arith, omega arith, omega arith, omega arith, omega arith, omega arith)
judged_within bytes front head.More fits few judged = tt
judged_within bytes front head.Bad fits few judged = tt
judged_within bytes front head.TooLong fits few judged = tt

-- what an answer without an end says of places
unended_within : (bytes : List ℕ) (test : Bool) (answer : Head) → answer ≡ (if test then head.More else head.TooLong) →
    IsHeadWithin bytes answer
unended_within bytes true answer is = subst (λ (a : Head). IsHeadWithin bytes a) (sym is) tt
unended_within bytes false answer is = subst (λ (a : Head). IsHeadWithin bytes a) (sym is) tt

-- the places that an answer tells are within the bytes
pub head_within : (bytes : List ℕ) (answer : Head) → IsHeadOf bytes answer → IsHeadWithin bytes answer
unfolding IsHeadOf
head_within bytes answer is =
    elim (head_end bytes) as (λ (a : Option ℕ). head_end bytes ≡ a → IsHeadUpTo bytes a answer → IsHeadWithin bytes answer) [
      | None ↦ λ none up_to. unended_within bytes (nat_lt (length bytes) 16384) answer up_to
      | Some n ↦ λ some up_to.
          let fits = end_fits (take 16384 bytes) n some in
          let front_long : length (take n bytes) ≡ min n (length bytes) = length-take n bytes in
          let limit_long : length (take 16384 bytes) ≡ min 16384 (length bytes) = length-take 16384 bytes in
          judged_within bytes (take n bytes) answer (omega arith) (omega arith) up_to
    ] refl is

-- ---- More bytes

-- so many bytes without an end are too long
unended_long : (k : ℕ) → 16384 ≤ k → unended k ≡ head.TooLong
unended_long k long =
    elim (nat_lt k 16384) as (λ (t : Bool). nat_lt k 16384 ≡ t → (if t then head.More else head.TooLong) ≡ head.TooLong) [
      | true ↦ λ is. let less : k < 16384 = (Decides-ltb k 16384).0 is in absurd (omega arith)
      | false ↦ λ is. refl
    ] refl

-- fewer may get an end
unended_short : (k : ℕ) → k < 16384 → unended k ≡ head.More
unended_short k short = ap (λ (t : Bool). if t then head.More else head.TooLong) ((Decides-ltb k 16384).1 short)

-- a front of more bytes is a front of fewer, and more
front_append : (n : ℕ) (xs ys : List ℕ) → take n (xs ++ ys) ≡ take n xs ++ take (n - length xs) ys
front_append n xs ys =
    elim (cases_lt (length xs) n) [
      | inl longer ↦
          ap (λ (k : ℕ). take k (xs ++ ys)) (let e : n ≡ length xs + (n - length xs) = omega arith in e)
          ∙ take-append-add xs ys (n - length xs)
          ∙ ap (λ (l : List ℕ). l ++ take (n - length xs) ys) (sym (take_all n xs (omega arith)))
      | inr shorter ↦
          take-append-le n xs ys shorter ∙ sym (append-nil (take n xs))
          ∙ ap (λ (k : ℕ). take n xs ++ take k ys) (let e : 0 ≡ n - length xs = omega arith in e)
    ]

-- an end that is there stays, whatever follows
head_end-append : (bytes more : List ℕ) (n : ℕ) → head_end bytes ≡ Some n → head_end (bytes ++ more) ≡ Some n
head_end-append bytes more n is =
    ap end_of (front_append 16384 bytes more) ∙ end_append (take 16384 bytes) (take (16384 - length bytes) more) n is

-- whether so many bytes are fewer than may be looked at
few_or_many : (k : ℕ) → (k < 16384) ⊎ (16384 ≤ k)
few_or_many k = cases_lt k 16384

-- once an answer isn't `More`, more bytes change nothing
pub head_stays : (bytes more : List ℕ) (answer : Head) → IsHeadOf bytes answer → answer ≢ head.More → IsHeadOf (bytes ++ more) answer
unfolding IsHeadOf
head_stays bytes more answer is other =
    elim (head_end bytes) as (λ (a : Option ℕ). head_end bytes ≡ a → IsHeadUpTo bytes a answer →
    IsHeadUpTo (bytes ++ more) (head_end (bytes ++ more)) answer) [
      | None ↦ λ none up_to.
          elim (few_or_many (length bytes)) [
            | inl few ↦ absurd (other (up_to ∙ unended_short (length bytes) few))
            | inr many ↦
                let same : head_end (bytes ++ more) ≡ None = ap end_of (take-append-le 16384 bytes more many) ∙ none in
                let longer : 16384 ≤ length (bytes ++ more) = omega (arith, length-append bytes more) in
                subst (λ (a : Option ℕ). IsHeadUpTo (bytes ++ more) a answer) (sym same)
                (up_to ∙ unended_long (length bytes) many ∙ sym (unended_long (length (bytes ++ more)) longer))
          ]
      | Some n ↦ λ some up_to.
          let fits = end_fits (take 16384 bytes) n some in
          let within : n ≤ length bytes = omega (arith, length-take 16384 bytes) in
          subst (λ (a : Option ℕ). IsHeadUpTo (bytes ++ more) a answer) (sym (head_end-append bytes more n some))
          (subst (λ (l : List ℕ). IsJudged l answer) (sym (take-append-le n bytes more within)) up_to)
    ] refl is

-- fewer bytes than are looked at are all looked at
all_front : (bytes : List ℕ) → length bytes < 16384 → take 16384 bytes ≡ bytes
all_front bytes few = take_all 16384 bytes (omega arith)

-- `More` is answered only where no empty line ends and there are fewer than 16,384 bytes
pub more_from : (bytes : List ℕ) → IsHeadOf bytes head.More → (end_of bytes ≡ None) × (length bytes < 16384)
unfolding IsHeadOf
more_from bytes is =
    elim (head_end bytes) as (λ (a : Option ℕ). head_end bytes ≡ a → IsHeadUpTo bytes a head.More →
    (end_of bytes ≡ None) × (length bytes < 16384)) [
      | None ↦ λ none up_to.
          elim (few_or_many (length bytes)) [
            | inl few ↦ (ap end_of (sym (all_front bytes few)) ∙ none, few)
            | inr many ↦ let both : head.More ≡ head.TooLong = up_to ∙ unended_long (length bytes) many in absurd (cc)
          ]
      | Some n ↦ λ some up_to. absurd up_to
    ] refl is

-- and there it is answered
pub more_to : (bytes : List ℕ) → end_of bytes ≡ None → length bytes < 16384 → IsHeadOf bytes head.More
unfolding IsHeadOf
more_to bytes none few =
    let same : head_end bytes ≡ None = ap end_of (all_front bytes few) ∙ none in
    subst (λ (a : Option ℕ). IsHeadUpTo bytes a head.More) (sym same) (sym (unended_short (length bytes) few))

-- where bytes came to `More`, no empty line ends within them when others have come behind them
pub more_behind : (bytes more : List ℕ) → IsHeadOf bytes head.More → end_of (take (length bytes) (bytes ++ more)) ≡ None
more_behind bytes more is = ap end_of (take-append_seam bytes more) ∙ (more_from bytes is).0

-- where no empty line ends within the first bytes, none does within them in a longer front
pub none_longer : (bytes : List ℕ) (came longer : ℕ) → came ≤ longer → longer ≤ length bytes → end_of (take came bytes) ≡ None
    → end_of (take came (take longer bytes)) ≡ None
none_longer bytes came longer below fits none =
    let front : came ≤ length (take longer bytes) = omega (arith, length-take longer bytes) in
    ap end_of (shorter came longer bytes front) ∙ none

-- ---- One answer

-- two heads of one request are one
same_whole : (bytes : List ℕ) (r : RequestHead) (long m : ℕ) (method n : Method) (path p query q : Span) (body b : ℕ) →
    IsServed bytes r body
    → IsServed bytes r b → Tells bytes r long method path query → Tells bytes r m n p q
    → head.Whole long method path query body ≡ head.Whole m n p q b
same_whole bytes r long m method n path p query q body b one other first second =
    let bodies : ◌≡◌ {A = Option ℕ} (Some body) (Some b) = sym one.told ∙ other.told in
    let body_same : body ≡ b = cc in
    let long_same : long ≡ m = first.long_is ∙ sym second.long_is in
    let method_same : method ≡ n = first.method_is ∙ sym second.method_is in
    let path_same : path ≡ p = first.path_is ∙ sym second.path_is in
    let query_same : query ≡ q = first.query_is ∙ sym second.query_is in
    cc

-- what the bytes of a head come to is one answer
judged_unique : (bytes : List ℕ) (a b : Head) → IsJudged bytes a → IsJudged bytes b → a ≡ b
judged_unique bytes (head.Whole long method path query body) (head.Whole m n p q b) one other =
    let r = one.0 in
    let same : other.0 ≡ r = (request_unique bytes other.0 r [] [] other.1.reads one.1.reads).0 in
    same_whole bytes r long m method n path p query q body b one.1 (subst (λ (r : RequestHead). IsServed bytes r b) same other.1) one.2
    (subst (λ (r : RequestHead). Tells bytes r m n p q) same other.2)
judged_unique bytes (head.Whole long method path query body) head.More one other = elim other [ ]
judged_unique bytes (head.Whole long method path query body) head.Bad one other = absurd (other one.0 body one.1)
judged_unique bytes (head.Whole long method path query body) head.TooLong one other = elim other [ ]
judged_unique bytes head.More b one other = elim one [ ]
judged_unique bytes head.Bad (head.Whole m n p q b) one other = absurd (one other.0 b other.1)
judged_unique bytes head.Bad head.More one other = elim other [ ]
judged_unique bytes head.Bad head.Bad one other = refl
judged_unique bytes head.Bad head.TooLong one other = elim other [ ]
judged_unique bytes head.TooLong b one other = elim one [ ]

-- what bytes come to, whose head ends here, is one answer
up_to_unique : (bytes : List ℕ) (end : Option ℕ) (a b : Head) → IsHeadUpTo bytes end a → IsHeadUpTo bytes end b → a ≡ b
up_to_unique bytes None a b one other = one ∙ sym other
up_to_unique bytes (Some n) a b one other = judged_unique (take n bytes) a b one other

-- what bytes come to is one answer
pub head_unique : (bytes : List ℕ) (a b : Head) → IsHeadOf bytes a → IsHeadOf bytes b → a ≡ b
unfolding IsHeadOf
head_unique bytes a b one other = up_to_unique bytes (head_end bytes) a b one other
